-- A bag as its rows with their counts.
use Rattle.std.specs.Prelude.{ℕ, ◌≡◌, ◌≢◌, ◌<◌, List, [], ◌∷◌, ◌++◌, Bool, true, false, Option, Some, None, nat_lt, unwrap_or, replicate, length}
use Rattle.std.specs.List.{flat_map}
use Rattle.std.specs.List.Sorted.{IsStrictlySortedBy}
use Rattle.std.specs.Map.{lookup, keys_of}
use Rattle.std.specs.BTreeMap.{is_at}
use Rattle.std.specs.Ordering.{is_le}
use Rattle.cedr_base.specs.declared.row.Row.{Row}
use Rattle.cedr_base.specs.declared.change.Change.{Change}
use Rattle.cedr_base.specs.declared.change.Change.TheVariants.{Add, Cut}
use Rattle.cedr_base.specs.Rows.{row_cmp, count_of, SameRows}

-- how many copies of a row there are
abbrev pub copies : List (Row × ℕ) → Row → ℕ
copies entries q = unwrap_or (lookup (is_at (row_cmp q)) entries) 0

-- each row as often as its count says
abbrev pub spread : List (Row × ℕ) → List Row
spread entries = flat_map (λ e. replicate e.1 e.0) entries

-- no row is kept of which there is no copy
abbrev pub EachIsThere : List (Row × ℕ) → Type 0
EachIsThere entries = (q : Row) → lookup (is_at (row_cmp q)) entries ≢ Some 0

-- of each row there is a copy
abbrev pub AreThere : List (Row × ℕ) → Type 0
AreThere [] = Unit {0}
AreThere (e ∷ es) = (0 < e.1) × AreThere es

-- the rows ascend, each is there, and the length is that of the bag
pub record IsCounted (entries : List (Row × ℕ)) (len : ℕ) : Type 0 where
  pub ordered : IsStrictlySortedBy row_cmp (keys_of entries)
  pub there : EachIsThere entries
  pub len_is : len ≡ length (spread entries)

-- the change cuts a row that isn't there
abbrev pub LacksRow : List Row → Change → Type 0
LacksRow rows (Add r) = ⊥
LacksRow rows (Cut r e) = count_of r rows ≡ 0

-- a row of a bag stands after no other one in canonical order
pub record IsFirst (row : Row) (rows : List Row) : Type 0 where
  pub there : 0 < count_of row rows
  pub least : (r : Row) → 0 < count_of r rows → is_le (row_cmp row r) ≡ true

-- a row ends after a time
abbrev pub ends_after : ℕ → Row → Bool
ends_after time r = nat_lt time r.end

-- All copies of one row that passes a test are taken out of a bag; or none passes, and nothing is.
abbrev pub IsTakenOut : (Row → Bool) → List Row → List Row → Option (Row × ℕ) → Type 0
IsTakenOut goes old new None = (new ≡ old) × ((r : Row) → 0 < count_of r old → goes r ≡ false)
IsTakenOut goes old new (Some p) = (goes p.0 ≡ true) × (0 < p.1) × (p.1 ≡ count_of p.0 old) × SameRows (replicate p.1 p.0 ++ new) old

-- two bags have the same rows among those that pass a test
pub record SameAmong (p : Row → Bool) (xs ys : List Row) : Type 0 where
  pub each : (r : Row) → p r ≡ true → count_of r xs ≡ count_of r ys
