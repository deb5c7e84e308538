-- Bags of lives.
use Rattle.std.specs.Prelude.{ℕ, ◌≡◌, ◌<◌, ◌≤◌, ◌⊎◌, List, [], ◌∷◌, Bool, nat_lt, nat_le}
use Rattle.std.specs.List.{flat_map, list_any}
use Rattle.std.specs.BTreeMap.{is_at}
use Rattle.std.specs.Ordering.{nat_cmp, ordering_then}
use Rattle.std.specs.declared.cmp.Ordering.{Ordering}
use Rattle.cedr_base.specs.declared.row.Row.{Row}
use Rattle.cedr_base.specs.Rows.{count_of}
use Rattle.op_except.specs.declared.lives.Life.{Life}

-- a life as a row with no field
abbrev pub life_row : ℕ → ℕ → Row
life_row begin end = record { end = end; begin = begin; payload = [] }

-- the lives of rows
abbrev pub bares : List Row → List Row
bares rows = flat_map (λ r. life_row r.begin r.end ∷ []) rows

-- lives compare by their begins, then by their ends
abbrev pub life_cmp : Life → Life → Ordering
life_cmp a b = ordering_then (nat_cmp a.begin b.begin) (nat_cmp a.end b.end)

-- a life stands in a set
abbrev pub has_life : List Life → ℕ → ℕ → Bool
has_life lives begin end = list_any (is_at (life_cmp (record { begin = begin; end = end }))) lives

-- a set has the lives of a bag
pub record AreLives (lives : List Life) (rows : List Row) : Type 0 where
  pub bare : (r : Row) → 0 < count_of r rows → r.payload ≡ []
  pub each : (begin end : ℕ) → has_life lives begin end ≡ nat_lt 0 (count_of (life_row begin end) rows)

-- a row doesn't end before a mark
abbrev pub lasts_to : ℕ → Row → Bool
lasts_to mark r = nat_le mark r.end

-- the least of a mark and of the begins of rows
pub record IsEarliest (rows : List Row) (mark least : ℕ) : Type 0 where
  pub below : least ≤ mark
  pub first : (r : Row) → 0 < count_of r rows → least ≤ r.begin
  pub found : (least ≡ mark) ⊎ ((r : Row) × (0 < count_of r rows) × (r.begin ≡ least))
