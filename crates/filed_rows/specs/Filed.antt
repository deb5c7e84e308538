-- Rows that are filed under tags.
use Rattle.std.specs.Prelude.{ℕ, ◌≡◌, ◌≢◌, List, [], ◌++◌, Option, Some, unwrap_or, nat_eq, if◌then◌else◌}
use Rattle.std.specs.List.{flat_map}
use Rattle.std.specs.Map.{lookup}
use Rattle.std.specs.BTreeMap.{is_at}
use Rattle.std.specs.Ordering.{nat_cmp}
use Rattle.cedr_base.specs.declared.field.Field.{Field}
use Rattle.cedr_base.specs.declared.row.Row.{Row}
use Rattle.cedr_base.specs.Rows.{count_of}

-- tags with the rows under each
abbrev pub FiledRows : Type 0
FiledRows = List (ℕ × List Row)

-- the rows under a tag
abbrev pub under : FiledRows → ℕ → List Row
under filed tag = unwrap_or (lookup (is_at (nat_cmp tag)) filed) []

-- what stands at a tag, if anything does
abbrev pub filed_at : FiledRows → ℕ → Option (List Row)
filed_at filed tag = lookup (is_at (nat_cmp tag)) filed

-- what stands at a tag has a row
abbrev pub IsInUse : FiledRows → ℕ → Type 0
IsInUse filed tag = (rows : List Row) → filed_at filed tag ≡ Some rows → rows ≢ []

-- the rows under all tags
abbrev pub all_under : FiledRows → List Row
all_under filed = flat_map (λ e. e.1) filed

-- the rows of a bag are filed, each under its tag and no other
pub record Files (tag : List Field → ℕ) (filed : FiledRows) (rows : List Row) : Type 0 where
  pub there : (r : Row) → count_of r (under filed (tag r.payload)) ≡ count_of r rows
  pub only : (t : ℕ) (r : Row) → t ≢ tag r.payload → count_of r (under filed t) ≡ 0

-- right rows that may pass with a left row: those under its tag, and all where that is 0
abbrev pub right_partners : FiledRows → ℕ → List Row
right_partners rights tag = if nat_eq tag 0 then all_under rights else under rights tag

-- left rows that may pass with a right row: those under its tag, and those of another width
abbrev pub left_partners : FiledRows → ℕ → List Row
left_partners lefts tag = under lefts tag ++ under lefts 0
