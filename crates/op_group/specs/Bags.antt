-- The fields of the groups' rows, as bags of them keep them.
use Rattle.std.specs.Prelude.{ℕ, ◌≡◌, ◌+◌, ◌≤◌, List, [], ◌++◌, not, Option, None, Some, option_map, nat_eq, sum_by}
use Rattle.std.specs.List.{filter, filter_map, flat_map, list_any, slice_get}
use Rattle.std.specs.Map.{lookup}
use Rattle.std.specs.BTreeMap.{is_at}
use Rattle.cedr_base.specs.declared.field.Field.{Field}
use Rattle.cedr_base.specs.declared.row.Row.{Row}
use Rattle.cedr_base.specs.Order.{payload_cmp}
use Rattle.cedr_living.specs.declared.living.LivingFields.{LivingFields}
use Rattle.op_group.specs.declared.segment.Totalled.{Totalled}
use Rattle.cedr_living.specs.Bags.{KeepsLives, IsEmpty, AllEnd}
use Rattle.cedr_living.specs.Lives.{Living}

-- a row's field in a column, which lives as the row does, if the row has the column
abbrev pub life_in : Row → ℕ → Option Living
life_in r column = option_map (λ f. record { column = column; begin = r.begin; end = r.end; field = f }) (slice_get r.payload column)

-- a row's fields in some columns
abbrev pub field_lives : List ℕ → Row → List Living
field_lives columns r = filter_map (life_in r) columns

-- some columns without others
abbrev pub columns_but : List ℕ → List ℕ → List ℕ
columns_but but columns = filter (λ column. not (list_any (λ other. nat_eq other column) but)) columns

-- the columns whose fields are kept: each whose least field is asked for, and each other one whose greatest field is
abbrev pub indexed : Totalled → List ℕ
indexed asked = columns_but [] asked.least ++ columns_but asked.least asked.greatest

-- the fields of rows that are kept
abbrev pub lives_of : Totalled → List Row → List Living
lives_of asked rows = flat_map (field_lives (indexed asked)) rows

-- a bag gets some lives
pub record ComesTo (old new : LivingFields) (more : List Living) : Type 0 where
  pub from_stays : new.from ≡ old.from
  pub keeps : (lives others : List Living) → KeepsLives old lives → ((w : Living → ℕ) → sum_by w others ≡ sum_by w more + sum_by w lives) → KeepsLives new others

-- some lives go from a bag
pub record GoesFrom (old new : LivingFields) (less : List Living) : Type 0 where
  pub from_stays : new.from ≡ old.from
  pub keeps : (lives rest : List Living) → KeepsLives old lives → ((w : Living → ℕ) → sum_by w lives ≡ sum_by w less + sum_by w rest) → KeepsLives new rest

-- the bag of the group with a key, if it has one
abbrev pub bag_at : List (List Field × LivingFields) → List Field → Option LivingFields
bag_at bags key = lookup (is_at (payload_cmp key)) bags

-- the bag of the group with a key, if it has one, has a life
abbrev pub IsLive : List (List Field × LivingFields) → List Field → Type 0
IsLive bags key = (bag : LivingFields) → bag_at bags key ≡ Some bag → IsEmpty bag → ⊥

-- A bag keeps lives, and tells of each time from a mark on that was passed. Where there is no bag, all lives have ended by
-- then.
abbrev pub BagKeeps : Option LivingFields → ℕ → List Living → Type 0
BagKeeps None passed lives = AllEnd passed lives
BagKeeps (Some bag) passed lives = KeepsLives bag lives × (bag.from ≤ passed)
