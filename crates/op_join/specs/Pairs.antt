-- The pairs of a changed row.
use Rattle.std.specs.Prelude.{ℕ, List, [], ◌∷◌, ◌++◌, Bool, nat_lt, min, max, map, if◌then◌else◌}
use Rattle.std.specs.List.{flat_map}
use Rattle.cedr_base.specs.declared.field.Field.{Field}
use Rattle.cedr_base.specs.declared.row.Row.{Row}
use Rattle.cedr_base.specs.declared.change.Change.{Change}
use Rattle.cedr_base.specs.declared.change.Change.TheVariants.{Add, Cut}
use Rattle.cedr_expr.specs.declared.side.Side.{Side}
use Rattle.cedr_expr.specs.declared.side.Side.TheVariants.{Left, Right}
use Rattle.op_join.specs.Joins.{PairTest, meet}
use Rattle.cedr_base.specs.Changes.{changed_row}

-- whether two payloads pass, seen from the side of the first row
abbrev pub passes_on : PairTest → Side → List Field → List Field → Bool
passes_on pass Left x y = pass x y
passes_on pass Right x y = pass y x

-- two payloads joined, the left one first, seen from the side of the first row
abbrev pub both_on : Side → List Field → List Field → List Field
both_on Left x y = x ++ y
both_on Right x y = y ++ x

-- the row of a changed row and another one
abbrev pub met : PairTest → Side → Row → Row → List Row
met pass side a o = meet (passes_on pass side a.payload o.payload) (both_on side a.payload o.payload) (max a.begin o.begin) (min a.end o.end)

-- a row of the result ends at e at the latest
abbrev pub cut_to : ℕ → Row → List Change
cut_to e r = if nat_lt e r.end then Cut r (max e r.begin) ∷ [] else []

-- what a change does to the row of a pair
abbrev pub pair_changes : Change → List Row → List Change
pair_changes (Add a) rows = map (λ r. Add r) rows
pair_changes (Cut a e) rows = flat_map (cut_to e) rows

-- what a change does to the rows of all its pairs
abbrev pub all_changes : PairTest → Side → Change → List Row → List Change
all_changes pass side c others = flat_map (λ o. pair_changes c (met pass side (changed_row c) o)) others
