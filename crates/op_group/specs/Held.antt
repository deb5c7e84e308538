-- What an operator over groups keeps between changes, as rows.
use Rattle.std.specs.Prelude.{ℕ, List, [], ◌∷◌, ◌++◌, map}
use Rattle.std.specs.List.{flat_map}
use Rattle.std.specs.BTreeMap.{BTreeMap}
use Rattle.cedr_base.specs.declared.time.TheConstants.{FOREVER}
use Rattle.cedr_base.specs.declared.field.Field.{Field}
use Rattle.cedr_base.specs.declared.row.Row.{Row}
use Rattle.cedr_table.specs.Operators.{Tables}
use Rattle.cedr_living.specs.Lives.{Living}
use Rattle.cedr_living.specs.declared.living.LivingFields.{LivingFields}
use Rattle.op_group.specs.declared.segment.Segment.{Segment}
use Rattle.cedr_living.specs.Bags.{held_lives}

-- the first of some cut points, and FOREVER where there is none
abbrev pub first_cut : List (ℕ × Segment) → ℕ
first_cut [] = FOREVER
first_cut (cut ∷ cuts) = cut.0

-- the cut points of a group: a row from each one to the next, with the group's key as its payload
abbrev pub cut_rows : List Field → List (ℕ × Segment) → List Row
cut_rows key [] = []
cut_rows key (cut ∷ cuts) = record { end = first_cut cuts; begin = cut.0; payload = key } ∷ cut_rows key cuts

-- the cut points of all groups
abbrev pub group_rows : List (List Field × BTreeMap ℕ Segment) → List Row
group_rows groups = flat_map (λ group. cut_rows group.0 group.1.entries) groups

-- a field that lives, as a row with its life, the group's key and then the field
abbrev pub field_row : List Field → Living → Row
field_row key l = record { end = l.end; begin = l.begin; payload = key ++ (l.field ∷ []) }

-- the fields of all groups
abbrev pub bag_rows : List (List Field × LivingFields) → List Row
bag_rows bags = flat_map (λ bag. map (field_row bag.0) (held_lives bag.1)) bags

-- the cut points and the fields of all groups, on the only port
abbrev pub group_held : List (List Field × BTreeMap ℕ Segment) → List (List Field × LivingFields) → Tables
group_held groups bags = (group_rows groups ++ bag_rows bags) ∷ []
