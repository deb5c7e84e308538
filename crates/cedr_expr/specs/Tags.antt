-- Tags: numbers that are the same for a left and a right payload that pass tests together.
use Rattle.std.specs.Prelude.{ℕ, ◌+◌, ◌*◌, ◌/◌, ◌%◌, List, [], ◌∷◌, length, nat_eq, if◌then◌else◌}
use Rattle.cedr_base.specs.declared.field.Field.{Field}
use Rattle.cedr_base.specs.FieldCodes.{field_code}
use Rattle.cedr_expr.specs.declared.side.Side.{Side}
use Rattle.cedr_expr.specs.declared.side.Side.TheVariants.{Left, Right}
use Rattle.cedr_expr.specs.declared.test.Test.{Test}
use Rattle.cedr_expr.specs.Ties.{tied_fields}

-- a number into which another one is mixed, modulo 2^64
abbrev pub mixed : ℕ → ℕ → ℕ
mixed h n = (h * 1099511628211 + n) % 18446744073709551616

-- a number into which others are mixed, one after the other
abbrev pub all_mixed : ℕ → List ℕ → ℕ
all_mixed h [] = h
all_mixed h (n ∷ ns) = all_mixed (mixed h n) ns

-- a number into which a field is mixed: the bytes of its code, of which the last one is multiplied once more
abbrev pub field_mixed : ℕ → Field → ℕ
field_mixed h f = mixed (all_mixed h (field_code f)) 0

-- a number into which fields are mixed, one after the other
abbrev pub fields_mixed : ℕ → List Field → ℕ
fields_mixed h [] = h
fields_mixed h (f ∷ fs) = fields_mixed (field_mixed h f) fs

-- the tag of a field, from 1 to 2^62
abbrev pub field_tag : Field → ℕ
field_tag field = field_mixed 0 field / 4 + 1

-- the tag of one side's payload, from 1 to 2^62, where left payloads have this many fields
abbrev pub tag_of : Side → ℕ → List Test → List Field → ℕ
tag_of side width tests payload = fields_mixed 0 (tied_fields side width payload tests) / 4 + 1

-- the tag of a left payload beside left payloads of this width, and 0 where it has another one
abbrev pub left_tag : ℕ → List Test → List Field → ℕ
left_tag width tests payload = if nat_eq (length payload) width then tag_of Left width tests payload else 0

-- the tag of a right payload beside left payloads of this width
abbrev pub right_tag : ℕ → List Test → List Field → ℕ
right_tag width tests payload = tag_of Right width tests payload

-- the tag of a payload on one side
abbrev pub side_tag : Side → ℕ → List Test → List Field → ℕ
side_tag Left width tests payload = left_tag width tests payload
side_tag Right width tests payload = right_tag width tests payload
