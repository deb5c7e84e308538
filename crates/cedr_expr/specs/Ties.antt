-- Which fields of a left and of a right payload tests want equal.
use Rattle.std.specs.Prelude.{ℕ, List, Option, Some, None, nat_lt, nat_le, ◌-◌, ◌&&◌, if◌then◌else◌}
use Rattle.std.specs.Option.{option_and_then}
use Rattle.std.specs.List.{slice_get, filter_map}
use Rattle.cedr_base.specs.declared.field.Field.{Field}
use Rattle.cedr_expr.specs.declared.test.Op.{Op}
use Rattle.cedr_expr.specs.declared.test.Op.TheVariants.{Eq}
use Rattle.cedr_expr.specs.declared.test.Operand.{Operand}
use Rattle.cedr_expr.specs.declared.test.Operand.TheVariants as operand
use Rattle.cedr_expr.specs.declared.test.Test.{Test}
use Rattle.cedr_expr.specs.declared.side.Side.{Side}
use Rattle.cedr_expr.specs.declared.side.Side.TheVariants.{Left, Right}

-- where two columns lie on different sides of a left payload's end: the place in the left payload, and that in
-- the right one
abbrev pub split : ℕ → ℕ → ℕ → Option (ℕ × ℕ)
split width one other =
    if nat_lt one width && nat_le width other then Some (one, other - width)
    else (if nat_lt other width && nat_le width one then Some (other, one - width) else None)

-- the places of the two columns that a test compares for equality
abbrev pub split_by : ℕ → ℕ → Op → Operand → Option (ℕ × ℕ)
split_by width one Eq (operand.Column other) = split width one other
split_by width one op o = None

-- the places in a left payload of this width, and in a right one, of the two fields that a test wants equal
abbrev pub places : ℕ → Test → Option (ℕ × ℕ)
places width test = split_by width test.left test.op test.right

-- the field of one side's payload at the place on its side
abbrev pub field_on : Side → List Field → ℕ × ℕ → Option Field
field_on Left payload at = slice_get payload at.0
field_on Right payload at = slice_get payload at.1

-- the field of one side's payload that a test wants equal to one of the other side
abbrev pub tied_field : Side → ℕ → List Field → Test → Option Field
tied_field side width payload test = option_and_then (field_on side payload) (places width test)

-- the fields of one side's payload that tests want equal to those of the other side
abbrev pub tied_fields : Side → ℕ → List Field → List Test → List Field
tied_fields side width payload tests = filter_map (tied_field side width payload) tests
