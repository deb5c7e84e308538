-- Which tests and kept columns fit the types of their columns.
use Rattle.std.specs.Prelude.{ℕ, ◌≡◌, Bool, true, false, not, List, map, length, nat_le, Option, Some, None, is_none, option_map, IsSomeAnd}
use Rattle.std.specs.Option.{option_zip, option_map_or}
use Rattle.std.specs.List.{position}
use Rattle.cedr_base.specs.declared.field.Field.{Field}
use Rattle.cedr_base.specs.declared.field.Field.TheVariants.{Number, Bytes}
use Rattle.cedr_base.specs.declared.field.FieldType.{FieldType}
use Rattle.cedr_base.specs.declared.field.FieldType.TheVariants as field_type
use Rattle.cedr_expr.specs.declared.fault.TypeFault.{TypeFault}
use Rattle.cedr_expr.specs.declared.fault.TypeFault.TheVariants.{BadColumn, TypeDiffers}
use Rattle.cedr_expr.specs.declared.test.Operand.{Operand}
use Rattle.cedr_expr.specs.declared.test.Operand.TheVariants as operand
use Rattle.cedr_expr.specs.declared.test.Test.{Test}
use Rattle.cedr_expr.specs.Columns.{column}
use Rattle.cedr_expr.specs.Tests.{operand_value}

-- the type of a field
abbrev pub type_of : Field → FieldType
type_of (Number n) = field_type.Number
type_of (Bytes text) = field_type.Bytes

-- a payload's fields have these types, one by one
abbrev pub HaveTypes : List Field → List FieldType → Type 0
HaveTypes fields columns = map type_of fields ≡ columns

-- the type of a test's right side, where it has one
abbrev pub operand_type : Operand → List FieldType → List FieldType → Option FieldType
operand_type (operand.Column place) left right = column left right place
operand_type (operand.Number n) left right = Some field_type.Number
operand_type (operand.Bytes text) left right = Some field_type.Bytes

-- two field types are the same
abbrev pub same_type : FieldType → FieldType → Bool
same_type field_type.Number field_type.Number = true
same_type field_type.Bytes field_type.Bytes = true
same_type a b = false

-- the types of a test's two sides, where its columns are there
abbrev pub sides_of : List FieldType → List FieldType → Test → Option (FieldType × FieldType)
sides_of left right test = option_zip (column left right test.left) (operand_type test.right left right)

-- a test names a column past the end
abbrev pub test_has_bad_column : List FieldType → List FieldType → Test → Bool
test_has_bad_column left right test = is_none (sides_of left right test)

-- a test's columns are there, and its two sides differ in type
abbrev pub has_two_types : List FieldType → List FieldType → Test → Bool
has_two_types left right test = option_map_or (λ sides. not (same_type sides.0 sides.1)) (sides_of left right test) false

-- the place of the first test that names a column past the end
abbrev pub first_bad_column : List Test → List FieldType → List FieldType → Option ℕ
first_bad_column tests left right = position (test_has_bad_column left right) tests

-- the place of the first test whose two sides differ in type
abbrev pub first_differing : List Test → List FieldType → List FieldType → Option ℕ
first_differing tests left right = position (has_two_types left right) tests

-- the first column past the end counts before any difference of types
abbrev pub first_type_fault : Option ℕ → Option ℕ → Option TypeFault
first_type_fault (Some bad) differing = Some (BadColumn bad)
first_type_fault None (Some differing) = Some (TypeDiffers differing)
first_type_fault None None = None

-- why tests don't fit the types of a left and a right payload, or nothing where they do
abbrev pub type_fault_of : List Test → List FieldType → List FieldType → Option TypeFault
type_fault_of tests left right = first_type_fault (first_bad_column tests left right) (first_differing tests left right)

-- the place, among columns, of the first one that is past the end of the types
abbrev pub first_past_end : List ℕ → List FieldType → Option ℕ
first_past_end columns types = position (λ column. nat_le (length types) column) columns

-- why kept columns don't fit the types, or nothing where they do
abbrev pub keep_fault_of : List ℕ → List FieldType → Option TypeFault
keep_fault_of columns types = option_map (λ place. BadColumn place) (first_past_end columns types)

-- a test's columns are there, and its two sides have one type
abbrev pub HasLikeSides : List Field → List Field → Test → Type 0
HasLikeSides left right test = IsSomeAnd (option_zip (column left right test.left) (operand_value test.right left right)) (λ sides. type_of sides.0 ≡ type_of sides.1)
