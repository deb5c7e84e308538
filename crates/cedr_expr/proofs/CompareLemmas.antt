-- How fields compare by their order.
use Rattle.std.proofs.Common.{◌≡◌, Bool, true, false, ◌&&◌, refl}
use Rattle.cedr_base.specs.declared.field.Field.{Field}
use Rattle.cedr_base.specs.declared.field.Field.TheVariants.{Number, Bytes}
use Rattle.cedr_base.specs.Order.{field_cmp}
use Rattle.cedr_base.specs.FieldCodes.{is_numeric}
use Rattle.std.specs.Prelude.{not}
use Rattle.cedr_expr.specs.declared.test.Op.{Op}
use Rattle.cedr_expr.specs.Tests.{accepts, compares}

-- whether two fields have one type
abbrev pub alike : Bool → Bool → Bool
alike true b = b
alike false b = not b

-- fields of one type pass by their order, and others don't
pub compares_as : (f g : Field) (op : Op) → compares f op g ≡ alike (is_numeric f) (is_numeric g) && accepts op (field_cmp f g)
compares_as (Number m) (Number n) op = refl
compares_as (Number m) (Bytes t) op = refl
compares_as (Bytes s) (Number n) op = refl
compares_as (Bytes s) (Bytes t) op = refl
