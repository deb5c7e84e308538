-- What a field adds to a sum.
use Rattle.std.proofs.Common.{◌≡◌, ◌%◌, ◌^◌, ℤ, Some, None, refl}
use Rattle.std.specs.Int.{w128, cast_unsigned}
use Rattle.cedr_base.specs.declared.field.Field.{Field}
use Rattle.cedr_base.specs.declared.field.Field.TheVariants.{Number, Bytes}
use Rattle.cedr_base.specs.FieldCodes.{number_in}
use Rattle.op_group.specs.Groups.{field_number}

-- a number adds itself
pub number_adds : (f : Field) (n : ℤ) → Some n ≡ number_in f → cast_unsigned w128 n % 2 ^ 128 ≡ field_number (Some f)
number_adds (Number m) n is = cc
number_adds (Bytes t) n is = cc

-- and a text nothing
pub text_adds : (f : Field) → None ≡ number_in f → 0 ≡ field_number (Some f)
text_adds (Number m) is = cc
text_adds (Bytes t) is = refl
