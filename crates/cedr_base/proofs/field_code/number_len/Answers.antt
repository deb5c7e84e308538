use Rattle.std.proofs.Common.{◌≡◌, ℕ, suc, ◌-◌, ◌<◌, ℤ, pos, negsuc, arith}
use Rattle.cedr_base.specs.FieldCodes.{number_tag, number_width}
use Rattle.cedr_base.specs.CodeLaws.{width_le}
use Rattle.cedr_base.proofs.field_code.number_len.Goals as goal

low_tag : (tag : ℕ) → tag < 32 → (n : ℤ) → tag ≡ number_tag n → 32 - tag ≡ suc (number_width n)
low_tag tag low (pos n) is = absurd (omega arith)
low_tag tag low (negsuc n) is = omega (arith, width_le 16 n)

pub returns-then-tag-lt32-clause-number : goal.returns-then-tag-lt32-clause-number
returns-then-tag-lt32-clause-number c = low_tag c.args.tag c.if-tag-lt32.true
