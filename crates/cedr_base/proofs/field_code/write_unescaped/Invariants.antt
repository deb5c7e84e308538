use Rattle.std.proofs.Common.{◌≡◌, ◌++◌, length, false}
use Rattle.cedr_base.specs.FieldCodes.{unescaped}
use Rattle.cedr_base.proofs.field_code.write_unescaped.Given as goal

-- what is written and what is to come make up the whole
abbrev pub invariant-loop-out : goal.invariant-loop-out
invariant-loop-out l = l.out.items ++ unescaped false l.rest ≡ l.initial.out.items ++ unescaped false l.bytes

abbrev pub decreases-loop-out : goal.decreases-loop-out
decreases-loop-out l = length l.rest
