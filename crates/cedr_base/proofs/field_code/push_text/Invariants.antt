use Rattle.std.proofs.Common.{◌≡◌, ◌≤◌, ◌++◌, length}
use Rattle.cedr_base.specs.FieldCodes.{escaped}
use Rattle.cedr_base.proofs.field_code.push_text.Given as goal

-- what is written and what is to come make up the whole
abbrev pub invariant-loop-out : goal.invariant-loop-out
invariant-loop-out l = record {
  whole : l.out ++ escaped l.rest ≡ l.initial.out ++ escaped l.bytes;
  within : length l.rest ≤ length l.bytes;
}

abbrev pub decreases-loop-out : goal.decreases-loop-out
decreases-loop-out l = length l.rest
