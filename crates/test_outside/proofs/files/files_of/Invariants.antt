use Rattle.std.proofs.Common.{◌≡◌}
use Rattle.test_outside.proofs.files.files_of.Given as goal

abbrev pub invariant-loop-name : goal.invariant-loop-name
invariant-loop-name l = l.files.faults ≡ 0
