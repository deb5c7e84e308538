use Rattle.std.proofs.Common.{◌≡◌, take}
use Rattle.cedr_edge.specs.Ends.{as_u64}
use Rattle.cedr_worker.specs.Inputs.{taken_count}
use Rattle.cedr_worker.proofs.operator.count_taken.Given as goal

abbrev pub invariant-loop-input : goal.invariant-loop-input
invariant-loop-input l = l.count ≡ as_u64 (taken_count (take l.input-index l.inputs.items))
