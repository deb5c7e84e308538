use Rattle.std.proofs.Common.{length}
use Rattle.cedr_table.specs.Counted.{SameAmong}
use Rattle.pat_state.specs.Due.{AreDue}
use Rattle.pat_state.specs.Starts.{scope_reaches}
use Rattle.pat_state.proofs.tagged.forget_passed.Given as goal

abbrev pub invariant-loop-row : goal.invariant-loop-row
invariant-loop-row l = record {
  due : AreDue l.tags l.due;
  same : SameAmong (scope_reaches l.scope l.time) l.tags l.initial.tags;
}

abbrev pub decreases-loop-row : goal.decreases-loop-row
decreases-loop-row l = length l.due
