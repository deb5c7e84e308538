use Rattle.std.proofs.Common.{length}
use Rattle.cedr_table.specs.Counted.{SameAmong}
use Rattle.pat_state.specs.Starts.{scope_reaches, AreEndless}
use Rattle.pat_state.proofs.by_begin.drop_passed.Given as goal

abbrev pub invariant-loop-gone : goal.invariant-loop-gone
invariant-loop-gone l = record {
  same : SameAmong (scope_reaches l.scope l.time) l.rows l.initial.rows;
  endless : AreEndless l.rows;
}

abbrev pub decreases-loop-gone : goal.decreases-loop-gone
decreases-loop-gone l = length l.rows
