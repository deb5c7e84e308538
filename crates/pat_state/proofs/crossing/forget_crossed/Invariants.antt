use Rattle.std.proofs.Common.{length}
use Rattle.cedr_table.specs.Counted.{SameAmong}
use Rattle.cedr_expr.specs.Tags.{left_tag, right_tag}
use Rattle.pat_state.specs.Starts.{scope_reaches}
use Rattle.pat_state.specs.Tags.{IsTagged}
use Rattle.pat_state.proofs.crossing.forget_crossed.Given as goal

abbrev pub invariant-loop-row : goal.invariant-loop-row
invariant-loop-row l = record {
  same : SameAmong (scope_reaches l.scope l.time) l.rows l.initial.rows;
  first : IsTagged (left_tag l.width l.tests) l.rows l.first_tags;
  second : IsTagged (right_tag l.width l.tests) l.rows l.second_tags;
}

abbrev pub decreases-loop-row : goal.decreases-loop-row
decreases-loop-row l = length l.rows
