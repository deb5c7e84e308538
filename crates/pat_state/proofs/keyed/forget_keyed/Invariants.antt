use Rattle.std.proofs.Common.{length}
use Rattle.cedr_table.specs.Counted.{SameAmong}
use Rattle.pat_state.specs.Starts.{scope_reaches}
use Rattle.pat_state.specs.Keys.{key_tag}
use Rattle.pat_state.specs.Tags.{IsTagged}
use Rattle.pat_state.proofs.keyed.forget_keyed.Given as goal

abbrev pub invariant-loop-row : goal.invariant-loop-row
invariant-loop-row l = record {
  same : SameAmong (scope_reaches l.scope l.time) l.rows l.initial.rows;
  tagged : IsTagged (key_tag l.width l.column) l.rows l.tags;
}

abbrev pub decreases-loop-row : goal.decreases-loop-row
decreases-loop-row l = length l.rows
