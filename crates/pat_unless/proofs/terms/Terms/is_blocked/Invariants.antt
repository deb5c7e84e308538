use Rattle.std.proofs.Common.{◌≡◌}
use Rattle.std.specs.Prelude.{◌&&◌}
use Rattle.std.specs.List.{list_any}
use Rattle.cedr_table.specs.Counted.{spread, AreThere}
use Rattle.cedr_expr.specs.Tests.{passes}
use Rattle.pat_state.specs.Starts.{begins_within}
use Rattle.pat_state.specs.Tied.{right_rows}
use Rattle.pat_unless.specs.Blocking.{is_blocked_by}
use Rattle.pat_unless.proofs.terms.Terms.is_blocked.Given as goal

abbrev pub invariant-loop-blocker : goal.invariant-loop-blocker
invariant-loop-blocker l = record {
  rest : is_blocked_by l.self.scope l.self.tests (right_rows l.tied) l.row ≡ list_any (λ b. begins_within l.from l.until b && passes l.self.tests l.row.payload b.payload) (spread l.blocker-iterator);
  there : AreThere l.blocker-iterator;
}
