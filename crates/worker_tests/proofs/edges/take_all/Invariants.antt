use Rattle.std.proofs.Common.{◌≡◌}
use Rattle.worker_tests.proofs.edges.take_all.Given as goal

abbrev pub invariant-loop : goal.invariant-loop
invariant-loop g l = l.«from».edge ≡ l.fn.«from».edge
