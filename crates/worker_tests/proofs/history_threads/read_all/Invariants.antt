use Rattle.std.proofs.Common.{◌≡◌}
use Rattle.worker_tests.proofs.history_threads.read_all.Given as goal

abbrev pub invariant-loop : goal.invariant-loop
invariant-loop g l = l.reader.history ≡ l.initial.reader.history
