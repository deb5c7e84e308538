use Rattle.cedr_worker.specs.Workers.{IsWorking}
use Rattle.worker_tests.proofs.operators.gives.Given as goal

abbrev pub invariant-loop : goal.invariant-loop
invariant-loop g l = IsWorking l.worker
