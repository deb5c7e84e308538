use Rattle.cedr_worker.specs.Workers.{IsWorking, SameOperator}
use Rattle.cedr_worker.proofs.operator.OperatorWorker.run.Given as goal

abbrev pub invariant-loop : goal.invariant-loop
invariant-loop g l = IsWorking l.self × SameOperator l.fn.self l.self
