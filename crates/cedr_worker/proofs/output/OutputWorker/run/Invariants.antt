use Rattle.cedr_worker.specs.OutputTurns.{OutputWorks, SameOutput}
use Rattle.cedr_worker.proofs.output.OutputWorker.run.Given as goal

abbrev pub invariant-loop : goal.invariant-loop
invariant-loop g l = OutputWorks l.self × SameOutput l.fn.self l.self
