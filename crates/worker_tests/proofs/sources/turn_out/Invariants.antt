use Rattle.std.proofs.Common.{ℕ, List, Option}
use Rattle.cedr_text.specs.declared.event_line.Shape.{Shape}
use Rattle.cedr_worker.specs.Sources.{SourceWorks}
use Rattle.worker_tests.proofs.sources.turn_out.Given as goal

abbrev pub invariant-loop : goal.invariant-loop
invariant-loop g l = (shape : Shape) × (content : Option (List ℕ)) × (count : ℕ) × SourceWorks g.S.Source.rest g.S.Source.faults shape content count l.worker
