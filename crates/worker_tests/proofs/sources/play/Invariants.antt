use Rattle.std.proofs.Common.{ℕ, List, Option}
use Rattle.cedr_text.specs.declared.event_line.Shape.{Shape}
use Rattle.cedr_worker.specs.Sources.{SourceWorks}
use Rattle.worker_tests.proofs.sources.play.Given as goal

abbrev pub invariant-loop-i : goal.invariant-loop-i
invariant-loop-i g l = (shape : Shape) × (content : Option (List ℕ)) × (count : ℕ) × SourceWorks g.S.Source.rest g.S.Source.faults shape content count l.worker
