use Rattle.std.proofs.Common.{ℕ, List, Option}
use Rattle.std.specs.Prelude.{IsSome}
use Rattle.cedr_text.specs.declared.event_line.Shape.{Shape}
use Rattle.cedr_worker.specs.Sources.{SourceWorks}
use Rattle.cedr_worker.specs.SourceTurns.{SameSource, StaysStopped}
use Rattle.cedr_worker.proofs.source.SourceWorker.run.Given as goal

abbrev pub invariant-loop : goal.invariant-loop
invariant-loop g l = record {
  works : (shape : Shape) (content : Option (List ℕ)) (count : ℕ) → SourceWorks g.S.Source.rest g.S.Source.faults shape content count l.fn.self → SourceWorks g.S.Source.rest g.S.Source.faults shape content count l.self;
  stays : IsSome l.fn.self.stop → StaysStopped l.fn.self l.self;
  same : SameSource l.fn.self l.self;
}
