-- What a turn of a source's worker did.
use Rattle.std.specs.Prelude.{ℕ, ◌≡◌, ◌⊎◌, true, List, map, Option, None, IsSome}
use Rattle.std.specs.List.{All}
use Rattle.node_laws.specs.Lawful.{has_broken}
use Rattle.worker_outlets.specs.Outgoing.{Outgoing}
use Rattle.worker_outlets.specs.Outlets.{SomeFull, outlet_edge, sent_of}
use Rattle.cedr_worker.specs.declared.source.SourceWorker.{SourceWorker}
use Rattle.cedr_worker.specs.declared.stop.SourceStop.{SourceStop}
use Rattle.cedr_worker.specs.SourceSteps.{Advanced}
use Rattle.cedr_worker.specs.Stops.{BreaksSo}

-- the source stopped
abbrev pub HasStopped : Option SourceStop → Option SourceStop → Type 0
HasStopped old new = (old ≡ None) × IsSome new

-- a step happened: a line was taken, bytes were read, a read gave 0, or the source stopped
abbrev pub Stepped : {S : Type 0} → (S → Option (List ℕ)) → SourceWorker S → SourceWorker S → Type 0
Stepped rest old new = Advanced (rest old.source) (rest new.source) old.lines new.lines ⊎ HasStopped old.stop new.stop

-- the number and the out edges stay, in order
pub record SameSource {S : Type 0} (old new : SourceWorker S) : Type 0 where
  pub number : new.number ≡ old.number
  pub edges : map outlet_edge new.outlets ≡ map outlet_edge old.outlets

-- nothing happened: a pending message met a full queue in this turn
pub record Rests {S : Type 0} (old new : SourceWorker S) : Type 0 where
  pub sent : map sent_of new.outlets ≡ map sent_of old.outlets
  pub source : new.source ≡ old.source
  pub lines : new.lines ≡ old.lines
  pub stop : new.stop ≡ old.stop
  pub full : SomeFull old.outlets new.outlets

-- a source that stopped is read no more
pub record StaysStopped {S : Type 0} (old new : SourceWorker S) : Type 0 where
  pub source : new.source ≡ old.source
  pub stop : new.stop ≡ old.stop

-- a Broken was sent only where the source stopped, and not as closed
abbrev pub BrokenOnly : Option SourceStop → List Outgoing → Type 0
BrokenOnly stop outlets = All (λ (o : Outgoing). has_broken o.sent ≡ true → BreaksSo stop) outlets
