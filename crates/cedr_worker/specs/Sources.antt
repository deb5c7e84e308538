-- What a worker that reads a source has read and given.
use Rattle.std.specs.Prelude.{ℕ, ◌≡◌, ◌<◌, ◌≤◌, ◌+◌, Bool, true, List, [], ◌∷◌, ◌++◌, length, Option, None, Some}
use Rattle.std.specs.List.{All}
use Rattle.std.specs.Io.KnownBytes.{Consumes, IsAtEnd}
use Rattle.cedr_base.specs.declared.change.Message.{Message}
use Rattle.cedr_text.specs.declared.event_line.Shape.{Shape}
use Rattle.cedr_guard.specs.declared.refusal.TheConstants.{FILE_LIMIT}
use Rattle.cedr_edge.specs.Ends.{OutEnd}
use Rattle.worker_outlets.specs.Outgoing.{last_message}
use Rattle.worker_outlets.specs.Outlets.{AllTotal, AllStaged}
use Rattle.cedr_source.specs.Reads.{ReadsSource, is_ended}
use Rattle.cedr_worker.specs.declared.reading.TheConstants.{BLOCK}
use Rattle.cedr_worker.specs.declared.source.SourceWorker.{SourceWorker}
use Rattle.cedr_worker.specs.declared.source.SourceEnd.{SourceEnd}
use Rattle.cedr_worker.specs.Stops.{last_at, meant, IsGiven, StoppedAs, StoppedSo, CountedSo}

-- A worker whose source has this shape, and had this content, where that is known, and this count of faults when the
-- worker was made. `rest` and `faults` say what a source has left and its count.
pub record SourceWorks {S : Type 0} (rest : S → Option (List ℕ)) (faults : S → ℕ) (shape : Shape) (content : Option (List ℕ)) (count : ℕ) (worker : SourceWorker S) : Type 0 where
  -- the bytes read, at most one block more than a source may have, and the messages of the lines that were taken of them
  pub bytes : List ℕ
  pub few : length bytes ≤ FILE_LIMIT + BLOCK
  pub given : List Message
  pub read : Consumes content (rest worker.source) bytes
  pub at_end : is_ended worker.lines ≡ true → IsAtEnd (rest worker.source)
  pub is_given : IsGiven shape bytes given (is_ended worker.lines)
  pub goes_on : worker.stop ≡ None → ReadsSource worker.lines shape bytes given × AllStaged [] worker.outlets
  -- they are meant for each out edge, and once the source stopped one last message is
  pub total : AllTotal (meant given worker.stop) worker.outlets
  pub stopped : StoppedSo worker.stop shape bytes given (is_ended worker.lines)
  pub counted : CountedSo worker.stop count (faults worker.source)
  pub some_edge : 0 < length worker.outlets
  pub room : length worker.block.items ≡ BLOCK

-- What is left of it at the end, where it had read at most one block more than a source may have. `ended` says that a read gave 0.
pub record SourceEnds {S : Type 0} (rest : S → Option (List ℕ)) (faults : S → ℕ) (shape : Shape) (content : Option (List ℕ)) (count : ℕ) (end : SourceEnd S) : Type 0 where
  pub bytes : List ℕ
  pub few : length bytes ≤ FILE_LIMIT + BLOCK
  pub given : List Message
  pub ended : Bool
  pub read : Consumes content (rest end.source) bytes
  pub at_end : ended ≡ true → IsAtEnd (rest end.source)
  pub is_given : IsGiven shape bytes given ended
  pub stopped : StoppedAs end.stop shape bytes given ended
  pub counted : CountedSo (Some end.stop) count (faults end.source)
  pub sent : All (λ (e : OutEnd). e.sent ≡ given ++ last_message (last_at end.stop) ∷ []) end.outputs.items
