-- What a guard that forgets stands for.
use Rattle.std.specs.Prelude.{ℕ, ◌≡◌, ◌≤◌, List, Some}
use Rattle.cedr_base.specs.declared.row.Row.{Row}
use Rattle.cedr_text.specs.declared.event_line.EventLine.{EventLine}
use Rattle.cedr_guard.specs.Judging.{guarantee_of, AreAccepted}
use Rattle.cedr_guard.specs.States.{known_of}
use Rattle.open_events.specs.Events.{open_row}
use Rattle.source_memory.specs.declared.guard.OpenGuard.{OpenGuard}

-- no event of the lines ends below their guarantee
abbrev pub NoneOver : List EventLine → Type 0
NoneOver kept = (id : ℕ) (row : Row) → known_of id kept ≡ Some row → guarantee_of kept ≤ row.end

-- a guard stands for accepted lines: it holds each of their events as it is, no other, and none that is over
pub record Recalls (guard : OpenGuard) (kept : List EventLine) : Type 0 where
  pub mark : guard.mark ≡ guarantee_of kept
  pub events : (id : ℕ) → open_row guard.events id ≡ known_of id kept
  pub none_over : NoneOver kept
  pub accepted : AreAccepted kept
