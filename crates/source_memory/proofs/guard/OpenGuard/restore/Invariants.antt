use Rattle.std.proofs.Common.{take}
use Rattle.open_events.specs.Events.{open_row}
use Rattle.source_memory.proofs.OpenLemmas.{OpenAmong}
use Rattle.source_memory.proofs.guard.OpenGuard.restore.Given as goal

abbrev pub invariant-loop-event : goal.invariant-loop-event
invariant-loop-event l = OpenAmong l.mark (take l.event-index l.state.events.items) (open_row l.events)
