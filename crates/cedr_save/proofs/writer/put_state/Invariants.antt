use Rattle.std.proofs.Common.{◌≡◌, ◌++◌, map, take}
use Rattle.cedr_save.specs.Checkpoints.{event_line, ended_lines}
use Rattle.cedr_save.proofs.writer.put_state.Given as goal

abbrev pub invariant-loop-event : goal.invariant-loop-event
invariant-loop-event l = l.text.items ≡ l.initial.text.items ++ ended_lines (map event_line (take l.event-index l.event-items))
