use Rattle.std.proofs.Common.{◌≡◌, map, take}
use Rattle.cedr_guard.specs.Standing.{stored_event}
use Rattle.cedr_guard.proofs.guard.Guard.state.Given as goal

abbrev pub invariant-loop-entry : goal.invariant-loop-entry
invariant-loop-entry l = l.events.items ≡ map (stored_event l.self) (take l.entry-index l.entry-items)
