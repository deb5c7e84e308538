use Rattle.std.proofs.Common.{◌≡◌, map, take}
use Rattle.cedr_guard.specs.declared.state.EventState.{EventState}
use Rattle.cedr_guard.proofs.guard.payloads_of.Given as goal

abbrev pub invariant-loop-event : goal.invariant-loop-event
invariant-loop-event l = l.payloads.items ≡ map (λ (e : EventState). e.payload) (take l.event-index l.events)
