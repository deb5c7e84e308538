use Rattle.std.proofs.Common.{◌≡◌, ◌++◌, take}
use Rattle.plan_live.specs.Restoring.{insertions}
use Rattle.plan_live.proofs.state.insert_events.Given as goal

abbrev pub invariant-loop-event : goal.invariant-loop-event
invariant-loop-event l = l.messages.items ≡ l.initial.messages.items ++ insertions (take l.event-index l.events)
