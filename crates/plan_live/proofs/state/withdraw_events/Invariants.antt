use Rattle.std.proofs.Common.{◌≡◌, ◌++◌, take}
use Rattle.plan_live.specs.Restoring.{withdrawals}
use Rattle.plan_live.proofs.state.withdraw_events.Given as goal

abbrev pub invariant-loop-event : goal.invariant-loop-event
invariant-loop-event l = l.messages.items ≡ l.initial.messages.items ++ withdrawals (take l.event-index l.events)
