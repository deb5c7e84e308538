use Rattle.std.proofs.Common.{◌≡◌, map, take}
use Rattle.cedr_guard.specs.Spelt.{event_interval}
use Rattle.cedr_guard.proofs.judge.intervals_of.Given as goal

abbrev pub invariant-loop-event : goal.invariant-loop-event
invariant-loop-event l = l.intervals.items ≡ map event_interval (take l.event-index l.events)
