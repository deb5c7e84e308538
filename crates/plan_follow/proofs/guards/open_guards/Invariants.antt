use Rattle.std.proofs.Common.{◌≡◌, ◌<◌, ℕ, [], length, get_or}
use Rattle.plan_follow.proofs.guards.open_guards.Given as goal
use Rattle.source_memory.specs.Opened.{Recalls}
use Rattle.source_memory.specs.declared.guard.OpenGuard.{OpenGuard}

abbrev pub invariant-loop : goal.invariant-loop
invariant-loop l = (length l.guards.items ≡ l.counter) × ((k : ℕ) (d : OpenGuard) → k < length l.guards.items → Recalls (get_or l.guards.items k d) [])
