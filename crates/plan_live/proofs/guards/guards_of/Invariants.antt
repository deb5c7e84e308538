use Rattle.std.proofs.Common.{◌≡◌, ◌<◌, ℕ, [], length, get_or}
use Rattle.cedr_guard.specs.Standing.{Guards}
use Rattle.cedr_guard.specs.declared.guard.Guard.{Guard}
use Rattle.plan_live.proofs.guards.guards_of.Given as goal

abbrev pub invariant-loop : goal.invariant-loop
invariant-loop l = (length l.guards.items ≡ l.counter) × ((k : ℕ) (d : Guard) → k < length l.guards.items → Guards (get_or l.guards.items k d) [])
