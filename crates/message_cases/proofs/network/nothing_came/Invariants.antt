use Rattle.std.proofs.Common.{◌≡◌, ◌<◌, ℕ, [], length, get_or}
use Rattle.test_feeding.specs.Came.{CameFor}
use Rattle.test_feeding.specs.declared.came.Came.{Came}
use Rattle.message_cases.proofs.network.nothing_came.Given as goal

abbrev pub invariant-loop : goal.invariant-loop
invariant-loop l = (length l.came.items ≡ l.counter) × ((k : ℕ) (d : Came) → k < length l.came.items → CameFor (get_or l.came.items k d) [])
