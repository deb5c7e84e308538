use Rattle.std.proofs.Common.{List, length}
use Rattle.cedr_living.specs.Lives.{Living}
use Rattle.cedr_living.specs.Bags.{KeepsLives, after}
use Rattle.cedr_living.proofs.LivingLemmas.{IsLeft}
use Rattle.cedr_living.proofs.living.LivingFields.forget.Given as goal

abbrev pub invariant-loop-life : goal.invariant-loop-life
invariant-loop-life l =
    (lives : List Living) → KeepsLives l.initial.self lives → IsLeft l.self.index l.self.ends.entries l.from (after l.initial.self.from lives)

abbrev pub decreases-loop-life : goal.decreases-loop-life
decreases-loop-life l = length l.self.ends.entries
