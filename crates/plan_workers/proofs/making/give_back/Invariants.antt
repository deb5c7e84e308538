use Rattle.std.proofs.Common.{◌≡◌, ◌++◌, length}
use Rattle.std.specs.Vec.{vec_capacity}
use Rattle.plan_workers.specs.Making.{sources_of}
use Rattle.plan_workers.proofs.making.give_back.Given as goal

abbrev pub invariant-loop-worker : goal.invariant-loop-worker
invariant-loop-worker g l =
    (l.sources.items ++ sources_of l.workers.items ≡ sources_of l.initial.workers.items) × (vec_capacity l.sources ≡ vec_capacity l.initial.sources)

abbrev pub decreases-loop-worker : goal.decreases-loop-worker
decreases-loop-worker g l = length l.workers.items

abbrev pub invariant-loop-source : goal.invariant-loop-source
invariant-loop-source g l =
    (l.sources.items ++ l.left.items ≡ l.initial.sources.items ++ l.initial.left.items) × (vec_capacity l.sources ≡ vec_capacity l.initial.sources)

abbrev pub decreases-loop-source : goal.decreases-loop-source
decreases-loop-source g l = length l.left.items
