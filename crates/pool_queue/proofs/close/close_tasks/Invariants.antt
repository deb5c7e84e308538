use Rattle.std.proofs.Common.{List, length}
use Rattle.pool_queue.specs.declared.claim.Entry.{Entry}
use Rattle.pool_queue.specs.Passes.{AreAllOf}
use Rattle.pool_queue.proofs.Seating.{Joining}
use Rattle.pool_queue.proofs.close.close_tasks.Given as goal

abbrev pub invariant-loop-other : goal.invariant-loop-other
invariant-loop-other g l = (opened : List (Entry g.row.X.Denot)) (all : AreAllOf opened l.fn.passes.items) → Joining all.queue opened l.fn.passes.items l.whole l.left.items

abbrev pub decreases-loop-other : goal.decreases-loop-other
decreases-loop-other g l = length l.left.items
