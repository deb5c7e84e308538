use Rattle.std.proofs.Common.{length}
use Rattle.crossbeam_queue.specs.Passes.{view as known, IsSamePass}
use Rattle.pool_queue.proofs.Opening.{Opening}
use Rattle.pool_queue.proofs.room.put_all.Given as goal

abbrev pub invariant-loop-task : goal.invariant-loop-task
invariant-loop-task g l = record {
  same : IsSamePass l.initial.pass l.pass;
  so : Opening g.T.Placed.place l.fn.tasks.items l.left.items (known l.pass);
}

abbrev pub decreases-loop-task : goal.decreases-loop-task
decreases-loop-task g l = length l.left.items
