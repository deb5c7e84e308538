use Rattle.std.proofs.Common.{◌≡◌, ◌++◌, length}
use Rattle.std.specs.List.{All}
use Rattle.std.specs.Vec.{vec_capacity}
use Rattle.cedr_pool.specs.Tasks.{numbered_from, tasks_entries}
use Rattle.cedr_pool.proofs.seating.open_each.Given as goal

-- so far, the tasks and those of the workers that are left are all
abbrev pub invariant-loop-worker : goal.invariant-loop-worker
invariant-loop-worker g l = record {
  works : All g.W.Works.works l.left.items;
  so : tasks_entries l.tasks.items ++ numbered_from (length l.tasks.items) l.left.items ≡ numbered_from 0 l.fn.workers.items;
  room : vec_capacity l.tasks ≡ vec_capacity l.fn.tasks;
}

abbrev pub decreases-loop-worker : goal.decreases-loop-worker
decreases-loop-worker g l = length l.left.items
