use Rattle.std.proofs.Common.{◌≡◌}
use Rattle.cedr_pool.proofs.task.turn_often.Given as goal

-- the task is the same
abbrev pub invariant-loop-i : goal.invariant-loop-i
invariant-loop-i g l = l.task ≡ l.fn.task
