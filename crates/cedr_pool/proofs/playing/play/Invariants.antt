use Rattle.std.proofs.Common.{◌≡◌, IsPermutation}
use Rattle.std.specs.Vec.{vec_capacity}
use Rattle.pool_queue.specs.Passes.{IsStillPass}
use Rattle.cedr_pool.specs.Tasks.{tasks_entries}
use Rattle.cedr_pool.proofs.playing.play.Given as goal

-- the row has all that the pass holds, and room for what was opened
abbrev pub invariant-loop : goal.invariant-loop
invariant-loop g l = record {
  same : IsStillPass l.fn.pass l.pass;
  row : IsPermutation (tasks_entries l.row.items) l.pass.held;
  room : vec_capacity l.row ≡ vec_capacity l.fn.row;
}
