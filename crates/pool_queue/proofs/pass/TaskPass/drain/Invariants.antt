use Rattle.std.proofs.Common.{◌≡◌}
use Rattle.std.specs.Vec.{vec_capacity}
use Rattle.crossbeam_queue.specs.Passes.{view as known, IsSamePass}
use Rattle.pool_queue.proofs.Drained.{after}
use Rattle.pool_queue.proofs.pass.TaskPass.drain.Given as goal

abbrev pub invariant-loop : goal.invariant-loop
invariant-loop g l = record {
  same : IsSamePass l.initial.pass l.pass;
  seen : known l.pass ≡ after g.T.Placed.place (known l.initial.pass) l.row.items;
  room : vec_capacity l.row ≡ vec_capacity l.initial.row;
}
