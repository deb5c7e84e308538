use Rattle.pool_queue.proofs.Moves.{joins}
use Rattle.pool_queue.proofs.pass.TaskPass.absorb.Goals as goal

pub absorb-requires-clause-rule : goal.absorb-requires-clause-rule
absorb-requires-clause-rule g c = joins g.T.Placed.place _ _ _ _ c.self.invariant.1
