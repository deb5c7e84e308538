use Rattle.pool_queue.proofs.Moves.{takes, learns_empty}
use Rattle.pool_queue.proofs.pass.TaskPass.take.Goals as goal

pub pop_as-requires-clause-rule : goal.pop_as-requires-clause-rule
pop_as-requires-clause-rule g c = (takes g.T.Placed.place _ _ c.self.invariant.1, learns_empty g.T.Placed.place _ _)
