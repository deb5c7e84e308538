use Rattle.pool_queue.proofs.Moves.{forks}
use Rattle.pool_queue.proofs.blank.Blank.cut.Goals as goal

pub another-other-requires-clause-rule : goal.another-other-requires-clause-rule
another-other-requires-clause-rule g c = forks g.T.Placed.place _ _ c.requires.more
