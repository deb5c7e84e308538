use Rattle.std.proofs.Common.{length}
use Rattle.cedr_pool.proofs.gathering.+take_workers.Given as goal

abbrev pub decreases-take_workers : goal.decreases-take_workers
decreases-take_workers g l = length l.tasks.items
