use Rattle.std.proofs.Common.{length}
use Rattle.plan_workers.proofs.making.+make_workers.Given as goal

abbrev pub decreases-make_workers : goal.decreases-make_workers
decreases-make_workers g l = length l.nodes.now
