use Rattle.std.proofs.Common.{length}
use Rattle.cedr_plan.proofs.whole.+find_unused.Given as goal

abbrev pub decreases-find_unused : goal.decreases-find_unused
decreases-find_unused l = length l.nodes.now
