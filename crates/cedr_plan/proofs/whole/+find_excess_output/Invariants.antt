use Rattle.std.proofs.Common.{length}
use Rattle.cedr_plan.proofs.whole.+find_excess_output.Given as goal

abbrev pub decreases-find_excess_output : goal.decreases-find_excess_output
decreases-find_excess_output l = length l.nodes.now
