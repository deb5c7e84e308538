use Rattle.std.proofs.Common.{length}
use Rattle.cedr_plan.proofs.whole.+is_read.Given as goal

abbrev pub decreases-is_read : goal.decreases-is_read
decreases-is_read l = length l.nodes.now
