use Rattle.std.proofs.Common.{length}
use Rattle.plan_edges.proofs.closing.+close_nodes.Given as goal

abbrev pub decreases-close_nodes : goal.decreases-close_nodes
decreases-close_nodes l = length l.nodes.now
