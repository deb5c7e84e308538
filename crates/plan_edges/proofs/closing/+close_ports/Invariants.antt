use Rattle.std.proofs.Common.{length}
use Rattle.plan_edges.proofs.closing.+close_ports.Given as goal

abbrev pub decreases-close_ports : goal.decreases-close_ports
decreases-close_ports l = length l.inputs.now
