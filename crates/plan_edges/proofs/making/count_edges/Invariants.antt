use Rattle.std.proofs.Common.{◌≡◌, length, take}
use Rattle.plan_edges.specs.Wires.{froms}
use Rattle.plan_edges.proofs.making.count_edges.Given as goal

abbrev pub invariant-loop-node : goal.invariant-loop-node
invariant-loop-node l = l.count ≡ length (froms (take l.node-index l.nodes))
