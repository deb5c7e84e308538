use Rattle.std.proofs.Common.{◌≡◌, length, take}
use Rattle.plan_edges.specs.Wires.{NodesWired}
use Rattle.plan_edges.proofs.making.wire_nodes.Given as goal

abbrev pub invariant-loop-node : goal.invariant-loop-node
invariant-loop-node l = NodesWired l.room (take l.node-index l.nodes) l.takers.items l.initial.putters.items l.putters.items × (length l.putters.items ≡ length l.initial.putters.items)
