use Rattle.std.proofs.Common.{◌≡◌, length, take}
use Rattle.plan_edges.specs.Wires.{PortsWired}
use Rattle.plan_edges.proofs.making.wire_ports.Given as goal

abbrev pub invariant-loop-from : goal.invariant-loop-from
invariant-loop-from l = PortsWired l.room (take l.from-index l.inputs) l.ends.items l.initial.putters.items l.putters.items × (length l.putters.items ≡ length l.initial.putters.items)
