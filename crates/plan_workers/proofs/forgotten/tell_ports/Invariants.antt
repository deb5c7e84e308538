use Rattle.std.proofs.Common.{◌≡◌, ◌++◌, List, map, take}
use Rattle.cedr_base.specs.declared.change.Message.{Message}
use Rattle.node_laws.specs.Kept.{forgot}
use Rattle.node_laws.specs.Lists.{Lists}
use Rattle.cedr_node.specs.Nodes.{made_of, NodeStands}
use Rattle.plan_answer.specs.Forgettings.{ports_forgot, port_forgot}
use Rattle.plan_workers.proofs.forgotten.tell_ports.Given as goal

-- what the first ports forgot is listed
abbrev pub invariant-loop-port : goal.invariant-loop-port
invariant-loop-port l =
    (lists : Lists) (given : List Message) → NodeStands l.fn.node lists given → map port_forgot l.all.items ≡ map port_forgot l.initial.all.items ++ ports_forgot l.fn.place 0 (take l.port (map (forgot (made_of l.fn.node).level.memory) lists))
