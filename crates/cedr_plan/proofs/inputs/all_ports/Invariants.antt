use Rattle.std.proofs.Common.{◌≡◌, ◌++◌, drop, map}
use Rattle.cedr_plan.specs.Drawn.{node_of}
use Rattle.cedr_plan.specs.Nodes.{types_of}
use Rattle.cedr_plan.specs.Nodes.{all_ports as joined}
use Rattle.cedr_plan.proofs.inputs.all_ports.Given as goal

abbrev pub invariant-loop-place : goal.invariant-loop-place
invariant-loop-place l = l.types.items ++ joined (map (types_of (map node_of l.earlier)) (drop l.place-index l.inputs)) ≡ joined (map (types_of (map node_of l.earlier)) l.inputs)
