use Rattle.std.proofs.Common.{◌≡◌, drop, map, not}
use Rattle.std.specs.List.{list_any}
use Rattle.cedr_plan.specs.Drawn.{node_of}
use Rattle.cedr_plan.specs.Nodes.{same_types, types_of}
use Rattle.cedr_plan.proofs.result.some_are_unlike.Given as goal

abbrev pub invariant-loop-place : goal.invariant-loop-place
invariant-loop-place l = list_any (λ types. not (same_types l.first types)) (map (types_of (map node_of l.earlier)) (drop l.place-index l.inputs)) ≡ list_any (λ types. not (same_types l.first types)) (map (types_of (map node_of l.earlier)) l.inputs)
