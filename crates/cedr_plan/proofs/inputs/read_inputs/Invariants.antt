use Rattle.std.proofs.Common.{◌≡◌, ◌++◌, drop, map}
use Rattle.std.specs.List.{filter_map}
use Rattle.serde_json.specs.View.{view}
use Rattle.cedr_plan.specs.Drawn.{node_of}
use Rattle.cedr_plan.specs.Nodes.{place_of}
use Rattle.cedr_plan.proofs.inputs.read_inputs.Given as goal

abbrev pub invariant-loop-value : goal.invariant-loop-value
invariant-loop-value l = l.inputs.items ++ filter_map (place_of (map node_of l.earlier)) (map view (drop l.value-index l.values)) ≡ filter_map (place_of (map node_of l.earlier)) (map view l.values)
