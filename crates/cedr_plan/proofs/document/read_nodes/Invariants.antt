use Rattle.std.proofs.Common.{◌≡◌, [], drop, map}
use Rattle.serde_json.specs.View.{view}
use Rattle.cedr_plan.specs.Drawn.{node_of}
use Rattle.cedr_plan.specs.Plans.{nodes_from}
use Rattle.cedr_plan.proofs.document.read_nodes.Given as goal

abbrev pub invariant-loop-value : goal.invariant-loop-value
invariant-loop-value l = nodes_from l.version (map node_of l.nodes.items) (map view (drop l.value-index l.values)) ≡ nodes_from l.version [] (map view l.values)
