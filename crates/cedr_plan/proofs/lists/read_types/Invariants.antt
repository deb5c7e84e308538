use Rattle.std.proofs.Common.{◌≡◌, ◌++◌, drop, map}
use Rattle.std.specs.List.{filter_map}
use Rattle.serde_json.specs.View.{view}
use Rattle.cedr_plan.specs.Nodes.{as_type}
use Rattle.cedr_plan.proofs.lists.read_types.Given as goal

abbrev pub invariant-loop-value : goal.invariant-loop-value
invariant-loop-value l = l.types.items ++ filter_map as_type (map view (drop l.value-index l.values)) ≡ filter_map as_type (map view l.values)
