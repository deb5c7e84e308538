use Rattle.std.proofs.Common.{◌≡◌, ◌++◌, drop, map}
use Rattle.std.specs.List.{filter_map}
use Rattle.serde_json.specs.View.{view}
use Rattle.cedr_plan.specs.Json.{as_whole}
use Rattle.cedr_plan.proofs.lists.read_columns.Given as goal

abbrev pub invariant-loop-value : goal.invariant-loop-value
invariant-loop-value l = l.columns.items ++ filter_map as_whole (map view (drop l.value-index l.values)) ≡ filter_map as_whole (map view l.values)
