use Rattle.std.proofs.Common.{◌≡◌, ◌++◌, drop, map}
use Rattle.std.specs.List.{filter_map}
use Rattle.serde_json.specs.View.{view}
use Rattle.cedr_plan.specs.Tests.{test_of}
use Rattle.cedr_plan.proofs.lists.read_tests.Given as goal

abbrev pub invariant-loop-value : goal.invariant-loop-value
invariant-loop-value l = l.tests.items ++ filter_map test_of (map view (drop l.value-index l.values)) ≡ filter_map test_of (map view l.values)
