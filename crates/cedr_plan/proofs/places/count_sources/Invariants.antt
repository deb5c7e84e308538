use Rattle.std.proofs.Common.{◌≡◌, take}
use Rattle.cedr_plan.specs.Places.{source_count}
use Rattle.cedr_plan.proofs.places.count_sources.Given as goal

abbrev pub invariant-loop-node : goal.invariant-loop-node
invariant-loop-node l = l.count ≡ source_count (take l.node-index l.nodes)
