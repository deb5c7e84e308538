use Rattle.std.proofs.Common.{◌≡◌, ◌++◌, drop, map}
use Rattle.cedr_plan.specs.CheckTexts.{check_text}
use Rattle.cedr_plan.specs.Drawn.{node_of}
use Rattle.cedr_plan.proofs.check.check_text.Given as goal

abbrev pub invariant-loop-node : goal.invariant-loop-node
invariant-loop-node l = l.text.items ++ check_text (map node_of (drop l.node-index l.nodes)) ≡ check_text (map node_of l.nodes)
