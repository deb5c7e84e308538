use Rattle.std.proofs.Common.{take}
use Rattle.plan_live.specs.Scripts.{ShapesHaveTypes}
use Rattle.plan_live.proofs.guards.shapes_of.Given as goal

abbrev pub invariant-loop-node : goal.invariant-loop-node
invariant-loop-node l = ShapesHaveTypes (take l.node-index l.nodes) l.shapes.items
