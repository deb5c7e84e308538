-- What the nodes of a plan took, by what is left of their workers.
use Rattle.std.specs.Prelude.{◌≡◌, List, [], ◌∷◌}
use Rattle.cedr_base.specs.declared.change.Message.{Message}
use Rattle.node_laws.specs.Lists.{Lists}
use Rattle.cedr_node.specs.declared.node.Node.{Node}
use Rattle.cedr_node.specs.Nodes.{made_of, NodeStands}
use Rattle.cedr_plan.specs.Drawn.{node_of}
use Rattle.cedr_plan.specs.declared.plan.PlanNode.{PlanNode}
use Rattle.plan_workers.specs.declared.ended.Part.{Part}
use Rattle.plan_workers.specs.declared.ended.Part.TheVariants as part

-- a node was made for a node of the plan, and stands for the lists that it took on its ports
pub record NodeTook (n : PlanNode) (lists : Lists) (node : Node) : Type 0 where
  pub given : List Message
  pub stands : NodeStands node lists given
  pub made : node_of (made_of node) ≡ node_of n

-- the same of what is left of a node's worker; a source has no port
abbrev pub PartTook : {S R : Type 0} → PlanNode → Lists → Part S R → Type 0
PartTook n lists (part.Source end) = lists ≡ []
PartTook n lists (part.Operator node lacked) = NodeTook n lists node
PartTook n lists (part.Output node lacked held) = NodeTook n lists node

-- the same of each of some nodes, in order
abbrev pub AllTook : {S R : Type 0} → List PlanNode → List Lists → List (Part S R) → Type 0
AllTook [] [] [] = Unit {0}
AllTook [] [] (p ∷ ps) = ⊥
AllTook [] (l ∷ ls) parts = ⊥
AllTook (n ∷ ns) [] parts = ⊥
AllTook (n ∷ ns) (l ∷ ls) [] = ⊥
AllTook (n ∷ ns) (l ∷ ls) (p ∷ ps) = PartTook n l p × AllTook ns ls ps
