-- A node that was fed with messages that may come.
use Rattle.std.specs.Prelude.{List, [], ◌∷◌}
use Rattle.cedr_base.specs.declared.change.Message.{Message}
use Rattle.node_laws.specs.Lists.{Lists}
use Rattle.test_feeding.specs.Came.{CameFor}
use Rattle.test_feeding.specs.declared.came.Came.{Came}
use Rattle.cedr_node.specs.declared.node.Node.{Node}
use Rattle.cedr_node.specs.Nodes.{NodeStands}

-- what came on each port is known
abbrev pub AllCame : List Came → Lists → Type 0
AllCame [] [] = Unit {0}
AllCame [] (l ∷ ls) = ⊥
AllCame (c ∷ cs) [] = ⊥
AllCame (c ∷ cs) (l ∷ ls) = CameFor c l × AllCame cs ls

-- some lists came on the ports of a node, some list was given, and what came is known
pub record NodeWasFed (node : Node) (came : List Came) : Type 0 where
  pub lists : Lists
  pub given : List Message
  pub stands : NodeStands node lists given
  pub came_are : AllCame came lists
