-- What a node of a plan that takes messages stands for.
use Rattle.std.specs.Prelude.{ℕ, ◌≡◌, List, length, Bool, false}
use Rattle.cedr_base.specs.declared.change.Message.{Message}
use Rattle.cedr_base.specs.declared.level.Level.{Level}
use Rattle.cedr_table.specs.Operators.{Tables, Meaning}
use Rattle.cedr_plan.specs.declared.plan.PlanNode.{PlanNode}
use Rattle.node_laws.specs.Lists.{Lists}
use Rattle.op_node.specs.Readings.{node_reading}
use Rattle.op_node.specs.Meanings.{meaning_of, port_levels}
use Rattle.cedr_node.specs.declared.node.Node.{Node}
use Rattle.cedr_node.specs.Standing.{levels_of, StandsBetween}

-- the plan's node that a node is
abbrev pub made_of : Node → PlanNode
made_of node = node.made_of

-- memory ran out in a call
abbrev pub is_spent : Node → Bool
is_spent node = node.spent

-- what its operator means
abbrev pub meaning_in : Node → Meaning
meaning_in node = node_reading.meaning node.works.value.driver.op

-- the rows that its operator holds, port by port
abbrev pub held_in : Node → Tables
held_in node = node_reading.held node.works.value.driver.op

-- the levels of its ports
abbrev pub levels_in : Node → List Level
levels_in node = levels_of node.works.value.ports.items

-- how many ports it has
abbrev pub port_count : Node → ℕ
port_count node = length node.works.value.ports.items

-- A node stands between the lists that came on its ports and the list that it gave. It is usable, its operator means
-- what the plan's node does, each port has the level of the plan's node, and the operator and the ports stand between
-- the lists: these are lawful, and the next message may come.
pub record NodeStands (node : Node) (lists : Lists) (given : List Message) : Type 0 where
  pub usable : is_spent node ≡ false
  pub means : meaning_in node ≡ meaning_of (made_of node)
  pub levels : levels_in node ≡ port_levels (made_of node)
  pub between : StandsBetween (meaning_in node) (node_reading.stands node.works.value.driver.op) node.works.value.ports.items node.works.value.driver.marks.items node.works.value.driver.sent node.works.value.waiting node.works.value.broken lists given
