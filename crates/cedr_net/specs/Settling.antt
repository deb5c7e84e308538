-- In which order a network takes messages while it settles: node by node, and at each node port by port.
use Rattle.std.specs.Prelude.{ℕ, ◌≡◌, ◌≤◌, List, [], ◌∷◌, ◌++◌}
use Rattle.cedr_base.specs.declared.change.Message.{Message}
use Rattle.cedr_base.specs.declared.level.Level.{Level}
use Rattle.cedr_table.specs.Operators.{Meaning}
use Rattle.cedr_plan.specs.declared.plan.PlanNode.{PlanNode}
use Rattle.node_laws.specs.Lists.{Lists}
use Rattle.node_laws.specs.Lawful.{IsLawful, Step, lists_after, lists_behind, given_by}
use Rattle.op_node.specs.Meanings.{meaning_of, port_levels}

-- no step is on a port before that of the step before it, the first of which is on this port or a later one
abbrev pub AreInPortOrder : ℕ → List Step → Type 0
AreInPortOrder port [] = Unit {0}
AreInPortOrder port (s ∷ ss) = (port ≤ s.port) × AreInPortOrder s.port ss

-- no step is on a port behind this one
abbrev pub AreUpToPort : ℕ → List Step → Type 0
AreUpToPort port [] = Unit {0}
AreUpToPort port (s ∷ ss) = (s.port ≤ port) × AreUpToPort port ss

-- after each step what was taken and what was given are lawful
abbrev pub AreLawfulBehind : Meaning → List Level → Lists → List Message → List Step → Type 0
AreLawfulBehind meaning levels lists given [] = Unit {0}
AreLawfulBehind meaning levels lists given (s ∷ ss) = IsLawful meaning levels (lists_after lists s) (given ++ s.piece) × AreLawfulBehind meaning levels (lists_after lists s) (given ++ s.piece) ss

-- A node went on from what it took on its ports, and what it gave for that: it took all that had come on its first port,
-- then all on the next one, and so on, each message after it had answered the one before.
pub record TakesPortByPort (node : PlanNode) (lists : Lists) (given : List Message) (lists' : Lists) (given' : List Message) : Type 0 where
  pub steps : List Step
  pub lists_are : lists_behind lists steps ≡ lists'
  pub given_is : given ++ given_by steps ≡ given'
  pub order : AreInPortOrder 0 steps
  pub lawful : AreLawfulBehind (meaning_of node) (port_levels node) lists given steps
