-- A network that was fed with messages that may come.
use Rattle.std.specs.Prelude.{ℕ, ◌≡◌, ◌<◌, List, length, slice_index_or}
use Rattle.node_laws.specs.Lists.{Lists, list_at}
use Rattle.cedr_plan.specs.declared.plan.PlanNode.{PlanNode}
use Rattle.test_feeding.specs.Came.{CameFor}
use Rattle.test_feeding.specs.declared.came.Came.{Came}
use Rattle.cedr_net.specs.declared.net.SerialNet.{SerialNet}
use Rattle.cedr_net.specs.Flows.{IsSourceAt}
use Rattle.cedr_net.specs.Networks.{NetStands}

-- a network stands for some lists, and what came of each source is known
pub record NetWasFed (nodes : List PlanNode) (net : SerialNet) (came : List Came) : Type 0 where
  pub ports : List Lists
  pub given : Lists
  pub stands : NetStands nodes net ports given
  pub count : length came ≡ length nodes
  pub came_are : (k : ℕ) (d : Came) → k < length nodes → IsSourceAt nodes k → CameFor (slice_index_or came k d) (list_at given k)
