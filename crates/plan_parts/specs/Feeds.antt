-- A network to which the messages of a part are fed.
use Rattle.std.specs.Prelude.{ℕ, ◌≡◌, ◌<◌, Bool, List, length, take, Option}
use Rattle.cedr_base.specs.declared.field.Field.{Field}
use Rattle.cedr_plan.specs.declared.plan.PlanNode.{PlanNode}
use Rattle.node_laws.specs.Lists.{Lists, list_at}
use Rattle.cedr_net.specs.declared.net.SerialNet.{SerialNet}
use Rattle.cedr_net.specs.Edges.{NothingWaits}
use Rattle.cedr_net.specs.Flows.{IsSourceAt}
use Rattle.cedr_net.specs.Networks.{NetStands, waiting_at}
use Rattle.plan_keys.specs.Keys.{column_at}
use Rattle.plan_parts.specs.Parts.{list_part}

-- each source gave, of its first so many messages, those that go to the part
pub record IsFedFirst (nodes : List PlanNode) (net : SerialNet) (mine : Option Field → Bool) (columns : List ℕ) (lists : Lists) (count : ℕ) : Type 0 where
  pub ports : List Lists
  pub given : Lists
  pub stands : NetStands nodes net ports given
  pub fed : (k : ℕ) → k < length nodes → IsSourceAt nodes k → list_at given k ≡ list_part mine (column_at columns k) (take count (list_at lists k))

-- each source gave all of them, and nothing waits
pub record IsFedWhole (nodes : List PlanNode) (net : SerialNet) (mine : Option Field → Bool) (columns : List ℕ) (lists : Lists) : Type 0 where
  pub ports : List Lists
  pub given : Lists
  pub stands : NetStands nodes net ports given
  pub fed : (k : ℕ) → k < length nodes → IsSourceAt nodes k → list_at given k ≡ list_part mine (column_at columns k) (list_at lists k)
  pub empty : (k : ℕ) → k < length nodes → NothingWaits (waiting_at net k)
