-- A node of a plan, as what makes its worker wants it.
use Rattle.std.proofs.Common.{◌≡◌, ℕ, zero, suc, ◌<◌, List, [], ◌∷◌, ◌++◌, false, length, get_or, take, ap, arith}
use Rattle.std.specs.Prelude.{map}
use Rattle.node_laws.specs.Pass.{HasBlockWithin}
use Rattle.cedr_node.proofs.LevelLemmas.{within_memory}
use Rattle.cedr_plan.specs.declared.plan.PlanNode.{PlanNode}
use Rattle.cedr_plan.specs.Drawn.{node_of}
use Rattle.cedr_plan.specs.Rules.{AreNodes}
use Rattle.plan_runs.proofs.PlanNodes.{node_stands}
use Rattle.op_node.specs.Ready.{IsReady}
use Rattle.cedr_plan.specs.Places.{is_source}
use Rattle.op_node.specs.ReadyLaws.{node_ready}

-- the nodes around a node
split_at : (nodes : List PlanNode) (k : ℕ) (n : PlanNode) → k < length nodes → get_or nodes k n ≡ n → (after : List PlanNode) × (nodes ≡ take k nodes ++ n ∷ after)
split_at [] k n less here = absurd (omega arith)
split_at (m ∷ ns) zero n less here = (ns, λ i. here i ∷ ns)
split_at (m ∷ ns) (suc k) n less here = let s = split_at ns k n (omega arith) here in (s.0, ap (λ (l : List PlanNode). m ∷ l) s.1)

-- a node of a plan can be made
pub ready_at : (nodes : List PlanNode) (k : ℕ) (n : PlanNode) → AreNodes [] (map node_of nodes) → k < length nodes → get_or nodes k n ≡ n → is_source n.kind ≡ false → IsReady n.kind (length n.inputs.items)
ready_at nodes k n are less here other = let s = split_at nodes k n less here in node_ready (map node_of (take k nodes)) n (node_stands nodes (take k nodes) s.0 n are s.1) other

-- the level of a plan's node has a block that isn't over its memory
pub level_at : (nodes : List PlanNode) (k : ℕ) (n : PlanNode) → AreNodes [] (map node_of nodes) → k < length nodes → get_or nodes k n ≡ n → HasBlockWithin n.level
level_at nodes k n are less here =
    let s = split_at nodes k n less here in
    let is = node_stands nodes (take k nodes) s.0 n are s.1 in
    within_memory n.level.block n.level.memory is.level.block_within_memory
