-- The tables and the marks of a plan's nodes.
use Rattle.std.proofs.Common.{◌≡◌, ℕ, zero, suc, ◌+◌, ◌<◌, ◌≤◌, List, [], ◌∷◌, ◌++◌, false, length, get_or, take, replicate, subst, sym, arith}
use Rattle.std.specs.Prelude.{map}
use Rattle.cedr_base.specs.declared.time.TheConstants.{FOREVER}
use Rattle.cedr_plan.specs.declared.plan.PlanNode.{PlanNode}
use Rattle.cedr_plan.specs.Drawn.{node_of}
use Rattle.cedr_plan.specs.Rules.{AreNodes, IsNode}
use Rattle.cedr_plan.proofs.PlaceLemmas.{node_is}
use Rattle.cedr_table.specs.Operators.{Tables, SameTables, AreTimes, table_at, mark_at}
use Rattle.cedr_table.specs.PortLaws.{same_at, time_at}
use Rattle.op_node.specs.Ready.{IsReady}
use Rattle.cedr_plan.specs.Places.{is_source}
use Rattle.op_node.specs.ReadyLaws.{node_ready}

-- marks that are all 0 are times
pub zeros_are_times : (n : ℕ) → AreTimes (replicate n 0)
zeros_are_times zero = tt
zeros_are_times (suc n) = (omega arith, zeros_are_times n)

-- marks that are times stay so with one more that is a time
pub times_push : (ms : List ℕ) (m : ℕ) → AreTimes ms → m ≤ FOREVER → AreTimes (ms ++ m ∷ [])
times_push [] m are is = (is, tt)
times_push (x ∷ ms) m are is = (are.0, times_push ms m are.1 is)

-- of tables that are the same bags, a node reads tables that are the same bags
pub same_inputs : (tables others : Tables) (inputs : List ℕ) → SameTables tables others → SameTables (map (table_at tables) inputs) (map (table_at others) inputs)
same_inputs tables others [] same = tt
same_inputs tables others (i ∷ inputs) same = (same_at i tables others same, same_inputs tables others inputs same)

-- and a node of a plan has what its operator asks for
pub plan_ready : (own nodes : List PlanNode) (i : ℕ) (n : PlanNode) → nodes ≡ own → AreNodes [] (map node_of own) → i < length nodes → n ≡ get_or nodes i n → is_source n.kind ≡ false → IsReady n.kind (length n.inputs.items)
plan_ready own nodes i n same are within is =
    node_ready (map node_of (take i nodes)) n
    (subst (λ (x : PlanNode). IsNode (map node_of (take i nodes)) (node_of x)) (sym is) (node_is nodes i n (subst (λ (ns : List PlanNode). AreNodes [] (map node_of ns)) (sym same) are) within))

-- the marks that a node reads are times where all marks are
pub are_times_at : (ms : List ℕ) (inputs : List ℕ) → AreTimes ms → AreTimes (map (mark_at ms) inputs)
are_times_at ms [] are = tt
are_times_at ms (i ∷ inputs) are = (time_at i ms are, are_times_at ms inputs are)
