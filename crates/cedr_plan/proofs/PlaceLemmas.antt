-- Where the output and the sources of a plan stand among its nodes, and that each node reads earlier ones.
use Rattle.std.proofs.Common.{◌≡◌, ℕ, zero, suc, ◌+◌, ◌<◌, List, [], ◌∷◌, ◌++◌, Bool, true, false, cond, not, length, get_or, take, refl, ap, subst, sym, ◌∙◌, arith, append_assoc}
use Rattle.std.specs.Prelude.{map, All, count_by, nat_lt, unwrap_or, None, Some}
use Rattle.std.specs.List.{position_or_len, prefix_len}
use Rattle.std.proofs.lemmas.Bool.{lt-ltb}
use Rattle.std.proofs.lemmas.List.{append-nil, length-map, length-take}
use Rattle.std.proofs.lemmas.List.Elements.{All-get_or, All-from_get_or}
use Rattle.std.proofs.lemmas.List.Sums.{sum_by-cons, sum_by-append}
use Rattle.cedr_plan.specs.declared.plan.Plan.{Plan}
use Rattle.cedr_plan.specs.declared.plan.PlanNode.{PlanNode}
use Rattle.cedr_plan.specs.Drawn.{Node, drawn, node_of}
use Rattle.cedr_plan.specs.Places.{is_output, is_source, source_count, output_place}
use Rattle.cedr_plan.specs.Rules.{AreNodes, ArePlanned, IsInput, IsNode, IsPlan}

-- ---- the nodes that a node reads

node_behind : (earlier : List Node) (nodes : List PlanNode) (i : ℕ) (d : PlanNode) → AreNodes earlier (map node_of nodes) → i < length nodes → IsNode (earlier ++ map node_of (take i nodes)) (node_of (get_or nodes i d))
node_behind earlier [] i d are within = absurd (omega arith)
node_behind earlier (n ∷ nodes) zero d are within = subst (λ (e : List Node). IsNode e (node_of n)) (sym (append-nil earlier)) are.0
node_behind earlier (n ∷ nodes) (suc i) d are within =
    subst (λ (e : List Node). IsNode e (node_of (get_or nodes i d))) (append_assoc earlier (node_of n ∷ []) (map node_of (take i nodes))) (node_behind (earlier ++ node_of n ∷ []) nodes i d are.1 (omega arith))

-- each node of a plan may follow those before it
pub node_is : (nodes : List PlanNode) (i : ℕ) (d : PlanNode) → AreNodes [] (map node_of nodes) → i < length nodes → IsNode (map node_of (take i nodes)) (node_of (get_or nodes i d))
node_is nodes i d are within = node_behind [] nodes i d are within

-- and reads nodes before it
pub inputs_are : (before : List PlanNode) (node : PlanNode) → IsNode (map node_of before) (node_of node) → All (λ (place : ℕ). place < length before) node.inputs.items
inputs_are before node is =
    All-from_get_or (λ (place : ℕ). place < length before) node.inputs.items 0
    (λ k h. let input = (All-get_or (IsInput (map node_of before)) node.inputs.items k 0 h is.inputs).0 in omega (arith, input, length-map before node_of))

-- a node of a plan is one that may follow the nodes before it
plan_node : (own nodes : List PlanNode) (i : ℕ) (n : PlanNode) → nodes ≡ own → AreNodes [] (map node_of own) → i < length nodes → n ≡ get_or nodes i n → IsNode (map node_of (take i nodes)) (node_of n)
plan_node own nodes i n same are within is =
    subst (λ (x : PlanNode). IsNode (map node_of (take i nodes)) (node_of x)) (sym is) (node_is nodes i n (subst (λ (ns : List PlanNode). AreNodes [] (map node_of ns)) (sym same) are) within)

-- a node that may follow the nodes before it reads none but these
reads_earlier : (nodes : List PlanNode) (i : ℕ) (n : PlanNode) → i < length nodes → IsNode (map node_of (take i nodes)) (node_of n) → (k d : ℕ) → k < length n.inputs.items → get_or n.inputs.items k d < i
reads_earlier nodes i n within is k d there = let h = inputs_are (take i nodes) n is k d there in omega (arith, h, length-take i nodes)

-- so a node of a plan reads none but nodes before it
pub plan_reads : (own nodes : List PlanNode) (i : ℕ) (n : PlanNode) → nodes ≡ own → AreNodes [] (map node_of own) → i < length nodes → n ≡ get_or nodes i n → (k d : ℕ) → k < length n.inputs.items → get_or n.inputs.items k d < i
plan_reads own nodes i n same are within is = reads_earlier nodes i n within (plan_node own nodes i n same are within is)

-- ---- the first node that passes a test

first_found : (b : Bool) (m n i : ℕ) → cond {A = ℕ} (not b) (1 + m) 0 ≡ 1 + i → (m ≡ i → n ≡ i) → cond {A = ℕ} (not b) (1 + n) 0 ≡ 1 + i
first_found true m n i h k = absurd (omega (arith, h))
first_found false m n i h k = omega (arith, k (omega (arith, h)))

-- where an element passes and none before it does, it is the first that passes
pub found_at : {X : Type 0} (f : X → Bool) (xs : List X) (i : ℕ) (d : X) → i < length xs → position_or_len f (take i xs) ≡ i → f (get_or xs i d) ≡ true → position_or_len f xs ≡ i
found_at f [] i d within none is = absurd (omega arith)
found_at f (x ∷ xs) zero d within none is = ap {B = ℕ} (λ b. cond (not b) (1 + prefix_len (λ y. not (f y)) xs) 0) is
found_at f (x ∷ xs) (suc i) d within none is =
    let one : suc i ≡ 1 + i = omega arith in
    first_found (f x) (position_or_len f (take i xs)) (position_or_len f xs) i (none ∙ one) (λ h. found_at f xs i d (omega arith) h is) ∙ sym one

-- a place that is among so many is the one that is found
pub place_is : (p n : ℕ) → p < n → unwrap_or (cond (nat_lt p n) (Some p) None) 0 ≡ p
place_is p n within = ap (λ (b : Bool). unwrap_or (cond b (Some p) None) 0) (lt-ltb p n within)

-- ---- sources

-- what a node adds to the number of sources
abbrev pub counted : PlanNode → ℕ
counted node = cond (is_source node.kind) 1 0

-- before a source there are fewer sources than in all
pub sources_before : (nodes : List PlanNode) (i : ℕ) (d : PlanNode) → i < length nodes → is_source (get_or nodes i d).kind ≡ true → source_count (take i nodes) < source_count nodes
sources_before [] i d within is = absurd (omega arith)
sources_before (n ∷ nodes) zero d within is = let one : counted n ≡ 1 = ap {B = ℕ} (λ b. cond b 1 0) is in omega (arith, one, sum_by-cons counted n nodes)
sources_before (n ∷ nodes) (suc i) d within is = omega (arith, sources_before nodes i d (omega arith) is, sum_by-cons counted n nodes, sum_by-cons counted n (take i nodes))

-- a plan has a node, its output
pub has_node : (nodes : List PlanNode) → count_by (λ (node : Node). is_output node.kind) (map node_of nodes) ≡ 1 → 0 < length nodes
has_node [] one = absurd (omega arith)
has_node (n ∷ nodes) one = omega arith

-- ---- the output

abbrev is_the_output : PlanNode → Bool
is_the_output node = is_output node.kind

abbrev one_if : (PlanNode → Bool) → PlanNode → ℕ
one_if f node = cond (f node) 1 0

-- a plan has as many outputs as its nodes have
outputs_alike : (nodes : List PlanNode) → count_by (λ (node : Node). is_output node.kind) (map node_of nodes) ≡ count_by is_the_output nodes
outputs_alike [] = refl
outputs_alike (n ∷ nodes) =
    omega (arith, outputs_alike nodes, sum_by-cons (λ (node : Node). cond {A = ℕ} (is_output node.kind) 1 0) (node_of n) (map node_of nodes), sum_by-cons (one_if is_the_output) n nodes)

first_at : (b : Bool) (p n : ℕ) → (b ≡ false → p < n) → cond {A = ℕ} (not b) (1 + p) 0 < 1 + n
first_at true p n h = omega arith
first_at false p n h = omega (arith, h refl)

-- where some pass, the first one stands among them
first_within : (f : PlanNode → Bool) (nodes : List PlanNode) → 0 < count_by f nodes → position_or_len f nodes < length nodes
first_within f [] some = absurd (omega arith)
first_within f (n ∷ nodes) some =
    let one : 1 + length nodes ≡ length (n ∷ nodes) = omega arith in
    subst (λ (k : ℕ). position_or_len f (n ∷ nodes) < k) one
    (first_at (f n) (position_or_len f nodes) (length nodes) (λ not_here. first_within f nodes (let none = ap {B = ℕ} (λ b. cond b 1 0) not_here in omega (arith, some, none, sum_by-cons (one_if f) n nodes))))

first_here : (b : Bool) (p : ℕ) → 0 ≡ cond {A = ℕ} (not b) (1 + p) 0 → b ≡ true
first_here true p h = refl
first_here false p h = absurd (omega (arith, h))

first_later : (b : Bool) (k p : ℕ) → 1 + k ≡ cond {A = ℕ} (not b) (1 + p) 0 → k ≡ p
first_later true k p h = absurd (omega (arith, h))
first_later false k p h = omega (arith, h)

-- at the first place stands one that passes
first_passes : (f : PlanNode → Bool) (before after : List PlanNode) (node : PlanNode) → length before ≡ position_or_len f (before ++ node ∷ after) → f node ≡ true
first_passes f [] after node at = first_here (f node) (position_or_len f after) at
first_passes f (n ∷ before) after node at =
    let one : 1 + length before ≡ length (n ∷ before) = omega arith in
    first_passes f before after node (first_later (f n) (length before) (position_or_len f (before ++ node ∷ after)) (one ∙ at))

-- the nodes of a plan are nodes each of which may stand after those before it
pub planned_nodes : (nodes : List PlanNode) → ArePlanned nodes → AreNodes [] (map node_of nodes)
planned_nodes nodes are = subst (AreNodes []) (sym are.nodes_are) are.sound.nodes

-- the nodes of an accepted plan are those of a plan that keeps the rules
pub nodes_planned : (plan : Plan) → IsPlan plan → ArePlanned plan.nodes.items
nodes_planned plan is = record { plan = drawn plan; sound = is; nodes_are = refl }

one_planned : (nodes : List PlanNode) → ArePlanned nodes → count_by (λ (node : Node). is_output node.kind) (map node_of nodes) ≡ 1
one_planned nodes are = ap (count_by (λ (node : Node). is_output node.kind)) are.nodes_are ∙ are.sound.one_output

some_output : (nodes : List PlanNode) → ArePlanned nodes → position_or_len is_the_output nodes < length nodes
some_output nodes are = let one = one_planned nodes are in first_within is_the_output nodes (omega (arith, one, outputs_alike nodes))

first_is : (nodes : List PlanNode) → ArePlanned nodes → output_place nodes ≡ position_or_len is_the_output nodes
first_is nodes are = place_is (position_or_len is_the_output nodes) (length nodes) (some_output nodes are)

-- the output's place is one of the nodes'
pub place_among : (nodes : List PlanNode) → ArePlanned nodes → output_place nodes < length nodes
place_among nodes are = subst (λ (k : ℕ). k < length nodes) (sym (first_is nodes are)) (some_output nodes are)

-- and the output stands there
pub output_among : (nodes before after : List PlanNode) (node : PlanNode) → ArePlanned nodes → nodes ≡ before ++ node ∷ after → length before ≡ output_place nodes → is_output node.kind ≡ true
output_among nodes before after node are parts at = first_passes is_the_output before after node (at ∙ (first_is nodes are ∙ ap (position_or_len is_the_output) parts))

-- the same of an accepted plan
pub place_within : (plan : Plan) → IsPlan plan → output_place plan.nodes.items < length plan.nodes.items
place_within plan is = place_among plan.nodes.items (nodes_planned plan is)

pub output_stands : (plan : Plan) (before after : List PlanNode) (node : PlanNode) → IsPlan plan → plan.nodes.items ≡ before ++ node ∷ after → length before ≡ output_place plan.nodes.items → is_output node.kind ≡ true
output_stands plan before after node is = output_among plan.nodes.items before after node (nodes_planned plan is)

-- before a source there are fewer sources than in all
pub sources_behind : (nodes before after : List PlanNode) (node : PlanNode) → nodes ≡ before ++ node ∷ after → is_source node.kind ≡ true → source_count before < source_count nodes
sources_behind nodes before after node parts is =
    let one : counted node ≡ 1 = ap {B = ℕ} (λ b. cond b 1 0) is in
    subst (λ (all : List PlanNode). source_count before < source_count all) (sym parts) (omega (arith, one, sum_by-append counted before (node ∷ after), sum_by-cons counted node after))
