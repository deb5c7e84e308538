-- A network to which nothing came.
use Rattle.std.proofs.Common.{inl, inr, ◌≡◌, ℕ, zero, suc, ◌+◌, ◌<◌, List, [], ◌∷◌, ◌++◌, length, get_or, replicate, take, refl, ap, sym, ◌∙◌, subst, arith, ◌≢◌, false, Bool, cond, append_assoc}
use Rattle.std.specs.Prelude.{map, All, Option, Some, IfSome}
use Rattle.std.proofs.lemmas.List.{length-replicate, length-map, length-append, map-append, take_more, take_all}
use Rattle.std.proofs.Math.Seq.{get_or-append_seam}
use Rattle.cedr_base.specs.declared.change.Message.{Message}
use Rattle.cedr_base.specs.Messages.{IsLegal, mark_of}
use Rattle.node_laws.specs.Lists.{Lists, list_at}
use Rattle.cedr_plan.specs.declared.plan.PlanNode.{PlanNode}
use Rattle.cedr_plan.specs.Drawn.{Node, node_of}
use Rattle.cedr_plan.specs.Rules.{AreNodes, IsPlan, IsNode, IsInput}
use Rattle.plan_runs.specs.Runs.{lists_at}
use Rattle.cedr_net.specs.declared.work.Work.{Work}
use Rattle.cedr_net.specs.Edges.{AreSized, lists_joined, readers_on, readers_from}
use Rattle.cedr_net.specs.Flows.{reads_of, WorksAt, Flows, AllNew, no_ports}
use Rattle.cedr_net.specs.declared.flow.Flow.{Flow}
use Rattle.cedr_net.specs.Networks.{IsAnswerOf, FlowStands}
use Rattle.plan_runs.proofs.Output.{output_kind}
use Rattle.plan_runs.proofs.PlanNodes.{split, node_stands}
use Rattle.std.specs.List.{slice_get}
use Rattle.std.proofs.lemmas.List.Elements.{All-head, All-tail}
use Rattle.std.proofs.lemmas.Bool.{ne_eqb, cases_lt}
use Rattle.cedr_plan.specs.declared.plan.Plan.{Plan}
use Rattle.cedr_plan.specs.Places.{is_output, is_source, output_place}
use Rattle.node_laws.specs.Pass.{HasBlockWithin as IsPassLevel}
use Rattle.cedr_node.proofs.LevelLemmas.{within_memory}
use Rattle.cedr_plan.proofs.PlaceLemmas.{node_is, output_stands, place_within}
use Rattle.op_node.specs.Ready.{IsReady}
use Rattle.op_node.specs.ReadyLaws.{node_ready}
use Rattle.cedr_plan.specs.declared.plan.NodeKind.{NodeKind}

-- nodes to which nothing came, and one more
pub new_push : (nodes : List PlanNode) (works : List Work) (n : PlanNode) (w : Work) → AllNew nodes works → WorksAt w n (no_ports n) [] → AllNew (nodes ++ n ∷ []) (works ++ w ∷ [])
new_push [] [] n w h k = (k, tt)
new_push [] (v ∷ works) n w h k = absurd h
new_push (m ∷ nodes) [] n w h k = absurd h
new_push (m ∷ nodes) (v ∷ works) n w h k = (h.0, new_push nodes works n w h.1 k)

new_length : (nodes : List PlanNode) (works : List Work) → AllNew nodes works → length works ≡ length nodes
new_length [] [] h = refl
new_length [] (v ∷ works) h = absurd h
new_length (m ∷ nodes) [] h = absurd h
new_length (m ∷ nodes) (v ∷ works) h = ap (λ k. suc k) (new_length nodes works h.1)

new_sized : (nodes : List PlanNode) → AreSized (map (λ (n : PlanNode). n.inputs.items) nodes) (map no_ports nodes)
new_sized [] = tt
new_sized (n ∷ nodes) = (sym (length-replicate {A = List Message} (length n.inputs.items) []), new_sized nodes)

-- of lists without a message none has one
pub no_list : (n k : ℕ) → list_at (replicate n []) k ≡ []
no_list zero k = refl
no_list (suc n) zero = refl
no_list (suc n) (suc k) = no_list n k

joined_none : (n : ℕ) → lists_joined (replicate n []) (replicate n []) ≡ replicate n []
joined_none zero = refl
joined_none (suc n) = ap (λ (ls : Lists). [] ∷ ls) (joined_none n)

read_none : (n : ℕ) (inputs : List ℕ) → replicate (length inputs) [] ≡ map (list_at (replicate n [])) inputs
read_none n [] = refl
read_none n (i ∷ inputs) = let a = no_list n i in let b = read_none n inputs in cc

new_edges : (nodes : List PlanNode) (n k : ℕ) → lists_joined (lists_at (map no_ports nodes) k) (lists_at (map no_ports nodes) k) ≡ map (list_at (replicate n [])) (get_or (map (λ (m : PlanNode). m.inputs.items) nodes) k [])
new_edges [] n k = refl
new_edges (m ∷ nodes) n zero = joined_none (length m.inputs.items) ∙ read_none n m.inputs.items
new_edges (m ∷ nodes) n (suc k) = new_edges nodes n k

new_work : (before after : List PlanNode) (n : PlanNode) (works : List Work) (d : Work) → AllNew (before ++ n ∷ after) works → WorksAt (get_or works (length before) d) n (lists_at (map no_ports (before ++ n ∷ after)) (length before)) []
new_work [] after n [] d h = absurd h
new_work [] after n (w ∷ works) d h = h.0
new_work (b ∷ before) after n [] d h = absurd h
new_work (b ∷ before) after n (w ∷ works) d h = new_work before after n works d h.1

-- the nodes of a plan to which nothing came stand for lists without a message, and nothing waits
pub new_flows : (nodes : List PlanNode) (works : List Work) → AreNodes [] (map node_of nodes) → AllNew nodes works → Flows nodes (reads_of nodes) (map no_ports nodes) works (map no_ports nodes) (replicate (length nodes) [])
new_flows nodes works are new = record {
  are = are;
  reads_are = refl;
  sized = new_sized nodes;
  works_count = new_length nodes works new;
  ports_count = length-map nodes no_ports;
  given_count = length-replicate (length nodes) [];
  widths = λ k. refl;
  edges = new_edges nodes (length nodes);
  work = λ before after n d whole.
      subst (λ (g : List Message). WorksAt (get_or works (length before) d) n (lists_at (map no_ports nodes) (length before)) g) (sym (no_list (length nodes) (length before)))
      (subst (λ (ns : List PlanNode). WorksAt (get_or works (length before) d) n (lists_at (map no_ports ns) (length before)) []) (sym whole) (new_work before after n works d (subst (λ (ns : List PlanNode). AllNew ns works) whole new)));
  legal = λ k. subst IsLegal (sym (no_list (length nodes) k)) tt;
}

-- ---- nobody reads the output

-- a list of places none of which is this one
abbrev Apart : ℕ → List ℕ → Type 0
Apart place [] = Unit {0}
Apart place (i ∷ inputs) = (i ≢ place) × Apart place inputs

abbrev AllApart : ℕ → List PlanNode → Type 0
AllApart place [] = Unit {0}
AllApart place (n ∷ nodes) = Apart place n.inputs.items × AllApart place nodes

none_on : (place at port : ℕ) (inputs : List ℕ) → Apart place inputs → readers_on place at port inputs ≡ []
none_on place at port [] h = refl
none_on place at port (i ∷ inputs) h =
    ap (λ (b : Bool). cond b ((at, port) ∷ []) [] ++ readers_on place at (port + 1) inputs) (ne_eqb i place h.0) ∙ none_on place at (port + 1) inputs h.1

none_from : (place at : ℕ) (nodes : List PlanNode) → AllApart place nodes → readers_from place at (reads_of nodes) ≡ []
none_from place at [] h = refl
none_from place at (n ∷ nodes) h =
    ap (λ (rs : List (ℕ × ℕ)). rs ++ readers_from place (at + 1) (reads_of nodes)) (none_on place at 0 n.inputs.items h.0) ∙ none_from place (at + 1) nodes h.1

-- an earlier node is at its place
got_at : (before after : List PlanNode) (b : PlanNode) → slice_get (map node_of (before ++ b ∷ after)) (length before) ≡ Some (node_of b)
got_at [] after b = refl
got_at (x ∷ before) after b = got_at before after b

-- what may be read at the output's place isn't the output, so nothing there is read
input_apart : (plan : Plan) → IsPlan plan → (before rest : List PlanNode) → plan.nodes.items ≡ before ++ rest → (i : ℕ) → IsInput (map node_of before) i → i ≢ output_place plan.nodes.items
input_apart plan is before rest whole i input same =
    let s = split before i (let within = input.0 in omega (arith, within, length-map before node_of)) in
    let parts : plan.nodes.items ≡ s.before ++ s.node ∷ (s.after ++ rest) = whole ∙ (ap (λ (ns : List PlanNode). ns ++ rest) s.whole ∙ append_assoc s.before (s.node ∷ s.after) rest) in
    let out = output_stands plan s.before (s.after ++ rest) s.node is parts (s.place ∙ same) in
    let got : slice_get (map node_of before) i ≡ Some (node_of s.node) = ap (λ (ns : List PlanNode). slice_get (map node_of ns) i) s.whole ∙ (ap (λ (k : ℕ). slice_get (map node_of (s.before ++ s.node ∷ s.after)) k) (sym s.place) ∙ got_at s.before s.after s.node) in
    let isnt : is_output s.node.kind ≡ false = subst (λ (o : Option Node). IfSome o (λ node. is_output node.kind ≡ false)) got input.1 in
    absurd (cc (isnt, out))

inputs_apart : (plan : Plan) → IsPlan plan → (before rest : List PlanNode) → plan.nodes.items ≡ before ++ rest → (inputs : List ℕ) → All (IsInput (map node_of before)) inputs → Apart (output_place plan.nodes.items) inputs
inputs_apart plan is before rest whole [] all = tt
inputs_apart plan is before rest whole (i ∷ inputs) all =
    (input_apart plan is before rest whole i (All-head (IsInput (map node_of before)) i inputs all), inputs_apart plan is before rest whole inputs (All-tail (IsInput (map node_of before)) i inputs all))

all_apart : (plan : Plan) → IsPlan plan → (before nodes : List PlanNode) → plan.nodes.items ≡ before ++ nodes → AreNodes (map node_of before) (map node_of nodes) → AllApart (output_place plan.nodes.items) nodes
all_apart plan is before [] whole are = tt
all_apart plan is before (n ∷ nodes) whole are = (
  inputs_apart plan is before (n ∷ nodes) whole n.inputs.items are.0.inputs,
  all_apart plan is (before ++ n ∷ []) nodes (whole ∙ sym (append_assoc before (n ∷ []) nodes)) (subst (λ (e : List Node). AreNodes e (map node_of nodes)) (sym (map-append node_of before (n ∷ []))) are.1),
)

-- no port reads the output of a plan
pub output_unread : (plan : Plan) → IsPlan plan → readers_from (output_place plan.nodes.items) 0 (reads_of plan.nodes.items) ≡ []
output_unread plan is = none_from (output_place plan.nodes.items) 0 plan.nodes.items (all_apart plan is [] plan.nodes.items refl is.nodes)

-- ---- the output has one port

ports_here : (before after : List PlanNode) (n : PlanNode) → lists_at (map no_ports (before ++ n ∷ after)) (length before) ≡ no_ports n
ports_here [] after n = refl
ports_here (b ∷ before) after n = ports_here before after n

-- the output of a plan has one port
pub output_has_one : (plan : Plan) → IsPlan plan → length (lists_at (map no_ports plan.nodes.items) (output_place plan.nodes.items)) ≡ 1
output_has_one plan is =
    let s = split plan.nodes.items (output_place plan.nodes.items) (place_within plan is) in
    let out = output_kind s.node.kind (output_stands plan s.before s.after s.node is s.whole s.place) in
    let isnt : is_source s.node.kind ≡ false = ap is_source out in
    let stands = node_stands plan.nodes.items s.before s.after s.node is.nodes s.whole in
    let one : length s.node.inputs.items ≡ 1 = subst (λ (k : NodeKind). IsReady k (length s.node.inputs.items)) out (node_ready (map node_of s.before) s.node stands isnt) in
    ap (λ (ns : List PlanNode). length (lists_at (map no_ports ns) (output_place plan.nodes.items))) s.whole
    ∙ (ap (λ (k : ℕ). length (lists_at (map no_ports (s.before ++ s.node ∷ s.after)) k)) (sym s.place)
    ∙ (ap (λ (ls : Lists). length ls) (ports_here s.before s.after s.node) ∙ (length-replicate (length s.node.inputs.items) [] ∙ one)))

-- nothing came on any port
pub nothing_at : (nodes : List PlanNode) (k j : ℕ) → list_at (lists_at (map no_ports nodes) k) j ≡ []
nothing_at [] k j = refl
nothing_at (n ∷ nodes) zero j = no_list (length n.inputs.items) j
nothing_at (n ∷ nodes) (suc k) j = nothing_at nodes k j

-- a flow whose parts are those of a plan to which nothing came
pub new_flow : (plan : Plan) (flow : Flow) → IsPlan plan → length flow.readers.items ≡ length plan.nodes.items → ((k : ℕ) → k < length plan.nodes.items → get_or flow.readers.items k [] ≡ readers_from k 0 (reads_of plan.nodes.items))
    → flow.waiting.items ≡ map no_ports plan.nodes.items → AllNew plan.nodes.items flow.works.items → flow.output ≡ output_place plan.nodes.items → IsAnswerOf flow.answer [] → flow.reach ≡ 0
    → FlowStands plan.nodes.items flow (map no_ports plan.nodes.items) (replicate (length plan.nodes.items) [])
new_flow plan flow is count readers waiting works output answer reach =
    let nodes = plan.nodes.items in
    record {
      flows = subst (λ (ws : List Lists). Flows nodes (reads_of nodes) ws flow.works.items (map no_ports nodes) (replicate (length nodes) [])) (sym waiting) (new_flows nodes flow.works.items is.nodes works);
      readers_count = count;
      readers = readers;
      output = output;
      output_within = place_within plan is;
      unread = output_unread plan is;
      one_port = output_has_one plan is;
      answer = subst (λ (ms : List Message). IsAnswerOf flow.answer ms) (sym (no_list (length nodes) (output_place nodes))) answer;
      reach = reach ∙ ap mark_of (sym (nothing_at nodes (output_place nodes) 0));
    }

-- ---- node by node

-- the first nodes' readers, ports and works
pub record NewUpTo (nodes : List PlanNode) (place : ℕ) (readers : List (List (ℕ × ℕ))) (waiting : List Lists) (works : List Work) : Type 0 where
  pub readers_count : length readers ≡ place
  pub readers_are : (k : ℕ) → k < place → get_or readers k [] ≡ readers_from k 0 (reads_of nodes)
  pub waiting_are : waiting ≡ map no_ports (take place nodes)
  pub works_are : AllNew (take place nodes) works

-- at first there are none
pub none_new : (nodes : List PlanNode) (readers : List (List (ℕ × ℕ))) (waiting : List Lists) (works : List Work) → readers ≡ [] → waiting ≡ [] → works ≡ [] → NewUpTo nodes 0 readers waiting works
none_new nodes readers waiting works no_readers no_waiting no_works = record {
  readers_count = ap (λ (rs : List (List (ℕ × ℕ))). length rs) no_readers;
  readers_are = λ k within. absurd (omega arith);
  waiting_are = no_waiting;
  works_are = subst (AllNew []) (sym no_works) tt;
}

at_front : {X : Type 0} (xs ys : List X) (k : ℕ) (d : X) → k < length xs → get_or (xs ++ ys) k d ≡ get_or xs k d
at_front [] ys k d within = absurd (omega arith)
at_front (x ∷ xs) ys zero d within = refl
at_front (x ∷ xs) ys (suc k) d within = at_front xs ys k d (omega arith)

-- and one node more
pub new_on : (nodes : List PlanNode) (place : ℕ) (readers : List (List (ℕ × ℕ))) (waiting : List Lists) (works : List Work) (r : List (ℕ × ℕ)) (q : Lists) (w : Work) (n : PlanNode)
    → NewUpTo nodes place readers waiting works → place < length nodes → get_or nodes place n ≡ n → r ≡ readers_from place 0 (reads_of nodes) → q ≡ no_ports n → WorksAt w n (no_ports n) []
    → NewUpTo nodes (place + 1) (readers ++ r ∷ []) (waiting ++ q ∷ []) (works ++ w ∷ [])
new_on nodes place readers waiting works r q w n h within here reads ports work =
    let more : take (place + 1) nodes ≡ take place nodes ++ n ∷ [] = take_more nodes place n within ∙ ap (λ (m : PlanNode). take place nodes ++ m ∷ []) here in
    record {
      readers_count = omega (arith, length-append readers (r ∷ []), h.readers_count);
      readers_are = λ k inside. elim (cases_lt k place) [
        | inl first ↦ at_front readers (r ∷ []) k [] (let e = h.readers_count in omega arith) ∙ h.readers_are k first
        | inr last ↦ newest k (let e = h.readers_count in omega arith) ∙ (reads ∙ ap (λ (j : ℕ). readers_from j 0 (reads_of nodes)) (let e : place ≡ k = omega arith in e))
      ];
      waiting_are = ap (λ (ws : List Lists). ws ++ q ∷ []) h.waiting_are
          ∙ (ap (λ (qs : Lists). map no_ports (take place nodes) ++ qs ∷ []) ports ∙ (sym (map-append no_ports (take place nodes) (n ∷ [])) ∙ ap (map no_ports) (sym more)));
      works_are = subst (λ (ns : List PlanNode). AllNew ns (works ++ w ∷ [])) (sym more) (new_push (take place nodes) works n w h.works_are work);
    } where
      newest : (k : ℕ) → k ≡ length readers → get_or (readers ++ r ∷ []) k [] ≡ r
      newest k e = ap (λ (j : ℕ). get_or (readers ++ r ∷ []) j []) e ∙ get_or-append_seam readers r [] []

-- where all are there
pub new_whole : (plan : Plan) (flow : Flow) → IsPlan plan → (place : ℕ) → place ≡ length plan.nodes.items → NewUpTo plan.nodes.items place flow.readers.items flow.waiting.items flow.works.items
    → flow.output ≡ output_place plan.nodes.items → IsAnswerOf flow.answer [] → flow.reach ≡ 0 → FlowStands plan.nodes.items flow (map no_ports plan.nodes.items) (replicate (length plan.nodes.items) [])
new_whole plan flow is place end h output answer reach =
    let all : take place plan.nodes.items ≡ plan.nodes.items = take_all place plan.nodes.items (omega arith) in
    new_flow plan flow is (h.readers_count ∙ end) (λ k inside. h.readers_are k (omega arith)) (h.waiting_are ∙ ap (map no_ports) all) (subst (λ (ns : List PlanNode). AllNew ns flow.works.items) all h.works_are) output answer reach

-- a node of a plan can be made
pub can_be_made : (nodes : List PlanNode) (place : ℕ) (n : PlanNode) → AreNodes [] (map node_of nodes) → place < length nodes → get_or nodes place n ≡ n → (is_source n.kind ≡ false → IsReady n.kind (length n.inputs.items)) × IsPassLevel n.level
can_be_made nodes place n are within here =
    let stands = subst (λ (m : PlanNode). IsNode (map node_of (take place nodes)) (node_of m)) here (node_is nodes place n are within) in
    (λ isnt. node_ready (map node_of (take place nodes)) n stands isnt, within_memory n.level.block n.level.memory stands.level.block_within_memory)
