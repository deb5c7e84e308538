-- What went over the edges of a plan, as lists of its ports.
use Rattle.std.proofs.Common.{◌≡◌, ℕ, List, [], ◌∷◌, ◌++◌, length, map, take, drop, slice_index_or, refl, sym, ap, ◌∙◌, subst}
use Rattle.std.proofs.lemmas.List.{map-append, length-map}
use Rattle.cedr_edge.specs.Ends.{Carried, InEnd, OutEnd, taken_of}
use Rattle.node_laws.specs.Lists.{Lists, list_at}
use Rattle.cedr_plan.specs.declared.plan.PlanNode.{PlanNode}
use Rattle.plan_runs.specs.Runs.{IsNodeRun, IsRun, lists_at, input_lists}
use Rattle.plan_edges.specs.Wires.{AreClosed, AreSent, AreWired, all_ends, carried, froms, node_ports, ports_of}
use Rattle.std.proofs.Math.Seq.{take-append_seam, drop-append_seam}

-- the lists of one node's ports stand before those of the others
ports_first : (n : PlanNode) (nodes : List PlanNode) (first rest : Lists) → length first ≡ node_ports n → ports_of (n ∷ nodes) (first ++ rest) ≡ first ∷ ports_of nodes rest
ports_first n nodes first rest count = subst (λ (k : ℕ). take k (first ++ rest) ∷ ports_of nodes (drop k (first ++ rest)) ≡ first ∷ ports_of nodes rest) count (cc (take-append_seam first rest, drop-append_seam first rest))

-- the lists of ports that were taken are found again
taken_ports : (nodes : List PlanNode) (takers : List (List InEnd)) → map length takers ≡ map node_ports nodes → ports_of nodes (map taken_of (all_ends takers)) ≡ map (map taken_of) takers
taken_ports [] [] is = refl
taken_ports [] (t ∷ ts) is = absurd (cc is)
taken_ports (n ∷ nodes) [] is = absurd (cc is)
taken_ports (n ∷ nodes) (t ∷ ts) is =
    let count : length (map taken_of t) ≡ node_ports n = length-map t taken_of ∙ cc is in
    ap (ports_of (n ∷ nodes)) (map-append taken_of t (all_ends ts)) ∙ (ports_first n nodes (map taken_of t) (map taken_of (all_ends ts)) count ∙ ap (λ ls. map taken_of t ∷ ls) (taken_ports nodes ts (cc is)))

-- the lists of the nodes that the edges come from are the input lists of each node
pub given_ports : (given : Lists) (nodes : List PlanNode) → ports_of nodes (map (list_at given) (froms nodes)) ≡ map (input_lists given) nodes
given_ports given [] = refl
given_ports given (n ∷ nodes) =
    ap (ports_of (n ∷ nodes)) (map-append (list_at given) n.inputs.items (froms nodes)) ∙ (ports_first n nodes (input_lists given n) (map (list_at given) (froms nodes)) (length-map n.inputs.items (list_at given)) ∙ ap (λ ls. input_lists given n ∷ ls) (given_ports given nodes))

-- what is made of a node stands after what is made of the nodes before it
at_place : {A : Type 0} (f : PlanNode → A) (before after : List PlanNode) (n : PlanNode) (d : A) → slice_index_or (map f (before ++ n ∷ after)) (length before) d ≡ f n
at_place f [] after n d = refl
at_place f (b ∷ before) after n d = at_place f before after n d

-- what went over the closed edges of a plan is, port by port, what was taken from the ends
pub closed_ports : (nodes : List PlanNode) (takers : List (List InEnd)) (putters : List (List OutEnd)) (edges : List Carried) → AreWired nodes takers putters → AreClosed nodes takers putters edges → ports_of nodes (carried edges) ≡ map (map taken_of) takers
closed_ports nodes takers putters edges wired closed = ap (ports_of nodes) closed.taken ∙ taken_ports nodes takers wired.ports

-- where each node owes what it gave for what its ports took, and gave it over each edge that comes from it,
-- what went over the closed edges is a run of the plan
pub closed_run : (nodes : List PlanNode) (takers : List (List InEnd)) (putters : List (List OutEnd)) (edges : List Carried) (sources given : Lists) → AreClosed nodes takers putters edges → AreSent given putters
    → ((before after : List PlanNode) (n : PlanNode) → nodes ≡ before ++ n ∷ after → IsNodeRun sources before n (lists_at (ports_of nodes (carried edges)) (length before)) (list_at given (length before)))
    → IsRun nodes sources (ports_of nodes (carried edges)) given
closed_run nodes takers putters edges sources given closed sent runs = record {
  node = runs;
  edges = λ before after n is.
      let lists : carried edges ≡ map (list_at given) (froms nodes) = sym closed.same ∙ closed.sent given sent in
      ap (λ ls. lists_at (ports_of nodes ls) (length before)) lists ∙ (ap (λ ls. lists_at ls (length before)) (given_ports given nodes) ∙ (ap (λ ns. lists_at (map (input_lists given) ns) (length before)) is ∙ at_place (input_lists given) before after n []));
}
