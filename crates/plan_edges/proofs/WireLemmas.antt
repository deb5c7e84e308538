-- Edges that are made one by one.
use Rattle.std.proofs.Common.{◌≡◌, ◌≢◌, ℕ, zero, suc, ◌+◌, ◌<◌, ◌≤◌, Bool, true, false, List, [], ◌∷◌, ◌++◌, length, map, slice_index_or, replicate, nat_eq, if◌then◌else◌, refl, sym, ap, ◌∙◌, subst, arith, append_assoc, length-append}
use Rattle.std.proofs.lemmas.List.{length-set, get_or-set_same, get_or-set_other, map-append, append-nil, length-map, length-replicate, get_or_append_left, get_or-append-add}
use Rattle.std.proofs.lemmas.List.Elements.{All-append, All-cons, All-set, All-replicate, All-get_or}
use Rattle.std.proofs.lemmas.Grind.{flat_map-append}
use Rattle.std.proofs.lemmas.Bool.Decides.{nat_tests}
use Rattle.std.specs.List.{flat_map, All}
use Rattle.atomic_table.specs.Seated.{TableId}
use Rattle.cedr_edge.specs.Ends.{InEnd, OutEnd}
use Rattle.cedr_plan.specs.Drawn.{Node, node_of}
use Rattle.cedr_plan.specs.Rules.{IsInput, AreNodes}
use Rattle.cedr_plan.specs.declared.plan.PlanNode.{PlanNode}
use Rattle.plan_edges.specs.Wires.{froms, node_ports, new_in, new_out, in_edge, out_edge, all_ends, puts_at, edges_from, more_at, wired_on, AreWithin, PortWired, PortsWired, NodesWired, AreWired, AreNew}

-- edges that are made one after the other, and some after them
wired_append : (room : ℕ) (putters : List (List OutEnd)) (fs gs : List ℕ) (es ds : List TableId) → length es ≡ length fs → wired_on room putters (fs ++ gs) (es ++ ds) ≡ wired_on room (wired_on room putters fs es) gs ds
wired_append room putters [] gs [] ds is = refl
wired_append room putters [] gs (e ∷ es) ds is = absurd (omega (arith, is))
wired_append room putters (f ∷ fs) gs [] ds is = absurd (omega (arith, is))
wired_append room putters (f ∷ fs) gs (e ∷ es) ds is = wired_append room (more_at putters f (new_out room e)) fs gs es ds (omega (arith, is))

-- no node goes and none comes
pub wired_length : (room : ℕ) (putters : List (List OutEnd)) (fs : List ℕ) (es : List TableId) → length (wired_on room putters fs es) ≡ length putters
wired_length room putters [] es = refl
wired_length room putters (f ∷ fs) [] = refl
wired_length room putters (f ∷ fs) (e ∷ es) = wired_length room (more_at putters f (new_out room e)) fs es ∙ length-set putters f (puts_at putters f ++ new_out room e ∷ [])

-- one port more
pub ports_more : (room from : ℕ) (fs : List ℕ) (ends ends' : List InEnd) (first putters putters' : List (List OutEnd)) → PortsWired room fs ends first putters → PortWired room from ends ends' putters putters' → PortsWired room (fs ++ from ∷ []) ends' first putters'
ports_more room from fs ends ends' first putters putters' some one = record {
  edges = some.edges ++ one.edge ∷ [];
  count = omega (arith, some.count, length-append some.edges (one.edge ∷ []), length-append fs (from ∷ []));
  takes = one.takes ∙ (ap (λ xs. xs ++ new_in one.edge ∷ []) some.takes ∙ sym (map-append new_in some.edges (one.edge ∷ [])));
  puts = one.puts ∙ (ap (λ ps. more_at ps from (new_out room one.edge)) some.puts ∙ sym (wired_append room first fs (from ∷ []) some.edges (one.edge ∷ []) some.count));
}

-- as many edges as ports
flat_count : (nodes : List PlanNode) (edges : List (List TableId)) → map length edges ≡ map node_ports nodes → length (flat_map (λ (es : List TableId). es) edges) ≡ length (froms nodes)
flat_count [] [] is = refl
flat_count [] (e ∷ es) is = absurd (cc is)
flat_count (n ∷ nodes) [] is = absurd (cc is)
flat_count (n ∷ nodes) (e ∷ es) is =
    let here : length e ≡ node_ports n = cc is in
    let rest = flat_count nodes es (cc is) in
    omega (arith, here, rest, length-append e (flat_map (λ (xs : List TableId). xs) es), length-append n.inputs.items (froms nodes))

-- one node more
pub nodes_more : (room : ℕ) (nodes : List PlanNode) (n : PlanNode) (takers : List (List InEnd)) (ends : List InEnd) (first putters putters' : List (List OutEnd)) → NodesWired room nodes takers first putters → PortsWired room n.inputs.items ends putters putters' → NodesWired room (nodes ++ n ∷ []) (takers ++ ends ∷ []) first putters'
nodes_more room nodes n takers ends first putters putters' some one = record {
  edges = some.edges ++ one.edges ∷ [];
  counts = map-append length some.edges (one.edges ∷ []) ∙ (ap2 some.counts (ap (λ k. k ∷ []) one.count) ∙ sym (map-append node_ports nodes (n ∷ [])));
  takes = ap2 some.takes (ap (λ e. e ∷ []) one.takes) ∙ sym (map-append (map new_in) some.edges (one.edges ∷ []));
  puts = one.puts ∙ (ap (λ ps. wired_on room ps n.inputs.items one.edges) some.puts ∙ (sym (wired_append room first (froms nodes) n.inputs.items (flat some.edges) one.edges (flat_count nodes some.edges some.counts)) ∙ both));
}
  where
    flat : List (List TableId) → List TableId
    flat edges = flat_map (λ (es : List TableId). es) edges

    ap2 : {A : Type 0} {xs ys us vs : List A} → xs ≡ ys → us ≡ vs → xs ++ us ≡ ys ++ vs
    ap2 p q = cc (p, q)

    both : wired_on room first (froms nodes ++ n.inputs.items) (flat some.edges ++ one.edges) ≡ wired_on room first (froms (nodes ++ n ∷ [])) (flat (some.edges ++ one.edges ∷ []))
    both =
        let a : froms (nodes ++ n ∷ []) ≡ froms nodes ++ n.inputs.items = flat_map-append (λ (k : PlanNode). k.inputs.items) nodes (n ∷ []) ∙ ap (λ xs. froms nodes ++ xs) (append-nil n.inputs.items) in
        let b : flat (some.edges ++ one.edges ∷ []) ≡ flat some.edges ++ one.edges = flat_map-append (λ (es : List TableId). es) some.edges (one.edges ∷ []) ∙ ap (λ xs. flat some.edges ++ xs) (append-nil one.edges) in
        cc (a, b)

-- the same where the edges of some ports are made
pub ports_length : (room : ℕ) (fs : List ℕ) (ends : List InEnd) (putters putters' : List (List OutEnd)) → PortsWired room fs ends putters putters' → length putters' ≡ length putters
ports_length room fs ends putters putters' some = ap length some.puts ∙ wired_length room putters fs some.edges

-- and where the edges of all ports of some nodes are made
pub nodes_length : (room : ℕ) (nodes : List PlanNode) (takers : List (List InEnd)) (putters putters' : List (List OutEnd)) → NodesWired room nodes takers putters putters' → length putters' ≡ length putters
nodes_length room nodes takers putters putters' some = ap length some.puts ∙ wired_length room putters (froms nodes) (flat_map (λ (es : List TableId). es) some.edges)

-- the nodes that the edges of one of some nodes come from are among those that all come from
pub within_node : (count : ℕ) (nodes : List PlanNode) (i : ℕ) (d : PlanNode) → i < length nodes → AreWithin count (froms nodes) → AreWithin count (slice_index_or nodes i d).inputs.items
within_node count [] i d lt all = absurd (omega (arith, lt))
within_node count (n ∷ nodes) zero d lt all = λ k e less. subst (λ (x : ℕ). x < count) (get_or_append_left n.inputs.items (froms nodes) e k less) (all k e (omega (arith, less, length-append n.inputs.items (froms nodes))))
within_node count (n ∷ nodes) (suc i) d lt all = within_node count nodes i d (omega (arith, lt)) (λ k e less. subst (λ (x : ℕ). x < count) (get_or-append-add n.inputs.items (froms nodes) k e) (all (length n.inputs.items + k) e (omega (arith, less, length-append n.inputs.items (froms nodes)))))

-- ---- all edges of a plan

-- the edges that come from a node are those that were made, after those that were there
edges_made : (room : ℕ) (place : ℕ) (putters : List (List OutEnd)) (fs : List ℕ) (es : List TableId) → AreWithin (length putters) fs → map out_edge (puts_at (wired_on room putters fs es) place) ≡ map out_edge (puts_at putters place) ++ edges_from place fs es
edges_made room place putters [] es within = sym (append-nil (map out_edge (puts_at putters place)))
edges_made room place putters (f ∷ fs) [] within = sym (append-nil (map out_edge (puts_at putters place)))
edges_made room place putters (f ∷ fs) (e ∷ es) within =
    let added = more_at putters f (new_out room e) in
    let still : AreWithin (length added) fs = subst (λ (k : ℕ). AreWithin k fs) (sym (length-set putters f (puts_at putters f ++ new_out room e ∷ []))) (λ k d less. within (suc k) d (omega (arith, less))) in
    edges_made room place added fs es still ∙ one_made room place putters f e (edges_from place fs es) (within 0 f (omega arith)) (nat_eq f place) refl
  where
    one_made : (room place : ℕ) (putters : List (List OutEnd)) (f : ℕ) (e : TableId) (rest : List TableId) → f < length putters → (b : Bool) → nat_eq f place ≡ b
        → map out_edge (puts_at (more_at putters f (new_out room e)) place) ++ rest ≡ map out_edge (puts_at putters place) ++ (if b then e ∷ rest else rest)
    one_made room place putters f e rest lt true is =
        let same : f ≡ place = grind (arith, nat_tests) in
        let now : puts_at (more_at putters f (new_out room e)) place ≡ puts_at putters place ++ new_out room e ∷ [] = subst (λ (p : ℕ). puts_at (more_at putters f (new_out room e)) p ≡ puts_at putters p ++ new_out room e ∷ []) same (get_or-set_same putters f (puts_at putters f ++ new_out room e ∷ []) [] lt) in
        ap (λ xs. map out_edge xs ++ rest) now ∙ (ap (λ xs. xs ++ rest) (map-append out_edge (puts_at putters place) (new_out room e ∷ [])) ∙ append_assoc (map out_edge (puts_at putters place)) (e ∷ []) rest)
    one_made room place putters f e rest lt false is =
        let apart : place ≢ f = grind (arith, nat_tests) in
        ap (λ xs. map out_edge xs ++ rest) (get_or-set_other putters f place (puts_at putters f ++ new_out room e ∷ []) [] apart)

-- the edges of the ends that take
ends_made : (edges : List (List TableId)) → map in_edge (all_ends (map (map new_in) edges)) ≡ flat_map (λ (es : List TableId). es) edges
ends_made [] = refl
ends_made (e ∷ es) = map-append in_edge (map new_in e) (all_ends (map (map new_in) es)) ∙ cc (edges_of e, ends_made es)
  where
    edges_of : (es : List TableId) → map in_edge (map new_in es) ≡ es
    edges_of [] = refl
    edges_of (x ∷ xs) = ap (λ ys. x ∷ ys) (edges_of xs)

-- each node of a plan reads earlier ones
within_behind : (count : ℕ) (earlier : List Node) (nodes : List PlanNode) → AreNodes earlier (map node_of nodes) → length earlier + length nodes ≤ count → AreWithin count (froms nodes)
within_behind count earlier [] are le = λ k d lt. absurd (omega (arith, lt))
within_behind count earlier (n ∷ nodes) are le =
    let here : AreWithin count n.inputs.items = λ k d lt. let input = (All-get_or (IsInput earlier) n.inputs.items k d lt are.0.inputs).0 in omega (arith, input, le) in
    let rest = within_behind count (earlier ++ node_of n ∷ []) nodes are.1 (omega (arith, le, length-append earlier (node_of n ∷ []))) in
    All-append (λ (place : ℕ). place < count) n.inputs.items (froms nodes) here rest

-- the edges of a plan come from nodes of the plan
pub within_plan : (nodes : List PlanNode) (count : ℕ) → AreNodes [] (map node_of nodes) → length nodes ≡ count → AreWithin count (froms nodes)
within_plan nodes count are is = within_behind count [] nodes are (omega (arith, is))

-- the ends of a node that are made have their edges
all_new : {X : Type 0} (f : TableId → X) (edge : X → TableId) → ((t : TableId) → f (edge (f t)) ≡ f t) → (es : List TableId) → All (λ (x : X). x ≡ f (edge x)) (map f es)
all_new f edge same [] = λ k d lt. absurd (omega (arith, lt))
all_new f edge same (e ∷ es) = All-cons (λ x. x ≡ f (edge x)) (f e) (map f es) (sym (same e)) (all_new f edge same es)

-- what holds of each element and of what stands for one that isn't there
at_or_default : {X : Type 0} (P : X → Type 0) (xs : List X) (i : ℕ) (d : X) → P d → All P xs → P (slice_index_or xs i d)
at_or_default P [] i d at all = at
at_or_default P (x ∷ xs) zero d at all = all 0 d (omega arith)
at_or_default P (x ∷ xs) (suc i) d at all = at_or_default P xs i d at (λ k e lt. all (suc k) e (omega (arith, lt)))

-- nothing went over the edges that are made
takers_new : (edges : List (List TableId)) → All (λ (ends : List InEnd). All (λ (e : InEnd). e ≡ new_in e.edge) ends) (map (map new_in) edges)
takers_new [] = λ k d lt. absurd (omega (arith, lt))
takers_new (e ∷ es) = All-cons (λ (ends : List InEnd). All (λ (x : InEnd). x ≡ new_in x.edge) ends) (map new_in e) (map (map new_in) es) (all_new new_in in_edge (λ t. refl) e) (takers_new es)

abbrev AllNew : ℕ → List (List OutEnd) → Type 0
AllNew room putters = All (λ (ends : List OutEnd). All (λ (e : OutEnd). e ≡ new_out room e.edge) ends) putters

putters_new : (room : ℕ) (putters : List (List OutEnd)) (fs : List ℕ) (es : List TableId) → AllNew room putters → AllNew room (wired_on room putters fs es)
putters_new room putters [] es all = all
putters_new room putters (f ∷ fs) [] all = all
putters_new room putters (f ∷ fs) (e ∷ es) all = putters_new room (more_at putters f (new_out room e)) fs es (one_new room putters f e all)
  where
    one_new : (room : ℕ) (putters : List (List OutEnd)) (f : ℕ) (e : TableId) → AllNew room putters → AllNew room (more_at putters f (new_out room e))
    one_new room putters f e all =
        let P : OutEnd → Type 0 = λ x. x ≡ new_out room x.edge in
        let there = at_or_default (All P) putters f [] (λ k d lt. absurd (omega (arith, lt))) all in
        All-set (All P) putters f (puts_at putters f ++ new_out room e ∷ []) (All-append P (puts_at putters f) (new_out room e ∷ []) there (All-cons P (new_out room e) [] refl (λ k d lt. absurd (omega (arith, lt))))) all

-- the edges of a plan, once all of its nodes are wired to nodes that no edge came from before
pub plan_wired : (room : ℕ) (nodes : List PlanNode) (takers : List (List InEnd)) (putters : List (List OutEnd)) → AreNodes [] (map node_of nodes) → NodesWired room nodes takers (replicate (length nodes) []) putters → AreWired nodes takers putters
plan_wired room nodes takers putters are some = record {
  ports = ap (map length) some.takes ∙ (sizes some.edges ∙ some.counts);
  nodes_are = nodes_length room nodes takers (replicate (length nodes) []) putters some ∙ length-replicate (length nodes) [];
  edges = λ place.
      let flat = flat_map (λ (es : List TableId). es) some.edges in
      let none : AreWithin (length (replicate (length nodes) [])) (froms nodes) = within_plan nodes (length (replicate (length nodes) [])) are (sym (length-replicate (length nodes) [])) in
      ap (λ ps. map out_edge (puts_at ps place)) some.puts ∙ (edges_made room place (replicate (length nodes) []) (froms nodes) flat none ∙ (ap (λ xs. map out_edge xs ++ edges_from place (froms nodes) flat) (empty_at (length nodes) place) ∙ ap (edges_from place (froms nodes)) (sym (ap (λ ts. map in_edge (all_ends ts)) some.takes ∙ ends_made some.edges))));
}
  where
    sizes : (edges : List (List TableId)) → map length (map (map new_in) edges) ≡ map length edges
    sizes [] = refl
    sizes (e ∷ es) = cc (length-map e new_in, sizes es)

    empty_at : (count place : ℕ) → puts_at (replicate count []) place ≡ []
    empty_at zero place = refl
    empty_at (suc count) zero = refl
    empty_at (suc count) (suc place) = empty_at count place

-- once all nodes of a plan are wired, nothing went over any edge, and each has so much room
pub plan_new : (room : ℕ) (nodes : List PlanNode) (takers : List (List InEnd)) (putters : List (List OutEnd)) → NodesWired room nodes takers (replicate (length nodes) []) putters → AreNew room takers putters
plan_new room nodes takers putters some = record {
  takes = subst (λ ts. All (λ (ends : List InEnd). All (λ (e : InEnd). e ≡ new_in e.edge) ends) ts) (sym some.takes) (takers_new some.edges);
  puts = subst (AllNew room) (sym some.puts) (putters_new room (replicate (length nodes) []) (froms nodes) (flat_map (λ (es : List TableId). es) some.edges) (All-replicate (All (λ (e : OutEnd). e ≡ new_out room e.edge)) (length nodes) [] (λ k d lt. absurd (omega (arith, lt)))));
}
