-- The nodes of a plan and the ends of its edges, as workers are made over them.
use Rattle.std.proofs.Common.{◌≡◌, ◌≢◌, ℕ, zero, suc, ◌+◌, ◌<◌, ◌≤◌, Bool, true, false, ◌||◌, List, [], ◌∷◌, ◌++◌, length, map, nat_eq, if◌then◌else◌, Option, Some, None, refl, sym, ap, ◌∙◌, subst, arith, append_assoc, length-append}
use Rattle.std.specs.Prelude.{◌==◌, IfSome}
use Rattle.std.specs.List.{All, list_any, slice_get}
use Rattle.std.proofs.Math.Seq.{get_or-append_seam}
use Rattle.std.proofs.lemmas.Bool.{ne_eqb}
use Rattle.std.proofs.lemmas.List.{length-map, nil_from_length}
use Rattle.std.proofs.lemmas.List.Folds.{list_any-append, list_any_none}
use Rattle.atomic_table.specs.Seated.{TableId}
use Rattle.cedr_edge.specs.Ends.{InEnd, OutEnd}
use Rattle.cedr_node.proofs.LevelLemmas.{within_memory}
use Rattle.cedr_plan.specs.Drawn.{Node, node_of}
use Rattle.cedr_plan.specs.Places.{is_output, is_source}
use Rattle.cedr_plan.specs.Operators.{operator_row}
use Rattle.cedr_plan.specs.Rules.{IsInput, IsPlan, AreNodes, first_unused, is_read, operator_of_kind}
use Rattle.cedr_plan.specs.declared.plan.NodeKind.{NodeKind}
use Rattle.cedr_plan.specs.declared.plan.NodeKind.TheVariants as kind
use Rattle.cedr_plan.specs.declared.plan.Plan.{Plan}
use Rattle.cedr_plan.specs.declared.plan.PlanNode.{PlanNode}
use Rattle.plan_runs.proofs.PlanNodes.{node_stands}
use Rattle.plan_edges.specs.Wires.{froms, node_ports, new_in, new_out, in_edge, out_edge, all_ends, edges_from, puts_at, AreWired, AreNew}
use Rattle.op_node.specs.ReadyLaws.{node_ready}
use Rattle.plan_workers.specs.Making.{CanWork, AllCanWork}

-- a node is among these places
abbrev is_among : ℕ → List ℕ → Bool
is_among place fs = list_any (λ (f : ℕ). f == place) fs

-- ---- each node but the output is read

-- one of two is so, and the second brings a third
either : (a b c : Bool) → (a || b) ≡ true → (b ≡ true → c ≡ true) → (a || c) ≡ true
either true b c is more = refl
either false b c is more = more is

-- what one of some nodes reads is among the nodes that their edges come from
read_among : (place : ℕ) (nodes : List PlanNode) → is_read place (map node_of nodes) ≡ true → is_among place (froms nodes) ≡ true
read_among place [] is = is
read_among place (n ∷ nodes) is =
    list_any-append (λ (f : ℕ). f == place) n.inputs.items (froms nodes)
    ∙ either (is_among place n.inputs.items) (is_read place (map node_of nodes)) (is_among place (froms nodes)) is (read_among place nodes)

-- the same of nodes after others
later_among : (place : ℕ) (before nodes : List PlanNode) → is_among place (froms nodes) ≡ true → is_among place (froms (before ++ nodes)) ≡ true
later_among place [] nodes is = is
later_among place (b ∷ before) nodes is =
    list_any-append (λ (f : ℕ). f == place) b.inputs.items (froms (before ++ nodes)) ∙ second (is_among place b.inputs.items) (is_among place (froms (before ++ nodes))) (later_among place before nodes is)
  where
    second : (a b : Bool) → b ≡ true → (a || b) ≡ true
    second true b is = refl
    second false b is = is

-- where a search finds nothing, it passed the first and finds nothing after it
goes_on : (b : Bool) (rest : Option ℕ) (k : ℕ) → (if b then rest else Some k) ≡ None → (b ≡ true) × (rest ≡ None)
goes_on true rest k is = (refl, is)
goes_on false rest k is = absurd (cc is)

-- where none is unused, a node that is no output is read by a later one
used_behind : (k place : ℕ) (before after : List PlanNode) (n : PlanNode) → k ≡ place + length before → first_unused place (map node_of (before ++ n ∷ after)) ≡ None → is_output n.kind ≡ false → is_read k (map node_of after) ≡ true
used_behind k place [] after n at used isnt =
    let here = (goes_on (is_output n.kind || is_read place (map node_of after)) (first_unused (place + 1) (map node_of after)) (place + 1) used).0 in
    let same : place ≡ k = omega (arith, at) in
    subst (λ (p : ℕ). is_read p (map node_of after) ≡ true) same (left_out (is_output n.kind) (is_read place (map node_of after)) isnt here)
  where
    left_out : (a b : Bool) → a ≡ false → (a || b) ≡ true → b ≡ true
    left_out true b out is = absurd (cc out)
    left_out false b out is = is
used_behind k place (b ∷ before) after n at used isnt =
    used_behind k (place + 1) before after n (omega (arith, at)) (goes_on (is_output b.kind || is_read place (map node_of (before ++ n ∷ after))) (first_unused (place + 1) (map node_of (before ++ n ∷ after))) (place + 1) used).1 isnt

-- ---- no node reads the output

-- an earlier node stands at its place whatever comes after
at_front : (earlier later : List Node) (i : ℕ) → i < length earlier → slice_get (earlier ++ later) i ≡ slice_get earlier i
at_front [] later i within = absurd (omega (arith, within))
at_front (x ∷ earlier) later zero within = refl
at_front (x ∷ earlier) later (suc i) within = at_front earlier later i (omega (arith, within))

-- a node is at the place after those before it
at_seam : (before after : List PlanNode) (n : PlanNode) → slice_get (map node_of (before ++ n ∷ after)) (length before) ≡ Some (node_of n)
at_seam [] after n = refl
at_seam (b ∷ before) after n = at_seam before after n

-- what may be read isn't an output
input_apart : (place : ℕ) (n : PlanNode) (earlier later : List Node) (i : ℕ) → IsInput earlier i → slice_get (earlier ++ later) place ≡ Some (node_of n) → is_output n.kind ≡ true → (i == place) ≡ false
input_apart place n earlier later i input at is = ne_eqb i place apart
  where
    apart : i ≢ place
    apart same =
        let there : slice_get earlier i ≡ Some (node_of n) = sym (at_front earlier later i input.0) ∙ (ap (λ (k : ℕ). slice_get (earlier ++ later) k) same ∙ at) in
        let isnt : is_output n.kind ≡ false = subst (λ (o : Option Node). IfSome o (λ node. is_output node.kind ≡ false)) there input.1 in
        absurd (cc (isnt, is))

-- no node reads an output
unread : (place : ℕ) (n : PlanNode) (earlier : List Node) (nodes : List PlanNode) → AreNodes earlier (map node_of nodes) → slice_get (earlier ++ map node_of nodes) place ≡ Some (node_of n) → is_output n.kind ≡ true → is_among place (froms nodes) ≡ false
unread place n earlier [] are at is = refl
unread place n earlier (m ∷ nodes) are at is =
    let here = list_any_none (λ (f : ℕ). f == place) m.inputs.items (λ k d lt. input_apart place n earlier (map node_of (m ∷ nodes)) _ (are.0.inputs k d lt) at is) in
    let rest = unread place n (earlier ++ node_of m ∷ []) nodes are.1 (ap (λ (ns : List Node). slice_get ns place) (append_assoc earlier (node_of m ∷ []) (map node_of nodes)) ∙ at) is in
    list_any-append (λ (f : ℕ). f == place) m.inputs.items (froms nodes) ∙ neither (is_among place m.inputs.items) (is_among place (froms nodes)) here rest
  where
    neither : (a b : Bool) → a ≡ false → b ≡ false → (a || b) ≡ false
    neither true b first second = first
    neither false b first second = second

-- ---- the edges that come from a node

-- where a node is among those that edges come from, some edge comes from it
some_from : (place : ℕ) (fs : List ℕ) (es : List TableId) → length es ≡ length fs → is_among place fs ≡ true → 0 < length (edges_from place fs es)
some_from place [] es same is = absurd (cc is)
some_from place (f ∷ fs) [] same is = absurd (omega (arith, same))
some_from place (f ∷ fs) (e ∷ es) same is = one (nat_eq f place) (is_among place fs) (edges_from place fs es) is (some_from place fs es (omega (arith, same)))
  where
    one : (a b : Bool) (ds : List TableId) → (a || b) ≡ true → (b ≡ true → 0 < length ds) → 0 < length (if a then e ∷ ds else ds)
    one true b ds is more = omega arith
    one false b ds is more = more is

-- where a node isn't among those that edges come from, no edge comes from it
none_from : (place : ℕ) (fs : List ℕ) (es : List TableId) → is_among place fs ≡ false → edges_from place fs es ≡ []
none_from place [] es isnt = refl
none_from place (f ∷ fs) [] isnt = refl
none_from place (f ∷ fs) (e ∷ es) isnt = one (nat_eq f place) (is_among place fs) (edges_from place fs es) isnt (none_from place fs es)
  where
    one : (a b : Bool) (ds : List TableId) → (a || b) ≡ false → (b ≡ false → ds ≡ []) → (if a then e ∷ ds else ds) ≡ []
    one true b ds isnt none = absurd (cc isnt)
    one false b ds isnt none = none isnt

-- as many edges as ports
edge_count : (nodes : List PlanNode) (takers : List (List InEnd)) → map length takers ≡ map node_ports nodes → length (all_ends takers) ≡ length (froms nodes)
edge_count [] [] is = refl
edge_count [] (t ∷ ts) is = absurd (cc is)
edge_count (n ∷ nodes) [] is = absurd (cc is)
edge_count (n ∷ nodes) (t ∷ ts) is =
    let here : length t ≡ node_ports n = cc is in
    let rest = edge_count nodes ts (cc is) in
    omega (arith, here, rest, length-append t (all_ends ts), length-append n.inputs.items (froms nodes))

-- ---- a node and its ends

-- a source has no port
portless : (k : NodeKind) (ports : ℕ) → is_source k ≡ true → ports ≤ (operator_row (operator_of_kind k)).most → ports ≡ 0
portless (kind.Source file) ports is most = omega (arith, most)
portless other ports is most = absurd (cc is)

-- the ends of the edges of one node are those of the plan's edges
record HasEnds (plan : Plan) (takers : List (List InEnd)) (before : List PlanNode) (ts : List InEnd) (ps : List OutEnd) : Type 0 where
  pub come : map out_edge ps ≡ edges_from (length before) (froms plan.nodes.items) (map in_edge (all_ends takers))
  pub taken : All (λ (e : InEnd). e ≡ new_in e.edge) ts
  pub sent : All (λ (e : OutEnd). e ≡ new_out plan.edge e.edge) ps

-- a worker can be made for one node of a plan
one_can : (plan : Plan) (takers : List (List InEnd)) (putters : List (List OutEnd)) (before after : List PlanNode) (n : PlanNode) (ts : List InEnd) (ps : List OutEnd) → IsPlan plan → AreWired plan.nodes.items takers putters → plan.nodes.items ≡ before ++ n ∷ after → length ts ≡ node_ports n → HasEnds plan takers before ts ps → CanWork n ts ps
one_can plan takers putters before after n ts ps is wired whole ports has =
    let place = length before in
    let nodes = plan.nodes.items in
    let fs = froms nodes in
    let edges = map in_edge (all_ends takers) in
    let stands = node_stands nodes before after n is.nodes whole in
    let count : length edges ≡ length fs = length-map (all_ends takers) in_edge ∙ edge_count nodes takers wired.ports in
    record {
      ready = λ isnt. node_ready (map node_of before) n stands isnt;
      level = within_memory n.level.block n.level.memory stands.level.block_within_memory;
      ports = ports;
      portless = λ source. nil_from_length ts (ports ∙ portless n.kind (length n.inputs.items) source stands.most_ports);
      taken = λ k d lt. ap (λ (e : InEnd). e.taken) (has.taken k d lt);
      sent = λ k d lt. ap (λ (e : OutEnd). e.sent) (has.sent k d lt);
      read = λ isnt.
          let used = used_behind place 0 before after n (omega arith) (subst (λ (ns : List PlanNode). first_unused 0 (map node_of ns) ≡ None) whole is.used) isnt in
          let among : is_among place fs ≡ true = ap (λ (ns : List PlanNode). is_among place (froms ns)) whole ∙ later_among place before (n ∷ after) (read_among place (n ∷ after) (behind_too (list_any (λ (i : ℕ). i == place) n.inputs.items) (is_read place (map node_of after)) used)) in
          let some = some_from place fs edges count among in
          omega (arith, some, ap (λ (xs : List TableId). length xs) has.come, length-map ps out_edge);
      unread = λ output.
          let at : slice_get (map node_of nodes) place ≡ Some (node_of n) = ap (λ (ns : List PlanNode). slice_get (map node_of ns) place) whole ∙ at_seam before after n in
          let none = none_from place fs edges (unread place n [] nodes is.nodes at output) in
          nil_from_length ps (sym (length-map ps out_edge) ∙ ap (λ (xs : List TableId). length xs) (has.come ∙ none));
    }
  where
    behind_too : (a b : Bool) → b ≡ true → (a || b) ≡ true
    behind_too true b is = refl
    behind_too false b is = is

-- ---- all nodes of a plan

-- and for each of those after some nodes
ends_behind : (plan : Plan) (takers : List (List InEnd)) (putters : List (List OutEnd)) → IsPlan plan → AreWired plan.nodes.items takers putters
    → (before nodes : List PlanNode) (ts : List (List InEnd)) (firsts ps : List (List OutEnd)) → plan.nodes.items ≡ before ++ nodes → putters ≡ firsts ++ ps → length firsts ≡ length before
    → map length ts ≡ map node_ports nodes → length ps ≡ length nodes → AreNew plan.edge ts ps → AllCanWork nodes ts ps
ends_behind plan takers putters is wired before [] [] firsts [] whole parts same ports count new = tt
ends_behind plan takers putters is wired before [] [] firsts (p ∷ ps) whole parts same ports count new = absurd (omega (arith, count))
ends_behind plan takers putters is wired before [] (t ∷ ts) firsts ps whole parts same ports count new = absurd (cc ports)
ends_behind plan takers putters is wired before (n ∷ nodes) [] firsts ps whole parts same ports count new = absurd (cc ports)
ends_behind plan takers putters is wired before (n ∷ nodes) (t ∷ ts) firsts [] whole parts same ports count new = absurd (omega (arith, count))
ends_behind plan takers putters is wired before (n ∷ nodes) (t ∷ ts) firsts (p ∷ ps) whole parts same ports count new =
    let there : puts_at putters (length before) ≡ p = ap (λ (qs : List (List OutEnd)). puts_at qs (length before)) parts ∙ (ap (λ (k : ℕ). puts_at (firsts ++ p ∷ ps) k) (sym same) ∙ get_or-append_seam firsts p ps []) in
    let has : HasEnds plan takers before t p = record {
      come = ap (map out_edge) (sym there) ∙ wired.edges (length before);
      taken = new.takes 0 t (omega arith);
      sent = new.puts 0 p (omega arith);
    } in
    let rest : AreNew plan.edge ts ps = record {
      takes = λ k d lt. new.takes (suc k) d (omega (arith, lt));
      puts = λ k d lt. new.puts (suc k) d (omega (arith, lt));
    } in (
      one_can plan takers putters before nodes n t p is wired whole (cc ports) has,
      ends_behind plan takers putters is wired (before ++ n ∷ []) nodes ts (firsts ++ p ∷ []) ps (whole ∙ sym (append_assoc before (n ∷ []) nodes)) (parts ∙ sym (append_assoc firsts (p ∷ []) ps))
          (omega (arith, same, length-append firsts (p ∷ []), length-append before (n ∷ []))) (cc ports) (omega (arith, count)) rest,
    )

-- workers can be made for the nodes of a plan over its new edges
pub can_work : (plan : Plan) (takers : List (List InEnd)) (putters : List (List OutEnd)) → IsPlan plan → AreWired plan.nodes.items takers putters → AreNew plan.edge takers putters → AllCanWork plan.nodes.items takers putters
can_work plan takers putters is wired new = ends_behind plan takers putters is wired [] plan.nodes.items takers [] putters refl refl refl wired.ports wired.nodes_are new
