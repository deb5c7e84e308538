-- The ends that are left of the workers of a plan belong together as those that the workers were given.
use Rattle.std.proofs.Common.{◌≡◌, ℕ, ◌++◌, List, [], ◌∷◌, Option, length, map, slice_index_or, refl, sym, ap, ◌∙◌, arith}
use Rattle.std.specs.List.{flat_map}
use Rattle.std.proofs.lemmas.List.{length-append, length-map, map-append}
use Rattle.std.proofs.Math.ListN.{get_or-map}
use Rattle.atomic_table.specs.Seated.{TableId}
use Rattle.logbook.specs.Pages.{Book}
use Rattle.cedr_edge.specs.Ends.{Carried, InEnd, OutEnd, taken_of}
use Rattle.cedr_plan.specs.declared.plan.PlanNode.{PlanNode}
use Rattle.plan_edges.specs.Wires.{AreClosed, AreWired, all_ends, carried, edges_from, froms, in_edge, out_edge, node_ports, ports_of, puts_at}
use Rattle.plan_edges.proofs.RunLemmas.{closed_ports}
use Rattle.plan_workers.specs.declared.ended.Ended.{Ended}
use Rattle.plan_workers.specs.Crews.{AreRoles, puts_in, takes_in}
use Rattle.plan_workers.specs.Ends.{AllEndAs}
use Rattle.plan_workers.specs.Roles.{Role}
use Rattle.plan_workers.specs.Wents.{putters_left, takers_left}

-- each worker has the ends of the edges of its ports still
takes_left : {S R : Type 0} (rest : S → Option (List ℕ)) (faults : S → ℕ) (roles : List Role) (ends : List (Ended S R)) → AllEndAs rest faults roles ends → map (map in_edge) (map takers_left ends) ≡ map takes_in roles
takes_left rest faults [] [] are = refl
takes_left rest faults [] (e ∷ es) are = absurd are
takes_left rest faults (r ∷ rs) [] are = absurd are
takes_left rest faults (r ∷ rs) (e ∷ es) are = cc (are.0.takes, takes_left rest faults rs es are.1)

-- and those of the edges that come from it
puts_left : {S R : Type 0} (rest : S → Option (List ℕ)) (faults : S → ℕ) (roles : List Role) (ends : List (Ended S R)) → AllEndAs rest faults roles ends → map (map out_edge) (map putters_left ends) ≡ map puts_in roles
puts_left rest faults [] [] are = refl
puts_left rest faults [] (e ∷ es) are = absurd are
puts_left rest faults (r ∷ rs) [] are = absurd are
puts_left rest faults (r ∷ rs) (e ∷ es) are = cc (are.0.puts, puts_left rest faults rs es are.1)

-- there are as many edges as ends
sizes : {X Y : Type 0} (f : X → Y) (xss : List (List X)) → map length (map (map f) xss) ≡ map length xss
sizes f [] = refl
sizes f (xs ∷ xss) = cc (length-map xs f, sizes f xss)

-- the edges of all ends are those of each node's ends, in order
all_edges : (takers : List (List InEnd)) → map in_edge (all_ends takers) ≡ flat_map (λ (es : List TableId). es) (map (map in_edge) takers)
all_edges [] = refl
all_edges (t ∷ ts) = map-append in_edge t (all_ends ts) ∙ ap (λ es. map in_edge t ++ es) (all_edges ts)

-- the edges of the ends that put of a node
edges_at : (putters : List (List OutEnd)) (place : ℕ) → slice_index_or (map (map out_edge) putters) place [] ≡ map out_edge (puts_at putters place)
edges_at putters place = get_or-map (map out_edge) putters place []

-- there are as many ends that take as ports
pub port_ends : (nodes : List PlanNode) (takers : List (List InEnd)) → map length takers ≡ map node_ports nodes → length (map in_edge (all_ends takers)) ≡ length (froms nodes)
port_ends [] [] is = refl
port_ends [] (t ∷ ts) is = absurd (cc is)
port_ends (n ∷ nodes) [] is = absurd (cc is)
port_ends (n ∷ nodes) (t ∷ ts) is =
    let here : length t ≡ length n.inputs.items = cc is in
    let later = port_ends nodes ts (cc is) in
    ap length (map-append in_edge t (all_ends ts)) ∙ omega (arith, here, later, length-map t in_edge, length-append (map in_edge t) (map in_edge (all_ends ts)), length-append n.inputs.items (froms nodes))

module _ {S R : Type 0} (rest : S → Option (List ℕ)) (faults : S → ℕ) (nodes : List PlanNode) (takers : List (List InEnd)) (putters : List (List OutEnd)) (sources : List S) (history : Book) (roles : List Role) (ends : List (Ended S R))
    (wired : AreWired nodes takers putters) (are : AreRoles rest faults nodes takers putters sources history roles) (ended : AllEndAs rest faults roles ends) where
  -- the ends that take are of the same edges as those that the workers were given
  takes_same : map (map in_edge) (map takers_left ends) ≡ map (map in_edge) takers
  takes_same = takes_left rest faults roles ends ended ∙ are.takes

  -- and so are the ends that put
  puts_same : map (map out_edge) (map putters_left ends) ≡ map (map out_edge) putters
  puts_same = puts_left rest faults roles ends ended ∙ are.puts

  -- the ends that are left are those of the plan's edges
  pub wired_left : AreWired nodes (map takers_left ends) (map putters_left ends)
  wired_left = record {
    ports = sym (sizes in_edge (map takers_left ends)) ∙ (ap (map length) takes_same ∙ (sizes in_edge takers ∙ wired.ports));
    nodes_are = sym (length-map (map putters_left ends) (map out_edge)) ∙ (ap length puts_same ∙ (length-map putters (map out_edge) ∙ wired.nodes_are));
    edges = λ place.
        sym (edges_at (map putters_left ends) place) ∙ (ap (λ es. slice_index_or es place []) puts_same ∙ (edges_at putters place ∙ (wired.edges place
        ∙ ap (edges_from place (froms nodes)) (all_edges takers ∙ (ap (flat_map (λ (es : List TableId). es)) (sym takes_same) ∙ sym (all_edges (map takers_left ends)))))));
  }

  -- what went over the edges is, port by port, what the workers took
  pub ports_left : (edges : List Carried) → AreClosed nodes (map takers_left ends) (map putters_left ends) edges → ports_of nodes (carried edges) ≡ map (map taken_of) (map takers_left ends)
  ports_left edges closed = closed_ports nodes (map takers_left ends) (map putters_left ends) edges wired_left closed
