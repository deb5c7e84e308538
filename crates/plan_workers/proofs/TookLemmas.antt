-- What the nodes of a plan took, as it is left of their workers.
use Rattle.std.proofs.Common.{◌≡◌, ℕ, false, List, [], ◌∷◌, map, Option, refl, ◌∙◌, subst}
use Rattle.std.specs.List.{list_any}
use Rattle.std.proofs.lemmas.Bool.{or_parts}
use Rattle.logbook.specs.Pages.{Book}
use Rattle.cedr_edge.specs.Ends.{InEnd, OutEnd, taken_of}
use Rattle.node_laws.specs.Lists.{Lists, list_at}
use Rattle.cedr_plan.specs.declared.plan.PlanNode.{PlanNode}
use Rattle.plan_edges.specs.Wires.{in_edge}
use Rattle.cedr_worker.specs.Outputs.{passed_by}
use Rattle.plan_workers.specs.declared.ended.Ended.{Ended}
use Rattle.plan_workers.specs.declared.ended.Part.{Part}
use Rattle.plan_workers.specs.declared.ended.Part.TheVariants as part
use Rattle.plan_workers.specs.Crews.{AreRoles, node_in}
use Rattle.plan_workers.specs.Ends.{AllEndAs, PartEndsAs}
use Rattle.plan_workers.specs.Forgettings.{AllTook, PartTook}
use Rattle.plan_workers.specs.Roles.{Role}
use Rattle.plan_workers.specs.Wents.{part_lacked, part_left, takers_left}

-- where no edge ends, no list was taken
none_taken : (takers : List InEnd) → map in_edge takers ≡ [] → map taken_of takers ≡ []
none_taken [] none = refl
none_taken (e ∷ es) none = absurd (cc none)

-- where memory was found for a node, it took the lists that its worker did
part_took : {S R : Type 0} (rest : S → Option (List ℕ)) (faults : S → ℕ) (role : Role) (lists : Lists) (putters : List OutEnd) (left : Part S R) → PartEndsAs rest faults role lists putters left → (role.takes ≡ [] → lists ≡ []) → part_lacked left ≡ false → PartTook role.node lists left
part_took rest faults role lists putters (part.Source end) is none found = none is.takes
part_took rest faults role lists putters (part.Operator node lacked) is none found = let s = is.sound found in record { given = s.given; stands = s.stands; made = is.made }
part_took rest faults role lists putters (part.Output node lacked held) is none found = record { given = passed_by node (list_at lists 0); stands = is.stands found; made = is.made }

-- the same of all nodes
parts_took : {S R : Type 0} (rest : S → Option (List ℕ)) (faults : S → ℕ) (roles : List Role) (ends : List (Ended S R)) → AllEndAs rest faults roles ends → list_any part_lacked (map part_left ends) ≡ false → AllTook (map node_in roles) (map (map taken_of) (map takers_left ends)) (map part_left ends)
parts_took rest faults [] [] are none = tt
parts_took rest faults [] (e ∷ es) are none = absurd are
parts_took rest faults (r ∷ rs) [] are none = absurd are
parts_took rest faults (r ∷ rs) (e ∷ es) are none =
    let found = or_parts (part_lacked e.part) (list_any part_lacked (map part_left es)) none in (
      part_took rest faults r (map taken_of e.takers) e.putters e.part are.0.part_is (λ portless. none_taken e.takers (are.0.takes ∙ portless)) found.0,
      parts_took rest faults rs es are.1 found.1,
    )

-- where memory was found for each node of a plan, each took the lists that its worker did
pub left_took : {S R : Type 0} (rest : S → Option (List ℕ)) (faults : S → ℕ) (nodes : List PlanNode) (takers : List (List InEnd)) (putters : List (List OutEnd)) (sources : List S) (history : Book) (roles : List Role) (ends : List (Ended S R))
    → AreRoles rest faults nodes takers putters sources history roles → AllEndAs rest faults roles ends → list_any part_lacked (map part_left ends) ≡ false → AllTook nodes (map (map taken_of) (map takers_left ends)) (map part_left ends)
left_took rest faults nodes takers putters sources history roles ends are ended none =
    subst (λ (ns : List PlanNode). AllTook ns (map (map taken_of) (map takers_left ends)) (map part_left ends)) are.nodes_are (parts_took rest faults roles ends ended none)
