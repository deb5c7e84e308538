-- How many ends of sources are left.
use Rattle.std.proofs.Common.{◌≡◌, ℕ, ◌+◌, List, [], ◌∷◌, Bool, cond, length, map, refl, ap, sym, arith, length-append}
use Rattle.std.specs.Prelude.{Option}
use Rattle.plan_workers.specs.declared.ended.Ended.{Ended}
use Rattle.plan_workers.specs.declared.ended.Part.{Part}
use Rattle.plan_workers.specs.declared.ended.Part.TheVariants as part
use Rattle.plan_workers.specs.Crews.{node_in}
use Rattle.plan_workers.specs.Ends.{AllEndAs, PartEndsAs}
use Rattle.plan_workers.specs.Roles.{Role}
use Rattle.plan_workers.specs.Wents.{source_left, sources_left}
use Rattle.cedr_edge.specs.Ends.{OutEnd}
use Rattle.node_laws.specs.Lists.{Lists}
use Rattle.cedr_plan.specs.declared.plan.NodeKind.{NodeKind}
use Rattle.cedr_plan.specs.declared.plan.NodeKind.TheVariants as kind
use Rattle.cedr_plan.specs.Places.{is_source, source_count}
use Rattle.plan_answer.proofs.FindLemmas.{count_more}
use Rattle.cedr_plan.specs.declared.plan.PlanNode.{PlanNode}
use Rattle.plan_workers.proofs.MakeLemmas.{output_no_source}

-- one end is left of a source, and none of any other node
part_count : {S R : Type 0} (rest : S → Option (List ℕ)) (faults : S → ℕ) (role : Role) (lists : Lists) (putters : List OutEnd) (left : Part S R) → PartEndsAs rest faults role lists putters left → length (source_left left) ≡ cond {A = ℕ} (is_source role.node.kind) 1 0
part_count rest faults role lists putters (part.Source end) as_it = sym (ap {B = ℕ} (λ (b : Bool). cond {A = ℕ} b 1 0) as_it.kind)
part_count rest faults role lists putters (part.Operator node lacked) as_it = sym (ap {B = ℕ} (λ (b : Bool). cond {A = ℕ} b 1 0) as_it.source)
part_count rest faults role lists putters (part.Output node lacked held) as_it = sym (ap {B = ℕ} (λ (b : Bool). cond {A = ℕ} b 1 0) (output_no_source role.node.kind as_it.output))

-- as many ends are left as there are sources
pub left_count : {S R : Type 0} (rest : S → Option (List ℕ)) (faults : S → ℕ) (roles : List Role) (ends : List (Ended S R)) → AllEndAs rest faults roles ends → length (sources_left ends) ≡ source_count (map node_in roles)
left_count rest faults [] [] ended = refl
left_count rest faults [] (e ∷ ends) ended = absurd ended
left_count rest faults (r ∷ roles) [] ended = absurd ended
left_count rest faults (r ∷ roles) (e ∷ ends) ended =
    omega (arith, part_count rest faults r _ e.putters e.part ended.0.part_is, left_count rest faults roles ends ended.1, length-append (source_left e.part) (sources_left ends), count_more r.node (map node_in roles))
