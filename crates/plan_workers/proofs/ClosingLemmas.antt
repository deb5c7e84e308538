-- What is left of all workers of a plan, whose ends are of the edges that the workers were made with.
use Rattle.std.proofs.Common.{◌≡◌, ℕ, zero, suc, ◌<◌, List, [], ◌∷◌, ◌++◌, length, map, get_or, Option, None, refl, sym, ap, ◌∙◌, subst, arith}
use Rattle.std.proofs.lemmas.List.{map-id}
use Rattle.std.proofs.lemmas.Iterator.{YieldsList}
use Rattle.std.proofs.lemmas.Iterator.Consumers.{YieldsList-end}
use Rattle.std.specs.Iterator.{Yields}
use Rattle.logbook.specs.Pages.{Book}
use Rattle.cedr_edge.specs.Ends.{InEnd, OutEnd}
use Rattle.cedr_plan.specs.declared.plan.PlanNode.{PlanNode}
use Rattle.plan_edges.specs.Wires.{AreOver, AreWired}
use Rattle.plan_workers.specs.declared.ended.Ended.{Ended}
use Rattle.plan_workers.specs.declared.worker.Worker.{Worker}
use Rattle.plan_workers.specs.Crews.{AreRoles}
use Rattle.plan_workers.specs.Ends.{AllEndAs, EndsAs}
use Rattle.plan_workers.specs.Roles.{Role, AllWorkAs, WorksAs}
use Rattle.plan_workers.specs.Wents.{putters_left, takers_left}
use Rattle.plan_workers.proofs.LeftLemmas.{wired_left}

-- ---- what is left of all workers

-- each input is over
pub inputs_over : {S R : Type 0} (rest : S → Option (List ℕ)) (faults : S → ℕ) (roles : List Role) (ends : List (Ended S R)) → AllEndAs rest faults roles ends → AreOver (map takers_left ends)
inputs_over rest faults [] [] all k d less = absurd (omega (arith, less))
inputs_over rest faults [] (e ∷ es) all k d less = absurd all
inputs_over rest faults (r ∷ rs) [] all k d less = absurd all
inputs_over rest faults (r ∷ rs) (e ∷ es) all zero d less = all.0.over
inputs_over rest faults (r ∷ rs) (e ∷ es) all (suc k) d less = inputs_over rest faults rs es all.1 k d (omega (arith, less))

-- the ends that are left belong together as those that the workers were made with
pub ends_wired : {S R : Type 0} (rest : S → Option (List ℕ)) (faults : S → ℕ) (nodes : List PlanNode) (takers takers' : List (List InEnd)) (putters putters' : List (List OutEnd)) (sources : List S) (history : Book) (roles : List Role) (ends : List (Ended S R))
    → AreWired nodes takers putters → AreRoles rest faults nodes takers putters sources history roles → AllEndAs rest faults roles ends → takers' ≡ map takers_left ends → putters' ≡ map putters_left ends → AreWired nodes takers' putters'
ends_wired rest faults nodes takers takers' putters putters' sources history roles ends wired are all taking putting =
    subst (λ (ts : List (List InEnd)). AreWired nodes ts putters') (sym taking)
    (subst (λ (ps : List (List OutEnd)). AreWired nodes (map takers_left ends) ps) (sym putting) (wired_left rest faults nodes takers putters sources history roles ends wired are all))

-- ---- one worker after another

-- each of some workers was made for something
pub role_at : {S R : Type 0} (rest : S → Option (List ℕ)) (faults : S → ℕ) (roles : List Role) (ws : List (Worker S R)) (k : ℕ) (w : Worker S R) → AllWorkAs rest faults roles ws → k < length ws → w ≡ get_or ws k w → (role : Role) × WorksAs rest faults role w
role_at rest faults roles [] k w all less is = absurd (omega (arith, less))
role_at rest faults [] (x ∷ ws) k w all less is = absurd all
role_at rest faults (r ∷ rs) (x ∷ ws) zero w all less is = (r, subst (WorksAs rest faults r) (sym is) all.0)
role_at rest faults (r ∷ rs) (x ∷ ws) (suc k) w all less is = role_at rest faults rs ws k w all.1 (omega (arith, less)) is

-- whatever these workers were made for, this is what is left of them
abbrev pub AllEndSo : {S R : Type 0} → (S → Option (List ℕ)) → (S → ℕ) → List (Worker S R) → List (Ended S R) → Type 0
AllEndSo rest faults ws es = (roles : List Role) → AllWorkAs rest faults roles ws → AllEndAs rest faults roles es

-- some roles and one more
record OneMore {S R : Type 0} (rest : S → Option (List ℕ)) (faults : S → ℕ) (roles : List Role) (ws : List (Worker S R)) (w : Worker S R) : Type 0 where
  pub first : List Role
  pub last : Role
  pub are : roles ≡ first ++ last ∷ []
  pub work : AllWorkAs rest faults first ws
  pub works : WorksAs rest faults last w

-- the roles of some workers and one more
one_more : {S R : Type 0} (rest : S → Option (List ℕ)) (faults : S → ℕ) (roles : List Role) (ws : List (Worker S R)) (w : Worker S R) → AllWorkAs rest faults roles (ws ++ w ∷ []) → OneMore rest faults roles ws w
one_more rest faults [] [] w all = absurd all
one_more rest faults [] (x ∷ ws) w all = absurd all
one_more rest faults (r ∷ []) [] w all = record { first = []; last = r; are = refl; work = tt; works = all.0 }
one_more rest faults (r ∷ s ∷ rs) [] w all = absurd all.1
one_more rest faults (r ∷ rs) (x ∷ ws) w all =
    let more = one_more rest faults rs ws w all.1 in record { first = r ∷ more.first; last = more.last; are = ap (λ (ys : List Role). r ∷ ys) more.are; work = (all.0, more.work); works = more.works }

-- one more is left after the others
all_more : {S R : Type 0} (rest : S → Option (List ℕ)) (faults : S → ℕ) (roles : List Role) (role : Role) (es : List (Ended S R)) (e : Ended S R) → AllEndAs rest faults roles es → EndsAs rest faults role e → AllEndAs rest faults (roles ++ role ∷ []) (es ++ e ∷ [])
all_more rest faults [] role [] e all one = (one, tt)
all_more rest faults [] role (x ∷ es) e all one = absurd all
all_more rest faults (r ∷ rs) role [] e all one = absurd all
all_more rest faults (r ∷ rs) role (x ∷ es) e all one = (all.0, all_more rest faults rs role es e all.1 one)

-- and so one more is, whatever it was made for
pub so_more : {S R : Type 0} (rest : S → Option (List ℕ)) (faults : S → ℕ) (ws : List (Worker S R)) (w : Worker S R) (es more : List (Ended S R)) (e : Ended S R) → AllEndSo rest faults ws es → ((role : Role) → WorksAs rest faults role w → EndsAs rest faults role e) → more ≡ es ++ e ∷ [] → AllEndSo rest faults (ws ++ w ∷ []) more
so_more {S = S} {R = R} rest faults ws w es more e so one is roles all =
    let split = one_more rest faults roles ws w all in
    subst (λ (z : List Role × List (Ended S R)). AllEndAs rest faults z.0 z.1) (λ i. (sym split.are i, sym is i)) (all_more rest faults split.first split.last es e (so split.first split.work) (one split.last split.works))

-- of no workers nothing is left
pub so_none : {S R : Type 0} (rest : S → Option (List ℕ)) (faults : S → ℕ) (es : List (Ended S R)) → es ≡ [] → AllEndSo rest faults [] es
so_none rest faults [] none [] all = tt
so_none rest faults [] none (r ∷ rs) all = absurd all
so_none rest faults (e ∷ es) none roles all = absurd (cc none)

-- ---- loops over a list

-- at the end of a loop each element was yielded
pub all_yielded : {I A : Type 0} {steps : I → Option A → I → Type 0} {s : I} {all : List A} → YieldsList steps (λ (y : A). y) s all → (xs : List A) (t : I) → Yields steps s xs t → (r : Option A) (u : I) → r ≡ None → steps t r u → xs ≡ all
all_yielded yields xs t so_far r u none step = sym (map-id xs) ∙ (YieldsList-end yields xs t so_far r u none step).0
