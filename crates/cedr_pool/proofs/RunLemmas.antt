-- The workers of a plan before and after a pool turned them.
use Rattle.std.proofs.Common.{◌≡◌, ℕ, List, [], ◌∷◌, ◌++◌, map, sym, ap, ◌∙◌, subst, append_assoc, Option}
use Rattle.std.specs.List.{All}
use Rattle.std.proofs.lemmas.List.Elements.{All-cons, All-nil}
use Rattle.plan_workers.specs.declared.worker.Worker.{Worker}
use Rattle.plan_workers.specs.Roles.{AllWorkAs, Role, StaysAs}
use Rattle.pool_queue.specs.declared.numbered.Numbered.{Numbered}
use Rattle.cedr_pool.specs.Tasks.{AllStay, HasRole, task_worker}

module _ {X : Type 0} (Stays : X → X → Type 0) where
  stay_push : (xs ys : List X) (x y : X) → AllStay Stays xs ys → Stays x y → AllStay Stays (xs ++ x ∷ []) (ys ++ y ∷ [])
  stay_push [] [] x y all one = (one, tt)
  stay_push [] (b ∷ bs) x y all one = absurd all
  stay_push (a ∷ rest) [] x y all one = absurd all
  stay_push (a ∷ rest) (b ∷ bs) x y all one = (all.0, stay_push rest bs x y all.1 one)

  -- with the worker of one task more
  pub stay_more : (given workers workers' after : List X) (tasks tasks' : List (Numbered X)) (t : Numbered X) (w : X) → tasks ≡ t ∷ tasks' → AllStay Stays given workers → Stays t.task w → workers' ≡ workers ++ w ∷ [] → (AllStay Stays (given ++ t.task ∷ []) workers' → AllStay Stays ((given ++ t.task ∷ []) ++ map task_worker tasks') after) → AllStay Stays (given ++ map task_worker tasks) after
  stay_more given workers workers' after tasks tasks' t w is all one more rest =
      let now : AllStay Stays (given ++ t.task ∷ []) workers' = subst (AllStay Stays (given ++ t.task ∷ [])) (sym more) (stay_push given workers t.task w all one) in
      let same : (given ++ t.task ∷ []) ++ map task_worker tasks' ≡ given ++ map task_worker tasks = append_assoc given (t.task ∷ []) (map task_worker tasks') ∙ ap (λ (l : List (Numbered X)). given ++ map task_worker l) (sym is) in
      subst (λ (l : List X). AllStay Stays l after) same (rest now)

module _ {S R : Type 0} (rest : S → Option (List ℕ)) (faults : S → ℕ) where
  -- each of them has a role
  pub all_have_roles : (roles : List Role) (workers : List (Worker S R)) → AllWorkAs rest faults roles workers → All (HasRole rest faults) workers
  all_have_roles [] [] work = All-nil (HasRole rest faults)
  all_have_roles [] (w ∷ ws) work = absurd work
  all_have_roles (r ∷ rs) [] work = absurd work
  all_have_roles (r ∷ rs) (w ∷ ws) work = All-cons (HasRole rest faults) w ws (r, work.0) (all_have_roles rs ws work.1)

  -- and whatever roles they had, they have still
  pub all_work_on : (roles : List Role) (workers after : List (Worker S R)) → AllStay (StaysAs rest faults) workers after → AllWorkAs rest faults roles workers → AllWorkAs rest faults roles after
  all_work_on [] [] [] stay work = tt
  all_work_on [] [] (a ∷ others) stay work = absurd stay
  all_work_on [] (w ∷ ws) after stay work = absurd work
  all_work_on (r ∷ rs) [] after stay work = absurd work
  all_work_on (r ∷ rs) (w ∷ ws) [] stay work = absurd stay
  all_work_on (r ∷ rs) (w ∷ ws) (a ∷ others) stay work = (stay.0 r work.0, all_work_on rs ws others stay.1 work.1)
