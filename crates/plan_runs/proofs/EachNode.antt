-- What is made node by node.
use Rattle.std.proofs.Common.{◌≡◌, ℕ, ◌+◌, ◌<◌, inl, inr, List, [], ◌∷◌, ◌++◌, length, get_or, refl, ap, subst, sym, ◌∙◌, arith, append_assoc}
use Rattle.std.proofs.lemmas.Bool.{cases_lt}
use Rattle.std.proofs.lemmas.List.{get_or_append_left, length-append}
use Rattle.std.proofs.Math.Seq.{get_or-append_seam}
use Rattle.cedr_plan.specs.declared.plan.PlanNode.{PlanNode}
use Rattle.cedr_query.specs.Queries.{each_node}

-- the element after others
pub get_or-last : {X : Type 0} (xs : List X) (x d : X) (k : ℕ) → k ≡ length xs → get_or (xs ++ x ∷ []) k d ≡ x
get_or-last xs x d k e = ap (λ (n : ℕ). get_or (xs ++ x ∷ []) n d) e ∙ get_or-append_seam xs x [] d

module _ {X : Type 0} (all : List PlanNode) (R : ℕ → X → Type 0) (d : X) where
  -- what holds at each place holds with one value more
  more : (done : List X) (x : X) (n : ℕ) → length done ≡ n → ((k : ℕ) → k < n → R k (get_or done k d)) → R n x → (k : ℕ) → k < n + 1 → R k (get_or (done ++ x ∷ []) k d)
  more done x n len good last k within = elim (cases_lt k n) [
    | inl h ↦ subst (λ (y : X). R k y) (sym (get_or_append_left done (x ∷ []) d k (omega arith))) (good k h)
    | inr h ↦ (let here : k ≡ n = omega arith in
        subst (λ (j : ℕ). R j (get_or (done ++ x ∷ []) k d)) (sym here) (subst (λ (y : X). R n y) (sym (get_or-last done x d k (here ∙ sym len))) last))
  ]

  module _ (make : List PlanNode → List X → PlanNode → X)
      (step : (before after : List PlanNode) (node : PlanNode) (done : List X) → all ≡ before ++ node ∷ after → length done ≡ length before → ((k : ℕ) → k < length before → R k (get_or done k d)) → R (length before) (make before done node)) where
    behind : (before nodes : List PlanNode) (done : List X) → all ≡ before ++ nodes → length done ≡ length before → ((k : ℕ) → k < length before → R k (get_or done k d))
        → (k : ℕ) → k < length before + length nodes → R k (get_or (each_node make before done nodes) k d)
    behind before [] done whole len good k within = good k (omega arith)
    behind before (node ∷ nodes) done whole len good k within =
        let one : length (before ++ node ∷ []) ≡ length before + 1 = omega (arith, length-append before (node ∷ [])) in
        behind (before ++ node ∷ []) nodes (done ++ make before done node ∷ []) (whole ∙ sym (append_assoc before (node ∷ []) nodes)) (omega (arith, length-append done (make before done node ∷ []), one, len))
        (λ j h. more done (make before done node) (length before) len good (step before nodes node done whole len good) j (omega (arith, h, one))) k (omega (arith, within, one))

    -- what each node's value has, where the values of the nodes before it have it
    pub by_nodes : (k : ℕ) → k < length all → R k (get_or (each_node make [] [] all) k d)
    by_nodes k within = behind [] all [] refl refl (λ j h. absurd (omega arith)) k (omega arith)
