-- What the views of all passes come to where one of them is changed.
use Rattle.std.proofs.Common.{◌≡◌, ◌≢◌, ℕ, zero, suc, ◌+◌, ◌≤◌, List, [], ◌∷◌, ◌++◌, length, set, sym, refl, ap, ◌∙◌, subst, ⊎_elim, append_assoc, length-append, arith, IsPermutation}
use Rattle.std.specs.Prelude.{sum_by}
use Rattle.std.proofs.lemmas.List.{append-nil}
use Rattle.std.proofs.lemmas.List.Sums.{sum_by-cons, sum_by-append}
use Rattle.std.proofs.lemmas.List.Sorted.{IsPermutation-append_left, IsPermutation-append_right, IsPermutation-append_comm, IsPermutation-trans}
use mathlib.Core.Option.{some, some-injective, some-ne-none}
use lib.ListN.{get_elem?}
use Rattle.crossbeam_queue.proofs.Lists.{at_set, at_snoc}
use Rattle.pool_queue.specs.declared.claim.Claim.{Claim}
use Rattle.pool_queue.specs.declared.claim.Entry.{Entry}
use Rattle.pool_queue.specs.Once.{all_held}

module _ {X : Type 0} where
  -- a sum with one view changed
  pub sum_set : (f : Claim X → ℕ) (views : List (Claim X)) (port : ℕ) (v w : Claim X) → get_elem? views port ≡ some v → sum_by f (set views port w) + f v ≡ sum_by f views + f w
  sum_set f [] port v w at = absurd (some-ne-none v (sym at))
  sum_set f (u ∷ us) zero v w at = let s : f u ≡ f v = ap f (some-injective u v at) in omega (arith, s, sum_by-cons f w us, sum_by-cons f u us)
  sum_set f (u ∷ us) (suc port) v w at = omega (arith, sum_set f us port v w at, sum_by-cons f u (set us port w), sum_by-cons f u us)

  one_le : (f : Claim X → ℕ) (views : List (Claim X)) (port : ℕ) (v : Claim X) → get_elem? views port ≡ some v → f v ≤ sum_by f views
  one_le f [] port v at = absurd (some-ne-none v (sym at))
  one_le f (u ∷ us) zero v at = let s : f u ≡ f v = ap f (some-injective u v at) in omega (arith, s, sum_by-cons f u us)
  one_le f (u ∷ us) (suc port) v at = omega (arith, one_le f us port v at, sum_by-cons f u us)

  -- what two passes come to is at most the sum
  pub two_le : (f : Claim X → ℕ) (views : List (Claim X)) (i j : ℕ) (v u : Claim X) → i ≢ j → get_elem? views i ≡ some v → get_elem? views j ≡ some u → f v + f u ≤ sum_by f views
  two_le f [] i j v u apart at to = absurd (some-ne-none v (sym at))
  two_le f (x ∷ xs) zero zero v u apart at to = absurd (apart refl)
  two_le f (x ∷ xs) zero (suc j) v u apart at to = let s : f x ≡ f v = ap f (some-injective x v at) in omega (arith, s, one_le f xs j u to, sum_by-cons f x xs)
  two_le f (x ∷ xs) (suc i) zero v u apart at to = let s : f x ≡ f u = ap f (some-injective x u to) in omega (arith, s, one_le f xs i v at, sum_by-cons f x xs)
  two_le f (x ∷ xs) (suc i) (suc j) v u apart at to = omega (arith, two_le f xs i j v u (λ e. apart (ap suc e)) at to, sum_by-cons f x xs)

  -- the order in which two views are changed
  pub set_comm : (views : List (Claim X)) (i j : ℕ) (v u : Claim X) → i ≢ j → set (set views i v) j u ≡ set (set views j u) i v
  set_comm [] i j v u apart = refl
  set_comm (x ∷ xs) zero zero v u apart = absurd (apart refl)
  set_comm (x ∷ xs) zero (suc j) v u apart = refl
  set_comm (x ∷ xs) (suc i) zero v u apart = refl
  set_comm (x ∷ xs) (suc i) (suc j) v u apart = ap (λ (l : List (Claim X)). x ∷ l) (set_comm xs i j v u (λ e. apart (ap suc e)))

  -- each view has this
  abbrev pub AllFit : (Claim X → Type 0) → List (Claim X) → Type 0
  AllFit F views = (port : ℕ) (v : Claim X) → get_elem? views port ≡ some v → F v

  -- each still has it where one is changed
  pub fit_set : (F : Claim X → Type 0) (views : List (Claim X)) (port : ℕ) (w : Claim X) → F w → ((j : ℕ) (u : Claim X) → j ≢ port → get_elem? views j ≡ some u → F u) → AllFit F (set views port w)
  fit_set F views port w mine others j u e = ⊎_elim (λ (x : (j ≡ port) × (w ≡ u)). subst F x.1 mine) (λ (x : (j ≢ port) × (get_elem? views j ≡ some u)). others j u x.0 x.1) (at_set views port j w u e)

  -- and where one comes
  pub fit_snoc : (F : Claim X → Type 0) (views : List (Claim X)) (w : Claim X) → AllFit F views → F w → AllFit F (views ++ w ∷ [])
  fit_snoc F views w old mine j u e = ⊎_elim (λ (x : get_elem? views j ≡ some u). old j u x) (λ (x : w ≡ u). subst F x mine) (at_snoc views w u j e)

  pub all_held-append : (vs ws : List (Claim X)) → all_held (vs ++ ws) ≡ all_held vs ++ all_held ws
  all_held-append [] ws = refl
  all_held-append (v ∷ vs) ws = ap (λ (l : List (Entry X)). v.held ++ l) (all_held-append vs ws) ∙ sym (append_assoc v.held (all_held vs) (all_held ws))

  -- what a pass holds is part of what all hold
  pub held_part : (f : Entry X → ℕ) (views : List (Claim X)) (port : ℕ) (v : Claim X) → get_elem? views port ≡ some v → sum_by f v.held ≤ sum_by f (all_held views)
  held_part f [] port v at = absurd (some-ne-none v (sym at))
  held_part f (u ∷ us) zero v at = let s : sum_by f u.held ≡ sum_by f v.held = ap (λ (h : Claim X). sum_by f h.held) (some-injective u v at) in omega (arith, sum_by-append f u.held (all_held us))
  held_part f (u ∷ us) (suc port) v at = omega (arith, sum_by-append f u.held (all_held us), held_part f us port v at)

  pub held_length : (views : List (Claim X)) (port : ℕ) (v : Claim X) → get_elem? views port ≡ some v → length v.held ≤ length (all_held views)
  held_length [] port v at = absurd (some-ne-none v (sym at))
  held_length (u ∷ us) zero v at = let s : length u.held ≡ length v.held = ap (λ (h : Claim X). length h.held) (some-injective u v at) in omega (arith, length-append u.held (all_held us))
  held_length (u ∷ us) (suc port) v at = omega (arith, length-append u.held (all_held us), held_length us port v at)

  -- the entries of `a` come to what a pass holds, and those of `b` go
  pub swaps : (views : List (Claim X)) (port : ℕ) (v w : Claim X) (a b : List (Entry X)) → get_elem? views port ≡ some v → IsPermutation (a ++ v.held) (b ++ w.held) → IsPermutation (a ++ all_held views) (b ++ all_held (set views port w))
  swaps [] port v w a b at p = absurd (some-ne-none v (sym at))
  swaps (u ∷ us) zero v w a b at p =
      let rest = all_held us in
      let s : u.held ≡ v.held = ap (λ (h : Claim X). h.held) (some-injective u v at) in
      let from : (a ++ v.held) ++ rest ≡ a ++ (u.held ++ rest) = append_assoc a v.held rest ∙ ap (λ (l : List (Entry X)). a ++ (l ++ rest)) (sym s) in
      let to : (b ++ w.held) ++ rest ≡ b ++ (w.held ++ rest) = append_assoc b w.held rest in
      subst (λ (l : List (Entry X)). IsPermutation l (b ++ (w.held ++ rest))) from (subst (λ (l : List (Entry X)). IsPermutation ((a ++ v.held) ++ rest) l) to (IsPermutation-append_left rest (a ++ v.held) (b ++ w.held) p))
  swaps (u ∷ us) (suc port) v w a b at p =
      let h = u.held in
      let r = all_held us in
      let r' = all_held (set us port w) in
      let inner = swaps us port v w a b at p in
      let from : IsPermutation (a ++ (h ++ r)) (h ++ (a ++ r)) =
      subst (λ (l : List (Entry X)). IsPermutation l (h ++ (a ++ r))) (append_assoc a h r) (subst (λ (l : List (Entry X)). IsPermutation ((a ++ h) ++ r) l) (append_assoc h a r) (IsPermutation-append_left r (a ++ h) (h ++ a) (IsPermutation-append_comm a h))) in
      let to : IsPermutation (h ++ (b ++ r')) (b ++ (h ++ r')) =
      subst (λ (l : List (Entry X)). IsPermutation l (b ++ (h ++ r'))) (append_assoc h b r') (subst (λ (l : List (Entry X)). IsPermutation ((h ++ b) ++ r') l) (append_assoc b h r') (IsPermutation-append_left r' (h ++ b) (b ++ h) (IsPermutation-append_comm h b))) in
      IsPermutation-trans (a ++ (h ++ r)) (h ++ (a ++ r)) (b ++ (h ++ r')) from (IsPermutation-trans (h ++ (a ++ r)) (h ++ (b ++ r')) (b ++ (h ++ r')) (IsPermutation-append_right h (a ++ r) (b ++ r') inner) to)

  -- where no pass holds anything, all hold nothing
  none_held : (views : List (Claim X)) → ((j : ℕ) (u : Claim X) → get_elem? views j ≡ some u → u.held ≡ []) → all_held views ≡ []
  none_held [] none = refl
  none_held (u ∷ us) none = ap (λ (l : List (Entry X)). l ++ all_held us) (none 0 u refl) ∙ none_held us (λ j x at. none (suc j) x at)

  -- where one pass alone holds anything, all hold what it holds
  pub held_alone : (views : List (Claim X)) (port : ℕ) (v : Claim X) → get_elem? views port ≡ some v → ((j : ℕ) (u : Claim X) → j ≢ port → get_elem? views j ≡ some u → u.held ≡ []) → all_held views ≡ v.held
  held_alone [] port v at none = absurd (some-ne-none v (sym at))
  held_alone (u ∷ us) zero v at none =
      ap (λ (l : List (Entry X)). u.held ++ l) (none_held us (λ j x to. none (suc j) x (λ e. omega arith) to)) ∙ (append-nil u.held ∙ ap (λ (h : Claim X). h.held) (some-injective u v at))
  held_alone (u ∷ us) (suc port) v at none =
      ap (λ (l : List (Entry X)). l ++ all_held us) (none 0 u (λ e. omega arith) refl) ∙ held_alone us port v at (λ j x apart to. none (suc j) x (λ e. apart (omega arith)) to)
