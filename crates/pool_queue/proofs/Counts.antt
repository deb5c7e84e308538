-- How often a number stands among some entries, and what is left without it.
use Rattle.std.proofs.Common.{◌≡◌, ℕ, zero, suc, ◌+◌, ◌<◌, ◌≤◌, ◌==◌, ◌⊎◌, Bool, true, false, true≢false, List, [], ◌∷◌, ◌++◌, length, slice_index_or, sym, refl, ap, ◌∙◌, subst, inl, inr, ⊎_elim, eq-eqb, arith, Contains, IsPermutation}
use Rattle.std.specs.Prelude.{if◌then◌else◌}
use Rattle.std.proofs.lemmas.List.Sums.{sum_by-cons, sum_by-append}
use Rattle.std.proofs.lemmas.List.Sorted.{IsPermutation-refl, IsPermutation-cons, IsPermutation-middle, IsPermutation-trans}
use Rattle.pool_queue.specs.declared.claim.Entry.{Entry}
use Rattle.pool_queue.specs.Entries.{has_number, times, AreNumberedApart, other_than}

-- what is in a list is its first element, or in the rest
pub contains_cases : {X : Type 0} (x : X) (xs : List X) (y : X) (k : ℕ) → k < length (x ∷ xs) → slice_index_or (x ∷ xs) k y ≡ y → (x ≡ y) ⊎ Contains xs y
contains_cases x xs y zero l e = inl e
contains_cases x xs y (suc k) l e = inr (k, omega arith, e)

module _ {X : Type 0} where
  -- a number stands among some entries as often as at the first and among the others
  pub times-cons : (n : ℕ) (e : Entry X) (es : List (Entry X)) → times n (e ∷ es) ≡ (if e.number == n then 1 else 0) + times n es
  times-cons n e es = sum_by-cons (has_number n) e es

  pub has_own : (e : Entry X) → has_number e.number e ≡ 1
  has_own e = ap (λ (b : Bool). if b then 1 else 0) (eq-eqb e.number e.number refl)

  -- an entry that is there is counted
  pub contains_times : (es : List (Entry X)) (e : Entry X) → Contains es e → 1 ≤ times e.number es
  contains_times [] e c = let l = c.1 in absurd (omega arith)
  contains_times (f ∷ fs) e c =
      ⊎_elim
      (λ (s : f ≡ e). let one : has_number e.number f ≡ 1 = ap (has_number e.number) s ∙ has_own e in omega (arith, one, times-cons e.number f fs))
      (λ (i : Contains fs e). omega (arith, contains_times fs e i, times-cons e.number f fs))
      (contains_cases f fs e c.0 c.1 c.2)

  keeps_all : (e : Entry X) (es rest : List (Entry X)) (b : Bool) (t : ℕ) → (if b then 1 else 0) + t ≡ 0 → rest ≡ es → (if b then rest else e ∷ rest) ≡ e ∷ es
  keeps_all e es rest true t none same = absurd (omega arith)
  keeps_all e es rest false t none same = ap (λ (l : List (Entry X)). e ∷ l) same

  -- without a number that isn't there, all stay
  pub none_leaves : (n : ℕ) (es : List (Entry X)) → times n es ≡ 0 → other_than n es ≡ es
  none_leaves n [] none = refl
  none_leaves n (e ∷ es) none =
      let both = sym (times-cons n e es) ∙ none in
      keeps_all e es (other_than n es) (e.number == n) (times n es) both (none_leaves n es (omega arith))

  head_out : (e : Entry X) (fs : List (Entry X)) (b : Bool) → b ≡ true → (if b then 1 else 0) + times e.number fs ≤ 1 → IsPermutation (e ∷ fs) (e ∷ (if b then other_than e.number fs else e ∷ other_than e.number fs))
  head_out e fs true is once = subst (λ (l : List (Entry X)). IsPermutation (e ∷ fs) (e ∷ l)) (sym (none_leaves e.number fs (omega arith))) (IsPermutation-refl (e ∷ fs))
  head_out e fs false is once = absurd (true≢false (sym is))

  later_out : (e f : Entry X) (fs : List (Entry X)) (b : Bool) → (if b then 1 else 0) + times e.number fs ≤ 1 → 1 ≤ times e.number fs → IsPermutation fs (e ∷ other_than e.number fs)
      → IsPermutation (f ∷ fs) (e ∷ (if b then other_than e.number fs else f ∷ other_than e.number fs))
  later_out e f fs true once more rest = absurd (omega arith)
  later_out e f fs false once more rest =
      IsPermutation-trans (f ∷ fs) (f ∷ e ∷ other_than e.number fs) (e ∷ f ∷ other_than e.number fs) (IsPermutation-cons f fs (e ∷ other_than e.number fs) rest) (IsPermutation-middle (f ∷ []) e (other_than e.number fs))

  -- an entry whose number is there once, and the others
  pub takes_out : (es : List (Entry X)) (e : Entry X) → Contains es e → times e.number es ≤ 1 → IsPermutation es (e ∷ other_than e.number es)
  takes_out [] e c once = let l = c.1 in absurd (omega arith)
  takes_out (f ∷ fs) e c once =
      ⊎_elim
      (λ (s : f ≡ e). subst (λ (g : Entry X). times e.number (g ∷ fs) ≤ 1 → IsPermutation (g ∷ fs) (e ∷ other_than e.number (g ∷ fs))) (sym s) (λ first. head_out e fs (e.number == e.number) (eq-eqb e.number e.number refl) (omega (arith, first, times-cons e.number e fs))) once)
      (λ (i : Contains fs e). later_out e f fs (f.number == e.number) (omega (arith, once, times-cons e.number f fs)) (contains_times fs e i) (takes_out fs e i (omega (arith, times-cons e.number f fs))))
      (contains_cases f fs e c.0 c.1 c.2)

  -- the first of some entries are apart where all are
  pub apart_first : (xs ys : List (Entry X)) → AreNumberedApart (xs ++ ys) → AreNumberedApart xs
  apart_first xs ys apart n = omega (arith, apart n, sum_by-append (has_number n) xs ys)
