-- Tasks that are sorted by their numbers are those that were opened, in order.
use Rattle.std.proofs.Common.{◌≡◌, ◌≢◌, ◌≤◌, ◌<◌, ◌+◌, ℕ, zero, suc, List, [], ◌∷◌, length, slice_index_or, sym, refl, ap, ◌∙◌, subst, inl, inr, ⊎_elim, arith, Contains, IsPermutation}
use Rattle.std.specs.List.Sorted.{IsNonDecreasingBy}
use Rattle.std.proofs.lemmas.List.Sorted.{Contains-permutation, IsPermutation-map, IsPermutation-sym, IsPermutation-trans, sum_by-IsPermutation}
use mathlib.Core.Logic.{dite}
use native.Mathlib.Decide.{ℕ_discrete}
use Rattle.pool_queue.specs.declared.claim.Entry.{Entry}
use Rattle.pool_queue.specs.declared.numbered.Numbered.{Numbered}
use Rattle.pool_queue.specs.Entries.{entry_of, has_number, times}
use Rattle.pool_queue.proofs.Counts.{contains_cases, contains_times, has_own, times-cons}
use Rattle.cedr_pool.specs.Tasks.{numbered_from, task_number, tasks_entries}
use Rattle.cedr_pool.proofs.TaskLemmas.{from_place, has_other, none_below}

module _ {X : Type 0} where
  -- the numbers don't fall, and the first isn't below this one
  abbrev pub Climb : ℕ → List (Entry X) → Type 0
  Climb low [] = Unit {0}
  Climb low (e ∷ es) = (low ≤ e.number) × Climb e.number es

  climb_of : (low : ℕ) (tasks : List (Numbered X)) → ((d : Numbered X) → 0 < length tasks → low ≤ task_number (slice_index_or tasks 0 d)) → IsNonDecreasingBy task_number tasks → Climb low (tasks_entries tasks)
  climb_of low [] first up = tt
  climb_of low (t ∷ ts) first up = (first t (omega arith), climb_of t.number ts (λ d some. up 0 1 d (omega arith) (omega (arith, some))) (λ i j d le within. up (suc i) (suc j) d (omega (arith, le)) (omega (arith, within))))

  -- no number that is there is below the first
  low_of : (low : ℕ) (es : List (Entry X)) → Climb low es → (n : ℕ) → 0 < times n es → low ≤ n
  low_of low [] up n some = absurd (omega (arith, some))
  low_of low (e ∷ es) up n some =
      dite (ℕ_discrete e.number n)
      (λ (same : e.number ≡ n). omega (arith, up.0, same))
      (λ (other : e.number ≢ n). omega (arith, up.0, low_of e.number es up.1 n (omega (arith, some, times-cons n e es, has_other n e other))))

  -- what climbs and has the numbers and the entries of some workers is these workers in order
  same_order : (place : ℕ) (ws : List X) (es : List (Entry X)) (low : ℕ) → Climb low es → ((n : ℕ) → times n es ≡ times n (numbered_from place ws)) → ((e : Entry X) → Contains es e → Contains (numbered_from place ws) e) → es ≡ numbered_from place ws
  same_order place [] [] low up counts within = refl
  same_order place [] (e ∷ es) low up counts within = let there = within e (0, omega arith, refl) in let below = there.1 in absurd (omega arith)
  same_order place (w ∷ ws) [] low up counts within =
      let first : Entry X = record { number = place; place = w } in
      absurd (omega (arith, counts place, times-cons place first (numbered_from (place + 1) ws), has_own first))
  same_order place (w ∷ ws) (e ∷ es) low up counts within =
      let first : Entry X = record { number = place; place = w } in
      let rest : List (Entry X) = numbered_from (place + 1) ws in
      let once : times place (first ∷ rest) ≡ 1 = omega (arith, times-cons place first rest, has_own first, none_below (place + 1) place ws (omega arith)) in
      let least : e.number ≤ place =
      dite (ℕ_discrete e.number place)
      (λ (same : e.number ≡ place). omega (arith, same))
      (λ (other : e.number ≢ place). low_of e.number es up.1 place (omega (arith, counts place, once, times-cons place e es, has_other place e other))) in
      let is : e ≡ first =
      ⊎_elim
      (λ (same : first ≡ e). sym same)
      (λ (later : Contains rest e). absurd (omega (arith, least, from_place (place + 1) ws e later)))
      (let there = within e (0, omega arith, refl) in contains_cases first rest e there.0 there.1 there.2) in
      let fewer : (n : ℕ) → times n es ≡ times n rest = λ n. let same : has_number n e ≡ has_number n first = ap (has_number n) is in omega (arith, counts n, times-cons n e es, times-cons n first rest, same) in
      let none : times place es ≡ 0 = omega (arith, fewer place, none_below (place + 1) place ws (omega arith)) in
      let inside : (f : Entry X) → Contains es f → Contains rest f =
      λ f there.
      ⊎_elim
      (λ (same : first ≡ f). let at : times f.number es ≡ 0 = subst (λ (g : Entry X). times g.number es ≡ 0) same none in absurd (omega (arith, at, contains_times es f there)))
      (λ (later : Contains rest f). later)
      (let found = within f (suc there.0, omega (arith, there.1), there.2) in contains_cases first rest f found.0 found.1 found.2) in
      ap (λ (f : Entry X). f ∷ es) is ∙ ap (λ (l : List (Entry X)). first ∷ l) (same_order (place + 1) ws es e.number up.1 fewer inside)

  -- all tasks that were opened, once they are sorted
  pub sorted_back : (ws : List X) (tasks sorted : List (Numbered X)) → IsPermutation (tasks_entries tasks) (numbered_from 0 ws) → IsPermutation tasks sorted → IsNonDecreasingBy task_number sorted → tasks_entries sorted ≡ numbered_from 0 ws
  sorted_back ws tasks sorted all moved up =
      let moved' : IsPermutation (tasks_entries sorted) (tasks_entries tasks) = IsPermutation-sym (tasks_entries tasks) (tasks_entries sorted) (IsPermutation-map (entry_of (λ x. x)) tasks sorted moved) in
      let same : IsPermutation (tasks_entries sorted) (numbered_from 0 ws) = IsPermutation-trans (tasks_entries sorted) (tasks_entries tasks) (numbered_from 0 ws) moved' all in
      same_order 0 ws (tasks_entries sorted) 0 (climb_of 0 sorted (λ d some. omega arith) up)
      (λ n. sym (sum_by-IsPermutation (has_number n) (tasks_entries sorted) (numbered_from 0 ws) same))
      (λ e there. Contains-permutation (tasks_entries sorted) (numbered_from 0 ws) e same there)
