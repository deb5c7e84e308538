-- What a thread holds of the tasks of a pool: those that ended there, and for a while one that it turns.
use Rattle.std.proofs.Common.{◌≡◌, ◌≤◌, ◌<◌, ◌+◌, ◌==◌, ℕ, Bool, true, false, true≢false, List, [], ◌∷◌, ◌++◌, length, sym, refl, ap, ◌∙◌, subst, eq-eqb, arith, Contains, IsPermutation}
use Rattle.std.specs.Prelude.{if◌then◌else◌}
use Rattle.std.proofs.lemmas.List.Sorted.{IsPermutation-cons, IsPermutation-trans, IsPermutation-to_front, length_permutation}
use Rattle.pool_queue.specs.declared.claim.Entry.{Entry}
use Rattle.pool_queue.specs.declared.numbered.Numbered.{Numbered}
use Rattle.pool_queue.specs.Entries.{entry_of, other_than, times}
use Rattle.pool_queue.proofs.Counts.{none_leaves}
use Rattle.cedr_pool.specs.Tasks.{tasks_entries}
use Rattle.cedr_pool.proofs.TaskLemmas.{entries_count, entries_push}

module _ {X : Type 0} where
  first_out : (e : Entry X) (es : List (Entry X)) (b : Bool) → b ≡ true → times e.number es ≡ 0 → (if b then other_than e.number es else e ∷ other_than e.number es) ≡ es
  first_out e es true is once = none_leaves e.number es once
  first_out e es false is once = absurd (true≢false (sym is))

  -- what is taken and put back is as if it had not been
  pub put_back : (e : Entry X) (es : List (Entry X)) → times e.number es ≡ 0 → other_than e.number (e ∷ es) ≡ es
  put_back e es once = first_out e es (e.number == e.number) (eq-eqb e.number e.number refl) once

  -- the task is held under its number, whatever its turns did
  pub still_held : (e f : Entry X) (held es : List (Entry X)) → held ≡ e ∷ es → f ≡ e → Contains held f
  still_held e f held es is same = subst (λ (l : List (Entry X)). Contains l f) (sym is) (0, omega arith, sym same)

  -- one more has ended
  pub row_more : (row row' : List (Numbered X)) (x : Numbered X) (e : Entry X) (held held' : List (Entry X)) → IsPermutation (tasks_entries row) held → row' ≡ row ++ x ∷ [] → held' ≡ e ∷ held → entry_of (λ y. y) x ≡ e → IsPermutation (tasks_entries row') held'
  row_more row row' x e held held' all more is same =
      let m : List (Entry X) = tasks_entries row in
      let e' : Entry X = entry_of (λ y. y) x in
      let front : IsPermutation (m ++ e' ∷ []) (e' ∷ held) = IsPermutation-trans (m ++ e' ∷ []) (e' ∷ m) (e' ∷ held) (IsPermutation-to_front m e') (IsPermutation-cons e' m held all) in
      let now : IsPermutation (tasks_entries row') (e' ∷ held) = subst (λ (l : List (Numbered X)). IsPermutation (tasks_entries l) (e' ∷ held)) (sym more) (subst (λ (l : List (Entry X)). IsPermutation l (e' ∷ held)) (sym (entries_push row x)) front) in
      subst (IsPermutation (tasks_entries row')) (ap (λ (f : Entry X). f ∷ held) same ∙ sym is) now

  -- there is room for it
  pub more_room : (row : List (Numbered X)) (e : Entry X) (held held' opened opened' : List (Entry X)) (capacity : ℕ) → IsPermutation (tasks_entries row) held → held' ≡ e ∷ held → length held' ≤ length opened' → opened' ≡ opened → length opened ≤ capacity → length row < capacity
  more_room row e held held' opened opened' capacity all is fits same room =
      let a : length held' ≡ length (e ∷ held) = ap length is in
      let b : length opened' ≡ length opened = ap length same in
      omega (arith, a, b, fits, room, entries_count row, length_permutation (tasks_entries row) held all)
