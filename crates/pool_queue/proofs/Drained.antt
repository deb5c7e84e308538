-- What the pass that has all parts takes out of the queue, and when nothing is left there.
use Rattle.std.proofs.Common.{◌≡◌, ◌≤◌, ◌<◌, ℕ, List, [], ◌∷◌, ◌++◌, length, sym, refl, ap, ◌∙◌, subst, append_assoc, length-append, arith, IsPermutation}
use Rattle.std.proofs.lemmas.List.{map-append, length-map}
use Rattle.std.proofs.lemmas.List.Sorted.{IsPermutation-trans, IsPermutation-append_comm}
use Rattle.crossbeam_queue.specs.Fifo.{Held}
use Rattle.pool_queue.specs.declared.claim.Claim.{Claim}
use Rattle.pool_queue.specs.declared.numbered.Numbered.{Numbered}
use Rattle.pool_queue.specs.declared.claim.Entry.{Entry}
use Rattle.pool_queue.specs.Entries.{entry_of}
use Rattle.pool_queue.specs.Once.{claim}
use Rattle.pool_queue.proofs.Moves.{entries_of}

none_there : {X : Type 0} (xs : List X) → length xs ≡ 0 → xs ≡ []
none_there [] e = refl
none_there (x ∷ xs) e = absurd (omega arith)

module _ {X : Type 0} where
  -- the view after some tasks were taken out, which was this one at first
  abbrev pub after : {T : Type 0} → (T → X) → Claim X → List (Numbered T) → Claim X
  after place v row = claim v.parts v.opened (v.held ++ entries_of place row)

  -- with one task more
  pub drained : {T : Type 0} (place : T → X) (v₀ v w : Claim X) (row row' : List (Numbered T)) (x : Numbered T) → v ≡ after place v₀ row → w ≡ claim v.parts v.opened (v.held ++ entry_of place x ∷ []) → row' ≡ row ++ x ∷ [] → w ≡ after place v₀ row'
  drained place v₀ v w row row' x was now more =
      let e : Entry X = entry_of place x in
      let held : (v₀.held ++ entries_of place row) ++ e ∷ [] ≡ v₀.held ++ entries_of place row' =
      append_assoc v₀.held (entries_of place row) (e ∷ []) ∙ ap (λ (l : List (Entry X)). v₀.held ++ l) (sym (map-append (entry_of place) row (x ∷ [])) ∙ ap (entries_of place) (sym more)) in
      now ∙ (ap (λ (u : Claim X). claim u.parts u.opened (u.held ++ e ∷ [])) was ∙ ap (λ (l : List (Entry X)). claim v₀.parts v₀.opened l) held)

  -- there is room for one more
  pub row_room : {T : Type 0} (place : T → X) (v₀ v w : Claim X) (row : List (Numbered T)) (x : Numbered T) (capacity : ℕ) → v ≡ after place v₀ row → w ≡ claim v.parts v.opened (v.held ++ entry_of place x ∷ []) → length w.held ≤ length w.opened → length v₀.opened ≤ capacity → length row < capacity
  row_room place v₀ v w row x capacity was now less fits =
      let e : Entry X = entry_of place x in
      let all : w ≡ after place v₀ (row ++ x ∷ []) = drained place v₀ v w row (row ++ x ∷ []) x was now refl in
      let held : length w.held ≡ length (v₀.held ++ entries_of place (row ++ x ∷ [])) = ap (λ (u : Claim X). length u.held) all in
      let opened : length w.opened ≡ length v₀.opened = ap (λ (u : Claim X). length u.opened) all in
      omega (arith, held, opened, less, fits, length-append v₀.held (entries_of place (row ++ x ∷ [])), length-map (row ++ x ∷ []) (entry_of place), length-append row (x ∷ []))

  -- where nothing is left in the queue, what was taken out and what the pass held are all that was opened
  pub all_drained : {T : Type 0} (place : T → X) (v₀ v : Claim X) (row : List (Numbered T)) → v ≡ after place v₀ row → Held 0 (λ (items : List (Numbered T)). IsPermutation (entries_of place items ++ v.held) v.opened) → IsPermutation (entries_of place row ++ v₀.held) v₀.opened
  all_drained place v₀ v row was seen =
      let none : seen.0 ≡ [] = none_there seen.0 seen.1 in
      let all : IsPermutation v.held v.opened = subst (λ (items : List (Numbered _)). IsPermutation (entries_of place items ++ v.held) v.opened) none seen.2 in
      let now : IsPermutation (v₀.held ++ entries_of place row) v₀.opened = subst (λ (u : Claim X). IsPermutation u.held u.opened) was all in
      IsPermutation-trans (entries_of place row ++ v₀.held) (v₀.held ++ entries_of place row) v₀.opened (IsPermutation-append_comm (entries_of place row) v₀.held) now
