-- Workers that are numbered from a place on.
use Rattle.std.proofs.Common.{◌≡◌, ◌≢◌, ◌≤◌, ◌<◌, ◌+◌, ℕ, zero, suc, Bool, List, [], ◌∷◌, ◌++◌, length, map, sym, refl, ap, ◌∙◌, subst, append_assoc, length-append, inl, inr, ⊎_elim, arith, Contains}
use Rattle.std.specs.Prelude.{if◌then◌else◌}
use Rattle.std.proofs.lemmas.Bool.{ne_eqb}
use Rattle.std.proofs.lemmas.List.{map-append, length-map}
use mathlib.Core.Logic.{dite}
use native.Mathlib.Decide.{ℕ_discrete}
use Rattle.pool_queue.specs.declared.claim.Entry.{Entry}
use Rattle.pool_queue.specs.declared.numbered.Numbered.{Numbered}
use Rattle.pool_queue.specs.Entries.{AreNumberedApart, entry_of, has_number, times}
use Rattle.pool_queue.proofs.Counts.{contains_cases, has_own, times-cons}
use Rattle.cedr_pool.specs.Tasks.{numbered_from, task_worker, tasks_entries}

module _ {X : Type 0} where
  -- another number isn't counted
  pub has_other : (n : ℕ) (e : Entry X) → e.number ≢ n → has_number n e ≡ 0
  has_other n e other = ap (λ (b : Bool). if b then 1 else 0) (ne_eqb e.number n other)

  -- none has a number below the place
  pub none_below : (place n : ℕ) (ws : List X) → n < place → times n (numbered_from place ws) ≡ 0
  none_below place n [] below = refl
  none_below place n (w ∷ ws) below =
      let first : Entry X = record { number = place; place = w } in
      omega (arith, times-cons n first (numbered_from (place + 1) ws), has_other n first (λ same. omega (arith, same, below)), none_below (place + 1) n ws (omega (arith, below)))

  pub from_place : (place : ℕ) (ws : List X) (e : Entry X) → Contains (numbered_from place ws) e → place ≤ e.number
  from_place place [] e there = let within = there.1 in absurd (omega arith)
  from_place place (w ∷ ws) e there =
      let first : Entry X = record { number = place; place = w } in
      ⊎_elim
      (λ (is : first ≡ e). let same : place ≡ e.number = ap (λ (f : Entry X). f.number) is in omega (arith, same))
      (λ (later : Contains (numbered_from (place + 1) ws) e). omega (arith, from_place (place + 1) ws e later))
      (contains_cases first (numbered_from (place + 1) ws) e there.0 there.1 there.2)

  -- each number stands there once
  pub numbered_apart : (place : ℕ) (ws : List X) → AreNumberedApart (numbered_from place ws)
  numbered_apart place [] n = omega arith
  numbered_apart place (w ∷ ws) n =
      let first : Entry X = record { number = place; place = w } in
      let sum = times-cons n first (numbered_from (place + 1) ws) in
      dite (ℕ_discrete place n)
      (λ (same : place ≡ n). let own : has_number n first ≡ 1 = ap (λ (k : ℕ). has_number k first) (sym same) ∙ has_own first in omega (arith, sum, own, none_below (place + 1) n ws (omega (arith, same))))
      (λ (other : place ≢ n). omega (arith, sum, has_other n first other, numbered_apart (place + 1) ws n))

  pub numbered_length : (place : ℕ) (ws : List X) → length (numbered_from place ws) ≡ length ws
  numbered_length place [] = refl
  numbered_length place (w ∷ ws) = ap suc (numbered_length (place + 1) ws)

  -- tasks whose entries are those of some workers are made of these
  pub workers_of : (place : ℕ) (tasks : List (Numbered X)) (ws : List X) → tasks_entries tasks ≡ numbered_from place ws → map task_worker tasks ≡ ws
  workers_of place tasks ws same = places_of tasks ∙ (ap (map (λ (e : Entry X). e.place)) same ∙ numbered_places place ws) where
    places_of : (tasks : List (Numbered X)) → map task_worker tasks ≡ map (λ (e : Entry X). e.place) (tasks_entries tasks)
    places_of [] = refl
    places_of (t ∷ ts) = ap (λ (l : List X). t.task ∷ l) (places_of ts)

    numbered_places : (place : ℕ) (ws : List X) → map (λ (e : Entry X). e.place) (numbered_from place ws) ≡ ws
    numbered_places place [] = refl
    numbered_places place (w ∷ ws) = ap (λ (l : List X). w ∷ l) (numbered_places (place + 1) ws)

  -- the entries of some tasks and of one behind them
  pub entries_push : (tasks : List (Numbered X)) (t : Numbered X) → tasks_entries (tasks ++ t ∷ []) ≡ tasks_entries tasks ++ entry_of (λ x. x) t ∷ []
  entries_push tasks t = map-append (entry_of (λ x. x)) tasks (t ∷ [])

  pub entries_count : (tasks : List (Numbered X)) → length (tasks_entries tasks) ≡ length tasks
  entries_count tasks = length-map tasks (entry_of (λ x. x))

  module _ (all : List X) (tasks : List (Numbered X)) (left left' : List X) (w : X) (so : tasks_entries tasks ++ numbered_from (length tasks) left ≡ numbered_from 0 all) (is : left ≡ w ∷ left') where
    -- with the task of one worker more
    opened_more' : (tasks' : List (Numbered X)) (t : Numbered X) → tasks' ≡ tasks ++ t ∷ [] → entry_of (λ x. x) t ≡ record { number = length tasks; place = w } → tasks_entries tasks' ++ numbered_from (length tasks') left' ≡ numbered_from 0 all
    opened_more' tasks' t more same =
        let first : Entry X = record { number = length tasks; place = w } in
        let count : length tasks' ≡ length tasks + 1 = ap length more ∙ length-append tasks (t ∷ []) in
        let entries : tasks_entries tasks' ≡ tasks_entries tasks ++ first ∷ [] = ap tasks_entries more ∙ (entries_push tasks t ∙ ap (λ (e : Entry X). tasks_entries tasks ++ e ∷ []) same) in
        ap (λ (l : List (Entry X)). l ++ numbered_from (length tasks') left') entries
        ∙ (append_assoc (tasks_entries tasks) (first ∷ []) (numbered_from (length tasks') left')
        ∙ (ap (λ (n : ℕ). tasks_entries tasks ++ first ∷ numbered_from n left') count
        ∙ (ap (λ (l : List X). tasks_entries tasks ++ numbered_from (length tasks) l) (sym is) ∙ so)))

    -- there is room for it
    opened_room' : (size capacity : ℕ) → length all ≤ size → capacity ≡ size → length tasks < capacity
    opened_room' size capacity room same =
        let count : length (tasks_entries tasks ++ numbered_from (length tasks) left) ≡ length (numbered_from 0 all) = ap length so in
        let first : length left ≡ length (w ∷ left') = ap length is in
        omega (arith, count, first, room, same, length-append (tasks_entries tasks) (numbered_from (length tasks) left), entries_count tasks, numbered_length (length tasks) left, numbered_length 0 all)

  pub opened_more : (all : List X) (tasks tasks' : List (Numbered X)) (left left' : List X) (w : X) (t : Numbered X) → tasks_entries tasks ++ numbered_from (length tasks) left ≡ numbered_from 0 all → left ≡ w ∷ left' → tasks' ≡ tasks ++ t ∷ [] → entry_of (λ x. x) t ≡ record { number = length tasks; place = w } → tasks_entries tasks' ++ numbered_from (length tasks') left' ≡ numbered_from 0 all
  opened_more all tasks tasks' left left' w t so is more same = opened_more' all tasks left left' w so is tasks' t more same

  pub opened_room : (all : List X) (tasks : List (Numbered X)) (left left' : List X) (w : X) (size capacity : ℕ) → tasks_entries tasks ++ numbered_from (length tasks) left ≡ numbered_from 0 all → left ≡ w ∷ left' → length all ≤ size → capacity ≡ size → length tasks < capacity
  opened_room all tasks left left' w size capacity so is room same = opened_room' all tasks left left' w so is size capacity room same
