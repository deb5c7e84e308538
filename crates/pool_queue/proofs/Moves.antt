-- Each kind of step keeps the rule of a pool's queue.
use Rattle.std.proofs.Common.{◌≡◌, ◌≢◌, ◌≤◌, ◌<◌, ◌+◌, ◌-◌, ℕ, List, [], ◌∷◌, ◌++◌, length, set, map, sym, refl, ap, ◌∙◌, subst, ⊎_elim, append_assoc, length-append, arith, Contains, IsPermutation}
use Rattle.std.proofs.lemmas.List.{append-nil, map-append, length-map}
use Rattle.std.proofs.lemmas.List.Sums.{sum_by-cons, sum_by-append}
use Rattle.std.proofs.lemmas.List.Sorted.{IsPermutation-refl, IsPermutation-sym, IsPermutation-cons, IsPermutation-trans, IsPermutation-middle, IsPermutation-to_front, IsPermutation-append_right, IsPermutation-append_comm, Contains-permutation, length_permutation, sum_by-IsPermutation}
use mathlib.Core.Option.{some, some-ne-none}
use lib.ListN.{get_elem?}
use Rattle.crossbeam_queue.specs.Fifo.{Pushes, Pops, Forks, Merges, Learns}
use Rattle.crossbeam_queue.proofs.Lists.{at_snoc, set_else}
use Rattle.pool_queue.specs.declared.claim.Claim.{Claim}
use Rattle.pool_queue.specs.declared.numbered.Numbered.{Numbered}
use Rattle.pool_queue.specs.declared.claim.Entry.{Entry}
use Rattle.pool_queue.specs.Entries.{has_number, times, AreNumberedApart, other_than, entry_of}
use Rattle.pool_queue.specs.Once.{all_parts, claim, claim_parts, all_held, FitsClaim, IsOnce}
use Rattle.pool_queue.proofs.Counts.{has_own, takes_out}
use Rattle.pool_queue.proofs.Views.{sum_set, two_le, set_comm, fit_set, fit_snoc, all_held-append, held_part, held_length, swaps, held_alone}

module _ {X : Type 0} where
  same_in : (m h h' o : List (Entry X)) → IsPermutation (m ++ h) o → IsPermutation h h' → IsPermutation (m ++ h') o
  same_in m h h' o all p = IsPermutation-trans (m ++ h') (m ++ h) o (IsPermutation-append_right m h' h (IsPermutation-sym h h' p)) all

  put_in : (m h h' o : List (Entry X)) (e : Entry X) → IsPermutation (m ++ h) o → IsPermutation h (e ∷ h') → IsPermutation ((m ++ e ∷ []) ++ h') o
  put_in m h h' o e all p = subst (λ (l : List (Entry X)). IsPermutation l o) (sym (append_assoc m (e ∷ []) h')) (same_in m h (e ∷ h') o all p)

  put_new : (m h h' o : List (Entry X)) (e : Entry X) → IsPermutation (m ++ h) o → IsPermutation h h' → IsPermutation ((m ++ e ∷ []) ++ h') (o ++ e ∷ [])
  put_new m h h' o e all p =
      let back : IsPermutation (e ∷ o) (o ++ e ∷ []) = IsPermutation-sym (o ++ e ∷ []) (e ∷ o) (IsPermutation-to_front o e) in
      let front : IsPermutation (m ++ e ∷ h') (e ∷ (m ++ h')) = IsPermutation-middle m e h' in
      let inner : IsPermutation (e ∷ (m ++ h')) (e ∷ o) = IsPermutation-cons e (m ++ h') o (same_in m h h' o all p) in
      subst (λ (l : List (Entry X)). IsPermutation l (o ++ e ∷ [])) (sym (append_assoc m (e ∷ []) h'))
      (IsPermutation-trans (m ++ e ∷ h') (e ∷ (m ++ h')) (o ++ e ∷ []) front (IsPermutation-trans (e ∷ (m ++ h')) (e ∷ o) (o ++ e ∷ []) inner back))

  take_out : (m h h' o : List (Entry X)) (e : Entry X) → IsPermutation ((e ∷ m) ++ h) o → IsPermutation (e ∷ h) h' → IsPermutation (m ++ h') o
  take_out m h h' o e all p = same_in m (e ∷ h) h' o (IsPermutation-trans (m ++ e ∷ h) (e ∷ (m ++ h)) o (IsPermutation-middle m e h) all) p

  -- the entries of some tasks
  abbrev pub entries_of : {T : Type 0} → (T → X) → List (Numbered T) → List (Entry X)
  entries_of place items = map (entry_of place) items

  -- a live pass knows what was opened
  knows : {T : Type 0} (place : T → X) (port : ℕ) (v : Claim X) (items : List (Numbered T)) (views : List (Claim X)) → 0 < v.parts → (h : IsOnce place items views) → get_elem? views port ≡ some v → v.opened ≡ h.opened
  knows place port v items views live h at = (h.fit port v at).knows (λ e. omega arith)

  -- a pass that has all parts has them alone
  alone : {T : Type 0} (place : T → X) (port : ℕ) (v : Claim X) (items : List (Numbered T)) (views : List (Claim X)) → v.parts ≡ all_parts → IsOnce place items views → get_elem? views port ≡ some v → (j : ℕ) (u : Claim X) → j ≢ port → get_elem? views j ≡ some u → u.parts ≡ 0
  alone place port v items views whole h at j u apart to = let most = two_le claim_parts views j port u v apart to at in let all = h.parts in omega arith

  -- making the first pass
  pub begins : {T : Type 0} (place : T → X) → IsOnce place [] (claim all_parts [] [] ∷ [])
  begins place =
      let one : FitsClaim [] (claim all_parts [] []) = record { knows = λ _. refl; spent = λ _. refl } in
      record {
        opened = [];
        apart = λ n. omega arith;
        each = IsPermutation-refl [];
        parts = omega arith;
        fit = λ port v e. ⊎_elim (λ (x : get_elem? [] port ≡ some v). absurd (some-ne-none v (sym x))) (λ (s : claim all_parts [] [] ≡ v). subst (FitsClaim []) s one) (at_snoc [] (claim all_parts [] []) v port e);
      }

  -- a put of a task that wasn't opened before, by the one pass
  pub opens : {T : Type 0} (place : T → X) (n port : ℕ) (v : Claim X) (x : Numbered T) → v.parts ≡ all_parts → AreNumberedApart (v.opened ++ entry_of place x ∷ [])
      → Pushes (IsOnce place) n port v x (λ w. w ≡ claim v.parts (v.opened ++ entry_of place x ∷ []) v.held)
  opens place n port v x whole apart items views _ h at =
      let e : Entry X = entry_of place x in
      let w : Claim X = claim v.parts (v.opened ++ e ∷ []) v.held in
      let same : v.opened ≡ h.opened = knows place port v items views (omega arith) h at in
      let m : List (Entry X) = entries_of place items in
      let each : IsPermutation ((m ++ e ∷ []) ++ all_held (set views port w)) (v.opened ++ e ∷ []) =
      put_new m (all_held views) (all_held (set views port w)) v.opened e (subst (IsPermutation (m ++ all_held views)) (sym same) h.each) (swaps views port v w [] [] at (IsPermutation-refl v.held)) in (
        w,
        record {
          opened = v.opened ++ e ∷ [];
          apart = apart;
          each = subst (λ (l : List (Entry X)). IsPermutation (l ++ all_held (set views port w)) (v.opened ++ e ∷ [])) (sym (map-append (entry_of place) items (x ∷ []))) each;
          parts = let s = sum_set claim_parts views port v w at in let p = h.parts in omega arith;
          fit = fit_set (FitsClaim (v.opened ++ e ∷ [])) views port w (record { knows = λ _. refl; spent = λ none. absurd (omega arith) })
              (λ j u apart to. let none = alone place port v items views whole h at j u apart to in record { knows = λ some. absurd (some none); spent = (h.fit j u to).spent });
        },
        refl,
      )

  -- how much room there is
  room : {T : Type 0} (place : T → X) (port : ℕ) (v : Claim X) (items : List (Numbered T)) (views : List (Claim X)) → 0 < v.parts → (h : IsOnce place items views) → get_elem? views port ≡ some v → length items + length v.held ≤ length v.opened
  room place port v items views live h at =
      let m : List (Entry X) = entries_of place items in
      let same : length v.opened ≡ length h.opened = ap length (knows place port v items views live h at) in
      let all : length h.opened ≡ length (m ++ all_held views) = length_permutation (m ++ all_held views) h.opened h.each in
      omega (arith, same, all, length-append m (all_held views), length-map items (entry_of place), held_length views port v at)

  -- while the tasks are opened there is room for the next
  pub learns_open : {T : Type 0} (place : T → X) (port : ℕ) (v : Claim X) → 0 < v.parts → Learns (IsOnce place) port v (λ items. length items ≤ length v.opened)
  learns_open place port v live items views h at = let r = room place port v items views live h at in omega arith

  -- parting a pass
  pub forks : {T : Type 0} (place : T → X) (port : ℕ) (v : Claim X) → 1 < v.parts → Forks (IsOnce place) port v (claim (v.parts - 1) v.opened v.held) (claim 1 v.opened [])
  forks place port v more items views h at =
      let l : Claim X = claim (v.parts - 1) v.opened v.held in
      let r : Claim X = claim 1 v.opened [] in
      let vs : List (Claim X) = set views port l in
      let same : v.opened ≡ h.opened = knows place port v items views (omega arith) h at in
      let m : List (Entry X) = entries_of place items in
      let held : all_held (vs ++ r ∷ []) ≡ all_held vs = all_held-append vs (r ∷ []) ∙ append-nil (all_held vs) in
      let each : IsPermutation (m ++ all_held vs) h.opened = same_in m (all_held views) (all_held vs) h.opened h.each (swaps views port v l [] [] at (IsPermutation-refl v.held)) in
      let left : FitsClaim h.opened l = record { knows = λ _. same; spent = λ none. absurd (omega arith) } in
      let right : FitsClaim h.opened r = record { knows = λ _. same; spent = λ _. refl } in
      record {
        opened = h.opened;
        apart = h.apart;
        each = subst (λ (k : List (Entry X)). IsPermutation (m ++ k) h.opened) (sym held) each;
        parts = let s = sum_set claim_parts views port v l at in let p = h.parts in omega (arith, sum_by-append claim_parts vs (r ∷ []));
        fit = fit_snoc (FitsClaim h.opened) vs r (fit_set (FitsClaim h.opened) views port l left (λ j u apart to. h.fit j u to)) right;
      }

  -- a put that is taken
  pub puts : {T : Type 0} (place : T → X) (n port : ℕ) (v : Claim X) (x : Numbered T) → 0 < v.parts → Contains v.held (entry_of place x)
      → Pushes (IsOnce place) n port v x (λ w. w ≡ claim v.parts v.opened (other_than x.number v.held))
  puts place n port v x live holds items views _ h at =
      let e : Entry X = entry_of place x in
      let w : Claim X = claim v.parts v.opened (other_than x.number v.held) in
      let same : v.opened ≡ h.opened = knows place port v items views live h at in
      let m : List (Entry X) = entries_of place items in
      let once : times x.number h.opened ≤ 1 = h.apart x.number in
      let all : times x.number h.opened ≡ times x.number (m ++ all_held views) = sum_by-IsPermutation (has_number x.number) (m ++ all_held views) h.opened h.each in
      let own : times x.number v.held ≤ 1 = omega (arith, once, all, sum_by-append (has_number x.number) m (all_held views), held_part (has_number x.number) views port v at) in
      let out : IsPermutation (all_held views) (e ∷ all_held (set views port w)) = swaps views port v w [] (e ∷ []) at (takes_out v.held e holds own) in
      let each : IsPermutation ((m ++ e ∷ []) ++ all_held (set views port w)) h.opened = put_in m (all_held views) (all_held (set views port w)) h.opened e h.each out in (
        w,
        record {
          opened = h.opened;
          apart = h.apart;
          each = subst (λ (l : List (Entry X)). IsPermutation (l ++ all_held (set views port w)) h.opened) (sym (map-append (entry_of place) items (x ∷ []))) each;
          parts = let s = sum_set claim_parts views port v w at in let p = h.parts in omega arith;
          fit = fit_set (FitsClaim h.opened) views port w (record { knows = λ _. same; spent = λ none. absurd (omega arith) }) (λ j u apart to. h.fit j u to);
        },
        refl,
      )

  -- a put is never refused: what the pass holds isn't in the queue
  pub learns_room : {T : Type 0} (place : T → X) (port : ℕ) (v : Claim X) (e : Entry X) → 0 < v.parts → Contains v.held e → Learns (IsOnce place) port v (λ items. length items < length v.opened)
  learns_room place port v e live holds items views h at = let r = room place port v items views live h at in let some = holds.1 in omega arith

  -- what a take says: the task was opened, and the pass didn't hold its number
  taken_facts : {T : Type 0} (place : T → X) (port : ℕ) (v : Claim X) (x : Numbered T) (items : List (Numbered T)) (views : List (Claim X)) → 0 < v.parts → IsOnce place (x ∷ items) views → get_elem? views port ≡ some v
      → Contains v.opened (entry_of place x) × (times x.number v.held ≡ 0)
  taken_facts place port v x items views live h at =
      let e : Entry X = entry_of place x in
      let m : List (Entry X) = entries_of place items in
      let same : v.opened ≡ h.opened = knows place port v (x ∷ items) views live h at in
      let there : Contains h.opened e = Contains-permutation ((e ∷ m) ++ all_held views) h.opened e h.each (0, omega arith, refl) in
      let once : times x.number h.opened ≤ 1 = h.apart x.number in
      let all : times x.number h.opened ≡ times x.number ((e ∷ m) ++ all_held views) = sum_by-IsPermutation (has_number x.number) ((e ∷ m) ++ all_held views) h.opened h.each in
      let own : has_number x.number e ≡ 1 = has_own e in
      (subst (λ (l : List (Entry X)). Contains l e) (sym same) there, omega (arith, once, all, own, sum_by-cons (has_number x.number) e (m ++ all_held views), sum_by-append (has_number x.number) m (all_held views), held_part (has_number x.number) views port v at))

  -- a take that is given, whatever becomes of the order of what is held
  gives : {T : Type 0} (place : T → X) (port : ℕ) (v : Claim X) (x : Numbered T) (held : List (Entry X)) (items : List (Numbered T)) (views : List (Claim X)) → 0 < v.parts → IsPermutation (entry_of place x ∷ v.held) held
      → IsOnce place (x ∷ items) views → get_elem? views port ≡ some v → IsOnce place items (set views port (claim v.parts v.opened held))
  gives place port v x held items views live more h at =
      let e : Entry X = entry_of place x in
      let w : Claim X = claim v.parts v.opened held in
      let m : List (Entry X) = entries_of place items in
      let same : v.opened ≡ h.opened = knows place port v (x ∷ items) views live h at in
      record {
        opened = h.opened;
        apart = h.apart;
        each = take_out m (all_held views) (all_held (set views port w)) h.opened e h.each (swaps views port v w (e ∷ []) [] at more);
        parts = let s = sum_set claim_parts views port v w at in let p = h.parts in omega arith;
        fit = fit_set (FitsClaim h.opened) views port w (record { knows = λ _. same; spent = λ none. absurd (omega arith) }) (λ j u apart to. h.fit j u to);
      }

  -- a take that is given
  pub takes : {T : Type 0} (place : T → X) (port : ℕ) (v : Claim X) → 0 < v.parts
      → Pops (IsOnce place) port v (λ x w. (w ≡ claim v.parts v.opened (entry_of place x ∷ v.held)) × Contains v.opened (entry_of place x) × (times x.number v.held ≡ 0) × (length w.held ≤ length w.opened))
  takes place port v live x items views h at =
      let facts = taken_facts place port v x items views live h at in
      let held : List (Entry X) = entry_of place x ∷ v.held in
      let r : length (x ∷ items) + length v.held ≤ length v.opened = room place port v (x ∷ items) views live h at in
      (claim v.parts v.opened held, gives place port v x held items views live (IsPermutation-refl held) h at, (refl, facts.0, facts.1, omega (arith, r)))

  -- a take that is refused
  pub learns_empty : {T : Type 0} (place : T → X) (port : ℕ) (v : Claim X) → Learns (IsOnce place) port v (λ items. Unit {0})
  learns_empty place port v items views h at = tt

  -- a take of what is left, by the pass that has all parts
  pub drains : {T : Type 0} (place : T → X) (port : ℕ) (v : Claim X) → 0 < v.parts
      → Pops (IsOnce place) port v (λ x w. (w ≡ claim v.parts v.opened (v.held ++ entry_of place x ∷ [])) × (length w.held ≤ length w.opened))
  drains place port v live x items views h at =
      let e : Entry X = entry_of place x in
      let held : List (Entry X) = v.held ++ e ∷ [] in
      let r : length (x ∷ items) + length v.held ≤ length v.opened = room place port v (x ∷ items) views live h at in
      (claim v.parts v.opened held, gives place port v x held items views live (IsPermutation-sym held (e ∷ v.held) (IsPermutation-to_front v.held e)) h at, (refl, omega (arith, r, length-append v.held (e ∷ []))))

  -- the pass that has all parts knows what is in the queue
  pub totals : {T : Type 0} (place : T → X) (port : ℕ) (v : Claim X) → v.parts ≡ all_parts → Learns (IsOnce place) port v (λ items. IsPermutation (entries_of place items ++ v.held) v.opened)
  totals place port v whole items views h at =
      let same : v.opened ≡ h.opened = knows place port v items views (omega arith) h at in
      let held : all_held views ≡ v.held = held_alone views port v at (λ j u apart to. (h.fit j u to).spent (alone place port v items views whole h at j u apart to)) in
      subst (λ (l : List (Entry X)). IsPermutation (entries_of place items ++ l) v.opened) held (subst (IsPermutation (entries_of place items ++ all_held views)) (sym same) h.each)

  -- joining two passes
  pub joins : {T : Type 0} (place : T → X) (port : ℕ) (v : Claim X) (other : ℕ) (u : Claim X) → 0 < v.parts → Merges (IsOnce place) port v other u (claim (v.parts + u.parts) v.opened (v.held ++ u.held)) (claim 0 [] [])
  joins place port v other u live items views h at two at' =
      let both : Claim X = claim (v.parts + u.parts) v.opened (v.held ++ u.held) in
      let none : Claim X = claim 0 [] [] in
      let vs : List (Claim X) = set views port both in
      let us : List (Claim X) = set views other none in
      let m : List (Entry X) = entries_of place items in
      let same : v.opened ≡ h.opened = knows place port v items views live h at in
      let was : get_elem? views other ≡ some u = sym (set_else views port other both two) ∙ at' in
      let still : get_elem? us port ≡ some v = set_else views other port none (λ e. two (sym e)) ∙ at in
      let out : IsPermutation (all_held views) (u.held ++ all_held us) = swaps views other u none [] u.held was (subst (IsPermutation u.held) (sym (append-nil u.held)) (IsPermutation-refl u.held)) in
      let in' : IsPermutation (u.held ++ all_held us) (all_held (set us port both)) = swaps us port v both u.held [] still (IsPermutation-append_comm u.held v.held) in
      let moved : IsPermutation (all_held views) (all_held (set vs other none)) =
      subst (λ (l : List (Claim X)). IsPermutation (all_held views) (all_held l)) (set_comm views other port none both two) (IsPermutation-trans (all_held views) (u.held ++ all_held us) (all_held (set us port both)) out in') in
      record {
        opened = h.opened;
        apart = h.apart;
        each = same_in m (all_held views) (all_held (set vs other none)) h.opened h.each moved;
        parts = let s = sum_set claim_parts views port v both at in let t = sum_set claim_parts vs other u none at' in let p = h.parts in omega arith;
        fit = fit_set (FitsClaim h.opened) vs other none (record { knows = λ some. absurd (some refl); spent = λ _. refl })
            (λ j y apart to. fit_set (FitsClaim h.opened) views port both (record { knows = λ _. same; spent = λ zero. absurd (omega arith) }) (λ k z away to'. h.fit k z to') j y to);
      }
