-- The seats of a pool's threads before and after their turns.
use Rattle.std.proofs.Common.{◌≡◌, ◌≤◌, ◌<◌, ◌+◌, ℕ, zero, suc, List, [], ◌∷◌, ◌++◌, length, map, slice_index_or, take, drop, sym, refl, ap, ◌∙◌, subst, append_assoc, length-append, arith, Vec, IsPermutation}
use Rattle.std.specs.List.{All}
use Rattle.std.proofs.lemmas.List.{length-map, map-append}
use Rattle.std.proofs.lemmas.List.Elements.{All-cons, All-head, All-nil, All-tail}
use Rattle.std.proofs.lemmas.List.Sorted.{IsPermutation-append, IsPermutation-append_right, IsPermutation-refl, IsPermutation-trans, length_permutation}
use Rattle.std.proofs.lemmas.List.Sums.{sum_by-cons}
use Rattle.atomic_table.specs.Seated.{TableId}
use Rattle.pool_queue.specs.declared.claim.Entry.{Entry}
use Rattle.pool_queue.specs.declared.numbered.Numbered.{Numbered}
use Rattle.pool_queue.specs.Entries.{entry_of}
use Rattle.pool_queue.specs.Passes.{AreAllOf, Holding, IsOf, held_by, parts_in}
use Rattle.cedr_pool.specs.declared.seat.Seat.{Seat}
use Rattle.cedr_pool.specs.Seats.{HasEndedTasks, HasPlayed, HoldsNone, IsRowFor, IsSeated, all_rows, pass_of, row_of}
use Rattle.std.specs.Global.{Global}
use Rattle.cedr_pool.specs.Tasks.{tasks_entries}
use Rattle.cedr_pool.proofs.TaskLemmas.{entries_count}

module _ {W : Type 0} where
  -- at each seat turns were taken
  abbrev pub AllPlayed : List (Seat W) → List (Seat W) → Type 0
  AllPlayed [] [] = Unit {0}
  AllPlayed [] (n ∷ ns) = ⊥
  AllPlayed (o ∷ os) [] = ⊥
  AllPlayed (o ∷ os) (n ∷ ns) = HasPlayed o n × AllPlayed os ns

  still_played : (o : Seat W) → IsSeated o → HasPlayed o o
  still_played o seated = record { same = record { queue = refl; parts = refl; opened = refl }; row = seated.row }

  all_still : (os : List (Seat W)) → All IsSeated os → AllPlayed os (take (length os) os)
  all_still [] seated = tt
  all_still (o ∷ os) seated = (still_played o (All-head IsSeated o os seated), all_still os (All-tail IsSeated o os seated))

  -- what a seat is that was lent and given back: where fewer came back, the others are as they were
  pub back_each : (olds news : List (Seat W)) → All IsSeated olds → ((k : ℕ) (d : Seat W) → k < length olds → HasPlayed (slice_index_or olds k d) (slice_index_or news k d)) → AllPlayed olds (take (length olds) (news ++ drop (length news) olds))
  back_each [] news seated each = tt
  back_each (o ∷ os) [] seated each = (still_played o (All-head IsSeated o os seated), all_still os (All-tail IsSeated o os seated))
  back_each (o ∷ os) (n ∷ ns) seated each = (each 0 o (omega arith), back_each os ns (All-tail IsSeated o os seated) (λ k d within. each (suc k) d (omega (arith, within))))

  pub played_count : (olds news : List (Seat W)) → AllPlayed olds news → length news ≡ length olds
  played_count [] [] played = refl
  played_count [] (n ∷ ns) played = absurd played
  played_count (o ∷ os) [] played = absurd played
  played_count (o ∷ os) (n ∷ ns) played = ap suc (played_count os ns played.1)

  played_parts : (olds news : List (Seat W)) → AllPlayed olds news → parts_in (map pass_of news) ≡ parts_in (map pass_of olds)
  played_parts [] [] played = refl
  played_parts [] (n ∷ ns) played = absurd played
  played_parts (o ∷ os) [] played = absurd played
  played_parts (o ∷ os) (n ∷ ns) played =
      let parts : Holding W → ℕ = λ h. h.parts in
      omega (arith, sum_by-cons parts (pass_of o) (map pass_of os), sum_by-cons parts (pass_of n) (map pass_of ns), played.0.same.parts, played_parts os ns played.1)

  played_of : (queue : TableId) (opened : List (Entry W)) (olds news : List (Seat W)) → AllPlayed olds news → All (IsOf queue opened) (map pass_of olds) → All (IsOf queue opened) (map pass_of news)
  played_of queue opened [] [] played all = All-nil (IsOf queue opened)
  played_of queue opened [] (n ∷ ns) played all = absurd played
  played_of queue opened (o ∷ os) [] played all = absurd played
  played_of queue opened (o ∷ os) (n ∷ ns) played all =
      let same = played.0.same in
      let first = All-head (IsOf queue opened) (pass_of o) (map pass_of os) all in
      All-cons (IsOf queue opened) (pass_of n) (map pass_of ns) (same.queue ∙ first.0, same.opened ∙ first.1) (played_of queue opened os ns played.1 (All-tail (IsOf queue opened) (pass_of o) (map pass_of os) all))

  -- the passes are all of the queue still
  pub played_all : (opened : List (Entry W)) (olds news : List (Seat W)) → AllPlayed olds news → AreAllOf opened (map pass_of olds) → AreAllOf opened (map pass_of news)
  played_all opened olds news played all = record {
    queue = all.queue;
    same = played_of all.queue opened olds news played all.same;
    whole = played_parts olds news played ∙ all.whole;
  }

  -- and each holds what ended at its seat
  pub played_ended : (olds news : List (Seat W)) → AllPlayed olds news → All HasEndedTasks news
  played_ended [] [] played = All-nil HasEndedTasks
  played_ended [] (n ∷ ns) played = absurd played
  played_ended (o ∷ os) [] played = absurd played
  played_ended (o ∷ os) (n ∷ ns) played = All-cons HasEndedTasks n ns played.0.row (played_ended os ns played.1)

  -- what ended at all seats is what their passes hold
  pub rows_held : (seats : List (Seat W)) → All HasEndedTasks seats → IsPermutation (tasks_entries (all_rows (map row_of seats))) (held_by (map pass_of seats))
  rows_held [] ended = IsPermutation-refl []
  rows_held (s ∷ ss) ended =
      let first = All-head HasEndedTasks s ss ended in
      let others = rows_held ss (All-tail HasEndedTasks s ss ended) in
      subst (λ (l : List (Entry W)). IsPermutation l (s.pass.held ++ held_by (map pass_of ss))) (sym (map-append (entry_of (λ x. x)) s.row.items (all_rows (map row_of ss))))
      (IsPermutation-append (tasks_entries s.row.items) s.pass.held (tasks_entries (all_rows (map row_of ss))) (held_by (map pass_of ss)) first others)

  -- with what was left in the queue these are all that were opened
  all_back : (opened : List (Entry W)) (left : List (Numbered W)) (seats : List (Seat W)) → All HasEndedTasks seats → IsPermutation (tasks_entries left ++ held_by (map pass_of seats)) opened → IsPermutation (tasks_entries (left ++ all_rows (map row_of seats))) opened
  all_back opened left seats ended all =
      let rows = all_rows (map row_of seats) in
      subst (λ (l : List (Entry W)). IsPermutation l opened) (sym (map-append (entry_of (λ x. x)) left rows))
      (IsPermutation-trans (tasks_entries left ++ tasks_entries rows) (tasks_entries left ++ held_by (map pass_of seats)) opened (IsPermutation-append_right (tasks_entries left) (tasks_entries rows) (held_by (map pass_of seats)) (rows_held seats ended)) all)

  -- by what the calls say of them
  pub gathered : (opened : List (Entry W)) (left : List (Numbered W)) (seats : List (Seat W)) (passes : List (Holding W)) (now : List (Numbered W)) (rows : List (Vec (Numbered W) Global)) (after : List (Numbered W))
      → All HasEndedTasks seats → passes ≡ map pass_of seats → rows ≡ map row_of seats → now ≡ left → IsPermutation (tasks_entries left ++ held_by passes) opened → after ≡ now ++ all_rows rows → IsPermutation (tasks_entries after) opened
  gathered opened left seats passes now rows after ended passes_are rows_are now_is all is =
      let back : IsPermutation (tasks_entries (left ++ all_rows (map row_of seats))) opened = all_back opened left seats ended (subst (λ (ps : List (Holding W)). IsPermutation (tasks_entries left ++ held_by ps) opened) passes_are all) in
      let same : after ≡ left ++ all_rows (map row_of seats) = is ∙ (ap (λ (l : List (Numbered W)). l ++ all_rows rows) now_is ∙ ap (λ (rs : List (Vec (Numbered W) Global)). left ++ all_rows rs) rows_are) in
      subst (λ (l : List (Numbered W)). IsPermutation (tasks_entries l) opened) (sym same) back

  -- there is room for all
  pub gather_room : (opened : List (Entry W)) (left : List (Numbered W)) (seats : List (Seat W)) (passes : List (Holding W)) (capacity : ℕ) → All HasEndedTasks seats → passes ≡ map pass_of seats → IsPermutation (tasks_entries left ++ held_by passes) opened → length opened ≤ capacity → length left + length (all_rows (map row_of seats)) ≤ capacity
  gather_room opened left seats passes capacity ended passes_are all fits =
      let rows = all_rows (map row_of seats) in
      let back : IsPermutation (tasks_entries (left ++ rows)) opened = all_back opened left seats ended (subst (λ (ps : List (Holding W)). IsPermutation (tasks_entries left ++ held_by ps) opened) passes_are all) in
      omega (arith, fits, length_permutation (tasks_entries (left ++ rows)) opened back, entries_count (left ++ rows), length-append left rows)

  -- new passes hold nothing
  pub all_hold_none : (opened : List (Entry W)) (passes : List (Holding W)) (size : ℕ) → AreAllOf opened passes → All (λ (p : Holding W). (p.held ≡ []) × (p.refused ≡ 0)) passes → length opened ≤ size → All (HoldsNone size) passes
  all_hold_none opened passes size all new few = λ k d within. ((new k d within).0, let same = ap length (all.same k d within).1 in omega (arith, same, few))

  -- the first pass and the first row make a seat
  pub first_seated : (size : ℕ) (left left' : List (Holding W)) (rows rows' : List (Vec (Numbered W) Global)) (s : Seat W) → All (HoldsNone size) left → All (IsRowFor size) rows → left ≡ pass_of s ∷ left' → rows ≡ row_of s ∷ rows' → IsSeated s
  first_seated size left left' rows rows' s none empty is row =
      let pass = All-head (HoldsNone size) (pass_of s) left' (subst (All (HoldsNone size)) is none) in
      let first = All-head (IsRowFor size) (row_of s) rows' (subst (All (IsRowFor size)) row empty) in
      record {
        row = subst (λ (l : List (Numbered W)). IsPermutation (tasks_entries l) s.pass.held) (sym first.0) (subst (IsPermutation []) (sym pass.0) (IsPermutation-refl []));
        room = omega (arith, pass.1, first.1);
      }

  -- and the others wait
  pub others_wait : (size : ℕ) (left left' : List (Holding W)) (p : Holding W) (rows rows' : List (Vec (Numbered W) Global)) (r : Vec (Numbered W) Global) → All (HoldsNone size) left → All (IsRowFor size) rows → left ≡ p ∷ left' → rows ≡ r ∷ rows' → All (HoldsNone size) left' × All (IsRowFor size) rows'
  others_wait size left left' p rows rows' r none empty is row = (All-tail (HoldsNone size) p left' (subst (All (HoldsNone size)) is none), All-tail (IsRowFor size) r rows' (subst (All (IsRowFor size)) row empty))

  -- with one seat more
  pub seats_more : (all : List (Holding W)) (seats seats' : List (Seat W)) (left left' : List (Holding W)) (p : Holding W) (s : Seat W) → map pass_of seats ++ left ≡ all → left ≡ p ∷ left' → seats' ≡ seats ++ s ∷ [] → pass_of s ≡ p → map pass_of seats' ++ left' ≡ all
  seats_more all seats seats' left left' p s so is more same =
      ap (λ (l : List (Seat W)). map pass_of l ++ left') more
      ∙ (ap (λ (l : List (Holding W)). l ++ left') (map-append pass_of seats (s ∷ []))
      ∙ (append_assoc (map pass_of seats) (pass_of s ∷ []) left'
      ∙ (ap (λ (q : Holding W). map pass_of seats ++ q ∷ left') same
      ∙ (ap (λ (l : List (Holding W)). map pass_of seats ++ l) (sym is) ∙ so))))

  pub seats_room : (all : List (Holding W)) (seats : List (Seat W)) (left left' : List (Holding W)) (p : Holding W) (size capacity : ℕ) → map pass_of seats ++ left ≡ all → left ≡ p ∷ left' → length all ≤ size → capacity ≡ size → length seats < capacity
  seats_room all seats left left' p size capacity so is room same =
      omega (arith, ap length so, ap length is, room, same, length-append (map pass_of seats) left, length-map seats pass_of)
