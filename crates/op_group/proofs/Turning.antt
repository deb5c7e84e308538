-- Of a group's result only the rows between two times change.
use Rattle.std.proofs.Common.{◌≡◌, ℕ, ◌+◌, ◌<◌, ◌≤◌, ◌⊎◌, inl, inr, List, [], ◌∷◌, Bool, true, false, cond, None, refl, ap, sym, ◌∙◌, subst, arith}
use Rattle.std.specs.Prelude.{nat_eq, nat_lt, sum_by, is_some}
use Rattle.std.proofs.lemmas.Bool.{cases_lt, lt-ltb}
use Rattle.cedr_base.specs.declared.time.TheConstants.{FOREVER}
use Rattle.cedr_base.specs.declared.field.Field.{Field}
use Rattle.cedr_base.specs.declared.row.Row.{Row}
use Rattle.cedr_base.specs.declared.change.Change.{Change}
use Rattle.cedr_base.specs.Rows.{IsRow, AreRows, count_of}
use Rattle.cedr_base.specs.declared.change.Change.TheVariants.{Add, Cut}
use Rattle.cedr_base.specs.Changes.{IsChange, sync_of, takes}
use Rattle.change_laws.specs.Repairs.{IsMoved}
use Rattle.change_laws.proofs.Moves.{sum_by-moved}
use Rattle.op_group.specs.declared.segment.Segment.{Segment}
use Rattle.op_group.specs.declared.segment.Totalled.{Totalled}
use Rattle.op_group.specs.Groups.{segments}
use Rattle.op_group.specs.Tallies.{Tally}
use Rattle.op_group.specs.Cuts.{segment_at, rows_of_cuts, IsFirstTouched, IsLastTouched, edges_in, edges_taken, one_at}
use Rattle.op_group.specs.Measures.{edge_at, part_at, edges_of, living_of, tally_of, Ascends, Fits, is_cut_of}
use Rattle.op_group.specs.TimeLaws.{below_test, above_test, same_count, false_not_true}
use Rattle.op_group.specs.SegmentLaws.{fits_alike, segment_fits, fits_segment, tally_is}
use Rattle.op_group.specs.LawWords.{last_time, Untouched, Outside, Aside}
use Rattle.op_group.specs.BoundLaws.{untouched_sums, edges_untouched, parts_untouched, outside_aside}
use Rattle.op_group.specs.State.{ShowsFrom, grouping_asked, Turned}
use Rattle.cedr_table.proofs.RowsLemmas.{first_is, others_are}
use Rattle.op_group.proofs.SinceLemmas.{Starts, cut_is, some_cut, low_cut, edges_shown, gone_before}
use Rattle.op_group.proofs.Regions.{times_of, between, found_is, found_within, found_none}

still : (w : Row → ℕ) (c : Change) (old new : List Row) → IsMoved c old new → Untouched w c → sum_by w old ≡ sum_by w new
still w c old new moved untouched = omega (arith, sum_by-moved w c old new moved.sums, untouched_sums w c untouched)

-- aside from the times that a change touches as many of a group's rows are valid, with the same totals
group_aside : (asked : Totalled) (c : Change) (old new : List Row) (t : ℕ) → IsChange c → IsMoved c old new → Aside c t → (living_of old t ≡ living_of new t) × (tally_of asked old t ≡ tally_of asked new t)
group_aside asked c old new t is moved aside = (
  still (part_at (λ _. 1) t) c old new moved (parts_untouched (λ _. 1) (λ r e. refl) t c is aside),
  tally_is asked t t old new (λ w. still (part_at (λ (r : Row). w r.payload) t) c old new moved (parts_untouched (λ (r : Row). w r.payload) (λ r e. refl) t c is aside)),
)

-- outside the times that a change touches a group's rows count the same
pub group_outside : (asked : Totalled) (c : Change) (old new : List Row) (t : ℕ) → IsChange c → IsMoved c old new → Outside c t → (edges_of old t ≡ edges_of new t) × (living_of old t ≡ living_of new t) × (tally_of asked old t ≡ tally_of asked new t)
group_outside asked c old new t is moved outside =
    let valid = group_aside asked c old new t is moved (outside_aside c t outside) in
    (still (edge_at t) c old new moved (edges_untouched t c is outside), valid.0, valid.1)

one_end_at : (begin end t : ℕ) → begin < end → one_at begin t + one_at end t ≤ 1
one_end_at begin end t less = elim (cases_lt begin t) [
  | inl over ↦ let none = Rattle.op_group.specs.TimeLaws.one_elsewhere begin t (below_test begin t over) in at_most (nat_eq end t) none
  | inr not_over ↦
      let none = Rattle.op_group.specs.TimeLaws.one_elsewhere end t (above_test end t (omega arith)) in at_most_first (nat_eq begin t) none
]
  where
    at_most : (b : Bool) → one_at begin t ≡ 0 → one_at begin t + cond b 1 0 ≤ 1
    at_most true none = omega (arith, none)
    at_most false none = omega (arith, none)

    at_most_first : (b : Bool) → one_at end t ≡ 0 → cond b 1 0 + one_at end t ≤ 1
    at_most_first true none = omega (arith, none)
    at_most_first false none = omega (arith, none)

-- a change takes away no more begins and ends at one time than it may
taken_at : (t : ℕ) (c : Change) → IsChange c → sum_by (edge_at t) (takes c) ≤ edges_taken c
taken_at t (Add a) is = omega arith
taken_at t (Cut a e) is = omega (arith, one_end_at a.begin a.end t is.0.lives)

-- where more begins and ends stand than a change takes away some stay
some_stay : (c : Change) (old new : List Row) (t : ℕ) → IsChange c → IsMoved c old new → edges_taken c < edges_of old t → 0 < edges_of new t
some_stay c old new t is moved more = omega (arith, more, taken_at t c is, sum_by-moved (edge_at t) c old new moved.sums)

-- the cut points from the begin of a row to its end are those of both tables, and its begin is aside
record IsApart (c : Change) (old new : List Row) (r : Row) : Type 0 where
  cuts : (t : ℕ) → r.begin ≤ t → t ≤ r.end → is_cut_of old t ≡ is_cut_of new t
  begins : Aside c r.begin

module _ (counted : Bool) (asked : Totalled) (key : List Field) (c : Change) (old new : List Row) (is : IsChange c) (moved : IsMoved c old new) where
  -- such a row is made of both or of none
  same_made : (r : Row) → IsApart c old new r → count_of r (segments (grouping_asked counted asked) key old) ≡ count_of r (segments (grouping_asked counted asked) key new)
  same_made r apart =
      let first = group_aside asked c old new r.begin is moved apart.begins in
      same_count (count_of r (segments (grouping_asked counted asked) key old)) (count_of r (segments (grouping_asked counted asked) key new))
      (λ there.
      fits_segment (grouping_asked counted asked) key new r (fits_alike counted key (living_of old) (living_of new) (tally_of asked old) (tally_of asked new) (is_cut_of old) (is_cut_of new) r
      (λ t over under. apart.cuts t over under) first.0 first.1 (segment_fits (grouping_asked counted asked) key old r there)))
      (λ there.
      fits_segment (grouping_asked counted asked) key old r (fits_alike counted key (living_of new) (living_of old) (tally_of asked new) (tally_of asked old) (is_cut_of new) (is_cut_of old) r
      (λ t over under. sym (apart.cuts t over under)) (sym first.0) (sym first.1) (segment_fits (grouping_asked counted asked) key new r there)))

between_before : (counted : Bool) (key : List Field) (living : ℕ → ℕ) (tally : ℕ → Tally) (is_cut : ℕ → Bool) (r : Row) (lo : ℕ) → Fits counted key living tally is_cut r → is_cut lo ≡ true → r.begin < lo → r.end ≤ lo
between_before counted key living tally is_cut r lo fits cut less = elim (cases_lt lo r.end) [
  | inl over ↦ absurd (false_not_true (is_cut lo) (fits.apart lo less over) cut)
  | inr not_over ↦ not_over
]

between_after : (counted : Bool) (key : List Field) (living : ℕ → ℕ) (tally : ℕ → Tally) (is_cut : ℕ → Bool) (r : Row) (hi : ℕ) → Fits counted key living tally is_cut r → is_cut hi ≡ true → hi < r.end → hi ≤ r.begin
between_after counted key living tally is_cut r hi fits cut over = elim (cases_lt r.begin hi) [
  | inl less ↦ absurd (false_not_true (is_cut hi) (fits.apart hi less over) cut)
  | inr not_less ↦ not_less
]

one_edge : (t : ℕ) (x : Row) → IsRow x → 0 < edge_at t x → t ≤ FOREVER
one_edge t x is some = elim (cases_lt FOREVER t) [
  | inl over ↦
      let begins = is.begins in
      let ends = is.ends in
      absurd (omega (arith, some, Rattle.op_group.specs.TimeLaws.one_elsewhere x.begin t (below_test x.begin t (omega arith)), Rattle.op_group.specs.TimeLaws.one_elsewhere x.end t (below_test x.end t (omega arith))))
  | inr time ↦ time
]

-- begins and ends are times
pub edges_are_times : (rows : List Row) (t : ℕ) → AreRows rows → is_cut_of rows t ≡ true → t ≤ FOREVER
edges_are_times rows t are cut = within_rows rows are (Rattle.std.proofs.lemmas.Bool.ltb-true 0 (edges_of rows t) cut)
  where
    within_rows : (rows : List Row) → AreRows rows → 0 < edges_of rows t → t ≤ FOREVER
    within_rows [] are some = absurd (omega arith)
    within_rows (x ∷ rows) are some = elim (cases_lt 0 (edge_at t x)) [
      | inl here ↦ one_edge t x (first_is x rows are) here
      | inr not_here ↦ within_rows rows (others_are x rows are) (omega (arith, some, not_here, Rattle.std.proofs.lemmas.List.Sums.sum_by-cons (edge_at t) x rows))
    ]

module _ (counted : Bool) (asked : Totalled) (key : List Field) (c : Change) (old new : List Row) (cuts cuts' : List (ℕ × Segment)) (lo hi : ℕ)
    (is : IsChange c) (moved : IsMoved c old new) (old_rows : AreRows old) (new_rows : AreRows new)
    (up : Ascends (times_of cuts)) (up' : Ascends (times_of cuts')) (mark from : ℕ) (shows : ShowsFrom asked mark from cuts old) (shows' : ShowsFrom asked mark from cuts' new)
    (first : IsFirstTouched cuts (sync_of c) (edges_taken c) lo) (last : IsLastTouched cuts (last_time c) (edges_taken c) hi) (late : mark ≤ sync_of c) where
  -- a cut point at which more begins and ends stand than the change takes away is one of both tables
  kept_cut : (t : ℕ) → edges_taken c < edges_in (segment_at t cuts) → (from ≤ t) × (is_cut_of old t ≡ true) × (is_cut_of new t ≡ true)
  kept_cut t more =
      let some = edges_shown asked mark from cuts old t (edges_taken c) shows more in
      (some.0, lt-ltb 0 (edges_of old t) (let x = some.1 in omega arith), lt-ltb 0 (edges_of new t) (some_stay c old new t is moved some.1))

  -- the first of the two times is shown
  low : from ≤ lo
  low = elim first [
    | inl kept ↦ (kept_cut lo kept.1).0
    | inr before ↦ elim before.there [
      | inl none ↦ let below = shows.below in omega (arith, none.0)
      | inr there ↦ low_cut asked mark from cuts old lo shows there.0
    ]
  ]

  -- a cut point that no change touches is one of both tables
  still_cut : (t : ℕ) → Outside c t → is_cut_of old t ≡ is_cut_of new t
  still_cut t outside = ap (nat_lt 0) (group_outside asked c old new t is moved outside).0

  -- a row that has no time which a change touches
  apart_outside : (r : Row) → r.begin ≤ r.end → ((t : ℕ) → r.begin ≤ t → t ≤ r.end → Outside c t) → IsApart c old new r
  apart_outside r order outside = record {
    cuts = λ t over under. still_cut t (outside t over under);
    begins = outside_aside c r.begin (outside r.begin (omega arith) order);
  }

  -- a row that ends no later than at a cut point that stays, where the change is seen
  apart_before : (r : Row) → edges_taken c < edges_in (segment_at (sync_of c) cuts) → r.begin < sync_of c → r.end ≤ sync_of c → IsApart c old new r
  apart_before r kept begins ends =
      let both = kept_cut (sync_of c) kept in
      record {
        cuts = λ t over under. elim (cases_lt t (sync_of c)) [
          | inl less ↦ still_cut t (inl less)
          | inr not_less ↦ let here : sync_of c ≡ t = omega arith in subst (λ (n : ℕ). is_cut_of old n ≡ is_cut_of new n) here (both.1 ∙ sym both.2)
        ];
        begins = inl begins;
      }

  -- a row that begins no earlier than at a cut point that stays, at the last time that the change touches
  apart_after : (r : Row) → edges_taken c < edges_in (segment_at (last_time c) cuts) → last_time c ≤ r.begin → IsApart c old new r
  apart_after r kept begins =
      let both = kept_cut (last_time c) kept in
      record {
        cuts = λ t over under. elim (cases_lt (last_time c) t) [
          | inl more ↦ still_cut t (inr more)
          | inr not_more ↦ let here : last_time c ≡ t = omega arith in subst (λ (n : ℕ). is_cut_of old n ≡ is_cut_of new n) here (both.1 ∙ sym both.2)
        ];
        begins = inr begins;
      }

  -- where the group has no cut point before the change, a row that begins before it ends before it
  early_all : (r : Row) (rows : List Row) → ((t : ℕ) → Outside c t → is_cut_of old t ≡ is_cut_of rows t) → Starts rows mark from → Fits counted key (living_of rows) (tally_of asked rows) (is_cut_of rows) r → ((u : ℕ) → u < sync_of c → segment_at u cuts ≡ None) → r.begin < sync_of c → (t : ℕ) → r.begin ≤ t → t ≤ r.end → Outside c t
  early_all r rows same starts fits none under t over within_end = elim (cases_lt r.begin from) [
    | inl gone ↦ let ends = gone_before counted asked key rows mark from r starts shows.below fits gone in inl (omega arith)
    | inr there ↦
        let cut : is_some (segment_at r.begin cuts) ≡ true = cut_is asked mark from cuts old r.begin shows there ∙ (same r.begin (inl under) ∙ fits.starts) in
        absurd (false_not_true (is_some (segment_at r.begin cuts)) (ap (λ o. is_some o) (none r.begin under)) cut)
  ]

  -- a row that isn't between the two times stays what it is
  others_apart : (rows : List Row) (r : Row) → ((t : ℕ) → Outside c t → is_cut_of old t ≡ is_cut_of rows t) → ((t : ℕ) → edges_taken c < edges_in (segment_at t cuts) → is_cut_of rows t ≡ true) → Starts rows mark from → AreRows rows → Fits counted key (living_of rows) (tally_of asked rows) (is_cut_of rows) r → (r.begin < lo) ⊎ (hi < r.end) → IsApart c old new r
  others_apart rows r same kept_there starts are fits (inl under) =
      let order = fits.order in
      elim first [
        | inl kept ↦
            let at = kept.0 in
            let ends = between_before counted key (living_of rows) (tally_of asked rows) (is_cut_of rows) r lo fits (kept_there lo kept.1) under in
            apart_before r (subst (λ (n : ℕ). edges_taken c < edges_in (segment_at n cuts)) at kept.1) (omega arith) (omega arith)
        | inr before ↦ elim before.there [
          | inl none ↦ apart_outside r (omega arith) (early_all r rows same starts fits none.1 (omega (arith, none.0)))
          | inr there ↦
              let less = there.1 in
              let ends = between_before counted key (living_of rows) (tally_of asked rows) (is_cut_of rows) r lo fits (sym (same lo (inl less)) ∙ some_cut asked mark from cuts old lo shows there.0) under in
              apart_outside r (omega arith) (λ t over within_end. inl (omega arith))
        ]
      ]
  others_apart rows r same kept_there starts are fits (inr over) =
      let order = fits.order in
      elim last [
        | inl kept ↦
            let at = kept.0 in
            let begins = between_after counted key (living_of rows) (tally_of asked rows) (is_cut_of rows) r hi fits (kept_there hi kept.1) over in
            apart_after r (subst (λ (n : ℕ). edges_taken c < edges_in (segment_at n cuts)) at kept.1) (omega arith)
        | inr next ↦ elim next.there [
          | inl most ↦ let time = edges_are_times rows r.end are fits.ends in absurd (omega arith)
          | inr there ↦
              let after = next.after in
              let begins = between_after counted key (living_of rows) (tally_of asked rows) (is_cut_of rows) r hi fits (sym (same hi (inr (omega arith))) ∙ some_cut asked mark from cuts old hi shows there) over in
              apart_outside r (omega arith) (λ t from_begin within_end. inr (omega arith))
        ]
      ]

  apart_same : (r : Row) → (r.begin < lo) ⊎ (hi < r.end) → count_of r (segments (grouping_asked counted asked) key old) ≡ count_of r (segments (grouping_asked counted asked) key new)
  apart_same r apart = elim (cases_lt 0 (count_of r (segments (grouping_asked counted asked) key old))) [
    | inl there ↦ same_made counted asked key c old new is moved r (others_apart old r (λ t outside. refl) (λ t more. (kept_cut t more).1) shows.starts old_rows (segment_fits (grouping_asked counted asked) key old r there) apart)
    | inr none ↦ elim (cases_lt 0 (count_of r (segments (grouping_asked counted asked) key new))) [
      | inl there ↦ same_made counted asked key c old new is moved r (others_apart new r still_cut (λ t more. (kept_cut t more).2) shows'.starts new_rows (segment_fits (grouping_asked counted asked) key new r there) apart)
      | inr nothing ↦ omega arith
    ]
  ]

  apart_sums : (r : Row) → (r.begin < lo) ⊎ (hi < r.end) → count_of r (segments (grouping_asked counted asked) key new) + count_of r (rows_of_cuts counted key (between lo hi cuts)) ≡ count_of r (segments (grouping_asked counted asked) key old) + count_of r (rows_of_cuts counted key (between lo hi cuts'))
  apart_sums r apart =
      let outside : (lo ≤ r.begin) × (r.end ≤ hi) → ⊥ = λ h. elim apart [ inl under ↦ (let x = h.0 in omega arith) | inr over ↦ (let x = h.1 in omega arith) ] in
      omega (arith, apart_same r apart, found_none counted asked key cuts old lo hi mark from up shows low r outside, found_none counted asked key cuts' new lo hi mark from up' shows' low r outside)

  others_stay : (r : Row) → count_of r (segments (grouping_asked counted asked) key new) + count_of r (rows_of_cuts counted key (between lo hi cuts)) ≡ count_of r (segments (grouping_asked counted asked) key old) + count_of r (rows_of_cuts counted key (between lo hi cuts'))
  others_stay r = elim (cases_lt r.begin lo) [
    | inl under ↦ apart_sums r (inl under)
    | inr begins ↦ elim (cases_lt hi r.end) [
      | inl over ↦ apart_sums r (inr over)
      | inr ends ↦ omega (arith, found_is counted asked key cuts old lo hi mark from up shows low r begins ends, found_is counted asked key cuts' new lo hi mark from up' shows' low r begins ends)
    ]
  ]

  found_most : (cuts0 : List (ℕ × Segment)) (rows : List Row) → Ascends (times_of cuts0) → ShowsFrom asked mark from cuts0 rows → (r : Row) → count_of r (rows_of_cuts counted key (between lo hi cuts0)) ≤ count_of r (segments (grouping_asked counted asked) key rows)
  found_most cuts0 rows up0 shows0 r = elim (cases_lt 0 (count_of r (rows_of_cuts counted key (between lo hi cuts0)))) [
    | inl there ↦ let place = found_within counted asked key cuts0 rows lo hi mark from up0 shows0 low r there in omega (arith, found_is counted asked key cuts0 rows lo hi mark from up0 shows0 low r place.0 place.1)
    | inr none ↦ omega arith
  ]

  -- only the rows between the two times may change
  pub turned_between : Turned counted asked key old new (rows_of_cuts counted key (between lo hi cuts)) (rows_of_cuts counted key (between lo hi cuts'))
  turned_between = record {
    some_old = λ r. found_most cuts old up shows r;
    some_new = λ r. found_most cuts' new up' shows' r;
    others = others_stay;
  }
