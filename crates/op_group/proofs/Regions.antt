-- The rows of the result between two times, before a change and after it.
use Rattle.std.proofs.Common.{◌≡◌, ℕ, suc, zero, ◌+◌, ◌<◌, ◌≤◌, inl, inr, List, [], ◌∷◌, ◌++◌, Bool, true, false, cond, Option, Some, None, get_or, refl, ap, sym, ◌∙◌, subst, arith}
use Rattle.std.specs.Prelude.{nat_eq, ◌&&◌, not, map, is_some}
use Rattle.std.specs.List.{filter, AllByRecursion}
use Rattle.std.specs.List.Sorted.{IsSorted, IsStrictlySortedBy}
use Rattle.std.specs.Map.{lookup, keys_of}
use Rattle.std.specs.BTreeMap.{is_at}
use Rattle.std.specs.BTreeMap.Range.{entries_between, range_contains}
use Rattle.std.specs.Ordering.{nat_cmp, is_lt, is_le, is_eq}
use Rattle.std.specs.declared.cmp.Ordering.TheVariants.{Less}
use Rattle.std.specs.declared.ops.Bound.TheVariants.{Included}
use Rattle.std.proofs.lemmas.Bool.{cases_lt, eq-eqb, eqb-true}
use Rattle.std.proofs.lemmas.Map.Entries.{lookup-filter-keys}
use Rattle.cedr_base.specs.declared.field.Field.{Field}
use Rattle.cedr_base.specs.declared.row.Row.{Row}
use Rattle.cedr_base.specs.Rows.{row_cmp, count_of}
use Rattle.op_group.specs.declared.segment.Segment.{Segment}
use Rattle.op_group.specs.declared.segment.Totalled.{Totalled}
use Rattle.op_group.specs.Groups.{segments}
use Rattle.op_group.specs.Tallies.{Tally}
use Rattle.op_group.specs.Cuts.{segment_at, totals, row_begun, ended_at, rows_after, rows_of_cuts}
use Rattle.op_group.specs.Measures.{living_of, tally_of, among, AllAbove, Ascends, row_from, one_row, rows_at, Fits, is_cut_of}
use Rattle.op_group.specs.TimeLaws.{above_test, same_count, false_not_true}
use Rattle.op_group.specs.CutLaws.{above_among, fits_from_there, there_from_fits}
use Rattle.op_group.specs.SegmentLaws.{fits_alike, segment_fits, fits_segment}
use Rattle.op_group.specs.State.{ShowsFrom, grouping_asked}
use Rattle.op_group.proofs.Times.{at_is, lt_cmp, gt_cmp, cmp_lt, not_lt_cmp}
use Rattle.op_group.proofs.SinceLemmas.{cut_is, cut_shown}

-- the times of entries
abbrev pub times_of : List (ℕ × Segment) → List ℕ
times_of cuts = map (λ e. e.0) cuts

all_above : (t : ℕ) (cuts : List (ℕ × Segment)) → AllByRecursion (λ u. nat_cmp t u ≡ Less) (keys_of cuts) → AllAbove t (times_of cuts)
all_above t [] h = tt
all_above t (e ∷ cuts) h = (cmp_lt t e.0 h.0, all_above t cuts h.1)

-- the times of a map ascend
pub times_ascend : (cuts : List (ℕ × Segment)) → IsStrictlySortedBy nat_cmp (keys_of cuts) → Ascends (times_of cuts)
unfolding IsStrictlySortedBy
times_ascend [] h = tt
times_ascend (e ∷ cuts) h = (all_above e.0 cuts h.0, times_ascend cuts h.1)

module _ (p : ℕ → Bool) where
  abbrev chosen : List (ℕ × Segment) → List (ℕ × Segment)
  chosen cuts = filter (λ e. p e.0) cuts

  above_kept_at : (t : ℕ) (e : ℕ × Segment) (cuts : List (ℕ × Segment)) (b : Bool) → t < e.0 → AllAbove t (times_of (chosen cuts)) → AllAbove t (times_of (cond b (e ∷ chosen cuts) (chosen cuts)))
  above_kept_at t e cuts true h rest = (h, rest)
  above_kept_at t e cuts false h rest = rest

  above_kept : (t : ℕ) (cuts : List (ℕ × Segment)) → AllAbove t (times_of cuts) → AllAbove t (times_of (chosen cuts))
  above_kept t [] h = tt
  above_kept t (e ∷ cuts) h = above_kept_at t e cuts (p e.0) h.0 (above_kept t cuts h.1)

  ascend_kept_at : (e : ℕ × Segment) (cuts : List (ℕ × Segment)) (b : Bool) → AllAbove e.0 (times_of (chosen cuts)) → Ascends (times_of (chosen cuts)) → Ascends (times_of (cond b (e ∷ chosen cuts) (chosen cuts)))
  ascend_kept_at e cuts true above up = (above, up)
  ascend_kept_at e cuts false above up = up

  -- chosen times ascend
  pub ascend_kept : (cuts : List (ℕ × Segment)) → Ascends (times_of cuts) → Ascends (times_of (chosen cuts))
  ascend_kept [] up = tt
  ascend_kept (e ∷ cuts) up = ascend_kept_at e cuts (p e.0) (above_kept e.0 cuts up.0) (ascend_kept cuts up.1)

module _ (living : ℕ → ℕ) (tally : ℕ → Tally) where
  -- each segment has what is valid at its time
  abbrev AllAgree : List (ℕ × Segment) → Type 0
  AllAgree [] = Unit {0}
  AllAgree (e ∷ cuts) = ((e.1.living ≡ living e.0) × (e.1.totals ≡ tally e.0)) × AllAgree cuts

  agree_kept_at : (p : ℕ → Bool) (e : ℕ × Segment) (cuts : List (ℕ × Segment)) (b : Bool) → (e.1.living ≡ living e.0) × (e.1.totals ≡ tally e.0) → AllAgree (chosen p cuts) → AllAgree (cond b (e ∷ chosen p cuts) (chosen p cuts))
  agree_kept_at p e cuts true h rest = (h, rest)
  agree_kept_at p e cuts false h rest = rest

  agree_kept : (p : ℕ → Bool) (cuts : List (ℕ × Segment)) → AllAgree cuts → AllAgree (chosen p cuts)
  agree_kept p [] h = tt
  agree_kept p (e ∷ cuts) h = agree_kept_at p e cuts (p e.0) h.0 (agree_kept p cuts h.1)

  ended_is : (counted : Bool) (key : List Field) (p q : ℕ) (s : Segment) (b : Bool) → nat_eq s.living 0 ≡ b → s.living ≡ living p → s.totals ≡ tally p → ended_at (cond b None (Some (p, key ++ totals counted s.living s.totals))) q ≡ cond b [] (row_from counted key living tally p q ∷ [])
  ended_is counted key p q s true h e f = refl
  ended_is counted key p q s false h e f = ap (λ n. record { end = q; begin = p; payload = key ++ totals counted n s.totals } ∷ []) e ∙ ap (λ ns. record { end = q; begin = p; payload = key ++ totals counted (living p) ns } ∷ []) f

  ended_one : (counted : Bool) (key : List Field) (p q : ℕ) (s : Segment) → s.living ≡ living p → s.totals ≡ tally p → ended_at (row_begun counted key p s) q ≡ one_row counted key living tally p q
  ended_one counted key p q s e f = ended_is counted key p q s (nat_eq s.living 0) refl e f ∙ ap {B = List Row} (λ n. cond (nat_eq n 0) [] (row_from counted key living tally p q ∷ [])) e

  after_first : (counted : Bool) (key : List Field) (p : ℕ) (s : Segment) (cuts : List (ℕ × Segment)) → s.living ≡ living p → s.totals ≡ tally p → AllAgree cuts → rows_after counted key (row_begun counted key p s) cuts ≡ rows_at counted key living tally (p ∷ times_of cuts)
  after_first counted key p s [] e f agree = refl
  after_first counted key p s (c ∷ cuts) e f agree =
      ap (λ rows. rows ++ rows_after counted key (row_begun counted key c.0 c.1) cuts) (ended_one counted key p c.0 s e f)
      ∙ ap (λ rows. one_row counted key living tally p c.0 ++ rows) (after_first counted key c.0 c.1 cuts agree.0.0 agree.0.1 agree.1)

  -- the rows of entries are those between their times
  rows_are : (counted : Bool) (key : List Field) (cuts : List (ℕ × Segment)) → AllAgree cuts → rows_of_cuts counted key cuts ≡ rows_at counted key living tally (times_of cuts)
  rows_are counted key [] agree = refl
  rows_are counted key (c ∷ cuts) agree = after_first counted key c.0 c.1 cuts agree.0.0 agree.0.1 agree.1

found_at : (b : Bool) (s : Segment) (o : Option Segment) (rest : Bool) → rest ≡ is_some o → cond b true rest ≡ is_some (cond b (Some s) o)
found_at true s o rest h = refl
found_at false s o rest h = h

-- a time is among those of entries where a map finds it
pub among_times : (t : ℕ) (cuts : List (ℕ × Segment)) → among t (times_of cuts) ≡ is_some (segment_at t cuts)
among_times t [] = refl
among_times t (e ∷ cuts) = found_at (nat_eq t e.0) e.1 (segment_at t cuts) (among t (times_of cuts)) (among_times t cuts) ∙ ap (λ b. is_some (cond b (Some e.1) (segment_at t cuts))) (sym (at_is t e.0))

-- a map has its first entry at that entry's time
pub head_found : (t : ℕ) (s : Segment) (cuts : List (ℕ × Segment)) → segment_at t ((t, s) ∷ cuts) ≡ Some s
head_found t s cuts = ap (λ b. cond b (Some s) (segment_at t cuts)) (at_is t t ∙ eq-eqb t t refl)

-- what is found among entries is found with an earlier entry in front of them, too
pub tail_found : (t p : ℕ) (s s0 : Segment) (cuts : List (ℕ × Segment)) → AllAbove p (times_of cuts) → segment_at t cuts ≡ Some s → segment_at t ((p, s0) ∷ cuts) ≡ Some s
tail_found t p s s0 cuts above found =
    let over = above_among p t (times_of cuts) above (among_times t cuts ∙ ap (λ o. is_some o) found) in
    ap (λ b. cond b (Some s0) (segment_at t cuts)) (at_is t p ∙ above_test t p over) ∙ found

agree_all : (living : ℕ → ℕ) (tally : ℕ → Tally) (cuts : List (ℕ × Segment)) → Ascends (times_of cuts) → ((t : ℕ) (s : Segment) → segment_at t cuts ≡ Some s → (s.living ≡ living t) × (s.totals ≡ tally t)) → AllAgree living tally cuts
agree_all living tally [] up h = tt
agree_all living tally ((p, s0) ∷ cuts) up h = (h p s0 (head_found p s0 cuts), agree_all living tally cuts up.1 (λ t s found. h t s (tail_found t p s s0 cuts up.0 found)))

-- what a map shows agrees
agree_shown : (asked : Totalled) (mark from : ℕ) (cuts : List (ℕ × Segment)) (rows : List Row) → Ascends (times_of cuts) → ShowsFrom asked mark from cuts rows → AllAgree (living_of rows) (tally_of asked rows) cuts
agree_shown asked mark from cuts rows up shows = agree_all (living_of rows) (tally_of asked rows) cuts up (λ t s found. let is = cut_shown asked mark from cuts rows t s shows found in (is.living_are, is.sums_are))

-- a time lies from one time to another, both included
abbrev pub within : ℕ → ℕ → ℕ → Bool
within lo hi t = range_contains nat_cmp (Included lo) (Included hi) t

-- the cut points of a map from one time to another, both included
abbrev pub between : ℕ → ℕ → List (ℕ × Segment) → List (ℕ × Segment)
between lo hi cuts = entries_between nat_cmp (Included lo) (Included hi) cuts

le_test : (lo t : ℕ) → lo ≤ t → is_le (nat_cmp lo t) ≡ true
le_test lo t h = elim (cases_lt lo t) [
  | inl less ↦ ap is_le (lt_cmp lo t less)
  | inr same ↦ ap is_le (Rattle.op_group.proofs.Times.eq_cmp lo t (omega arith))
]

not_past : (hi t : ℕ) → t ≤ hi → not (is_lt (nat_cmp hi t)) ≡ true
not_past hi t h = elim (cases_lt t hi) [
  | inl less ↦ ap (λ o. not (is_lt o)) (gt_cmp hi t less)
  | inr same ↦ ap (λ o. not (is_lt o)) (Rattle.op_group.proofs.Times.eq_cmp hi t (omega arith))
]

within_true : (lo hi t : ℕ) → lo ≤ t → t ≤ hi → within lo hi t ≡ true
within_true lo hi t low high = ap (λ b. b && not (is_lt (nat_cmp hi t))) (le_test lo t low) ∙ not_past hi t high

low_false : (lo t : ℕ) → t < lo → is_le (nat_cmp lo t) ≡ false
low_false lo t h = ap is_le (gt_cmp lo t h)

high_false : (hi t : ℕ) → hi < t → not (is_lt (nat_cmp hi t)) ≡ false
high_false hi t h = ap (λ o. not (is_lt o)) (lt_cmp hi t h)

and_false : (b : Bool) → (b && false) ≡ false
and_false true = refl
and_false false = refl

-- what is within two times is at least the one and at most the other
true_within : (lo hi t : ℕ) → within lo hi t ≡ true → (lo ≤ t) × (t ≤ hi)
true_within lo hi t h = (
  elim (cases_lt t lo) [
    | inl under ↦ absurd (false_not_true (within lo hi t) (ap (λ b. b && not (is_lt (nat_cmp hi t))) (low_false lo t under)) h)
    | inr over ↦ over
  ],
  elim (cases_lt hi t) [
    | inl over ↦ absurd (false_not_true (within lo hi t) (ap (λ b. is_le (nat_cmp lo t) && b) (high_false hi t over) ∙ and_false (is_le (nat_cmp lo t))) h)
    | inr under ↦ under
  ],
)

some_cond : (b : Bool) (o : Option Segment) → is_some (cond b o None) ≡ cond b (is_some o) false
some_cond true o = refl
some_cond false o = refl

cut_between : (asked : Totalled) (mark from : ℕ) (cuts : List (ℕ × Segment)) (rows : List Row) (lo hi t : ℕ) (b : Bool) → within lo hi t ≡ b → ShowsFrom asked mark from cuts rows → from ≤ lo → cond b (is_some (segment_at t cuts)) false ≡ cond b (is_cut_of rows t) false
cut_between asked mark from cuts rows lo hi t true is shows low = let place = true_within lo hi t is in let over = place.0 in cut_is asked mark from cuts rows t shows (omega arith)
cut_between asked mark from cuts rows lo hi t false is shows low = refl

-- the times between two times are the cut points there
among_between : (asked : Totalled) (mark from : ℕ) (cuts : List (ℕ × Segment)) (rows : List Row) (lo hi t : ℕ) → ShowsFrom asked mark from cuts rows → from ≤ lo → among t (times_of (between lo hi cuts)) ≡ cond (within lo hi t) (is_cut_of rows t) false
among_between asked mark from cuts rows lo hi t shows low =
    among_times t (between lo hi cuts)
    ∙ (ap (λ o. is_some o) (lookup-filter-keys (is_at (nat_cmp t)) (within lo hi) (within lo hi t) (λ k found. ap (within lo hi) (sym (eqb-true t k (sym (at_is t k) ∙ found)))) cuts)
    ∙ (some_cond (within lo hi t) (segment_at t cuts)
    ∙ cut_between asked mark from cuts rows lo hi t (within lo hi t) refl shows low))

cond_true : (b c : Bool) → cond b c false ≡ true → (b ≡ true) × (c ≡ true)
cond_true true c h = (refl, h)
cond_true false c h = cc

module _ (counted : Bool) (asked : Totalled) (key : List Field) (cuts : List (ℕ × Segment)) (rows : List Row) (lo hi mark from : ℕ) (up : Ascends (times_of cuts)) (shows : ShowsFrom asked mark from cuts rows) (low : from ≤ lo) where
  found_are : rows_of_cuts counted key (between lo hi cuts) ≡ rows_at counted key (living_of rows) (tally_of asked rows) (times_of (between lo hi cuts))
  found_are = rows_are (living_of rows) (tally_of asked rows) counted key (between lo hi cuts) (agree_kept (living_of rows) (tally_of asked rows) (within lo hi) cuts (agree_shown asked mark from cuts rows up shows))

  found_up : Ascends (times_of (between lo hi cuts))
  found_up = ascend_kept (within lo hi) cuts up

  found_fits : (r : Row) → 0 < count_of r (rows_of_cuts counted key (between lo hi cuts)) → Fits counted key (living_of rows) (tally_of asked rows) (λ t. cond (within lo hi t) (is_cut_of rows t) false) r
  found_fits r there = fits_alike counted key (living_of rows) (living_of rows) (tally_of asked rows) (tally_of asked rows) (λ t. among t (times_of (between lo hi cuts))) (λ t. cond (within lo hi t) (is_cut_of rows t) false) r
      (λ t over under. among_between asked mark from cuts rows lo hi t shows low) refl refl
      (fits_from_there counted key (living_of rows) (tally_of asked rows) (times_of (between lo hi cuts)) r found_up (omega (arith, there, ap (count_of r) found_are)))

  -- a row that is found lies between the two times
  pub found_within : (r : Row) → 0 < count_of r (rows_of_cuts counted key (between lo hi cuts)) → (lo ≤ r.begin) × (r.end ≤ hi)
  found_within r there =
      let fits = found_fits r there in
      ((true_within lo hi r.begin (cond_true (within lo hi r.begin) (is_cut_of rows r.begin) fits.starts).0).0, (true_within lo hi r.end (cond_true (within lo hi r.end) (is_cut_of rows r.end) fits.ends).0).1)

  cut_within : (t : ℕ) → lo ≤ t → t ≤ hi → cond (within lo hi t) (is_cut_of rows t) false ≡ is_cut_of rows t
  cut_within t low high = ap (λ b. cond b (is_cut_of rows t) false) (within_true lo hi t low high)

  -- and is one that the group makes, and each of these between the two times is found
  pub found_is : (r : Row) → lo ≤ r.begin → r.end ≤ hi → count_of r (rows_of_cuts counted key (between lo hi cuts)) ≡ count_of r (segments (grouping_asked counted asked) key rows)
  found_is r after before = same_count (count_of r (rows_of_cuts counted key (between lo hi cuts))) (count_of r (segments (grouping_asked counted asked) key rows))
      (λ there. fits_segment (grouping_asked counted asked) key rows r (fits_alike counted key (living_of rows) (living_of rows) (tally_of asked rows) (tally_of asked rows) (λ t. cond (within lo hi t) (is_cut_of rows t) false) (is_cut_of rows) r
      (λ t over under. cut_within t (omega arith) (omega arith)) refl refl (found_fits r there)))
      (λ there. ap (count_of r) found_are ∙ there_from_fits counted key (living_of rows) (tally_of asked rows) (times_of (between lo hi cuts)) r found_up
      (fits_alike counted key (living_of rows) (living_of rows) (tally_of asked rows) (tally_of asked rows) (is_cut_of rows) (λ t. among t (times_of (between lo hi cuts))) r
      (λ t over under. sym (among_between asked mark from cuts rows lo hi t shows low ∙ cut_within t (omega arith) (omega arith))) refl refl (segment_fits (grouping_asked counted asked) key rows r there)))

  pub found_none : (r : Row) → ((lo ≤ r.begin) × (r.end ≤ hi) → ⊥) → count_of r (rows_of_cuts counted key (between lo hi cuts)) ≡ 0
  found_none r outside = elim (cases_lt 0 (count_of r (rows_of_cuts counted key (between lo hi cuts)))) [ inl there ↦ absurd (outside (found_within r there)) | inr none ↦ omega arith ]

-- each row ends after the one before it
abbrev EndAfter : ℕ → List Row → Type 0
EndAfter t [] = Unit {0}
EndAfter t (r ∷ rows) = (t < r.end) × EndAfter r.end rows

end_later : (t u : ℕ) (rows : List Row) → t ≤ u → EndAfter u rows → EndAfter t rows
end_later t u [] h ends = tt
end_later t u (r ∷ rows) h ends = (let x = ends.0 in omega arith, ends.1)

ends_one : (o : Option (ℕ × List Field)) (t q : ℕ) (rows : List Row) → t < q → EndAfter q rows → EndAfter t (ended_at o q ++ rows)
ends_one None t q rows h ends = end_later t q rows (omega arith) ends
ends_one (Some row) t q rows h ends = (h, ends)

rows_end : (counted : Bool) (key : List Field) (o : Option (ℕ × List Field)) (t : ℕ) (cuts : List (ℕ × Segment)) → AllAbove t (times_of cuts) → Ascends (times_of cuts) → EndAfter t (rows_after counted key o cuts)
rows_end counted key o t [] above up = tt
rows_end counted key o t (e ∷ cuts) above up = ends_one o t e.0 (rows_after counted key (row_begun counted key e.0 e.1) cuts) above.0 (rows_end counted key (row_begun counted key e.0 e.1) e.0 cuts up.0 up.1)

greater_first : (a b : Row) → b.end < a.end → is_lt (row_cmp a b) ≡ false
greater_first a b h = ap (λ o. is_lt (Rattle.std.specs.Ordering.ordering_then o (Rattle.std.specs.Ordering.ordering_then (nat_cmp a.begin b.begin) (Rattle.cedr_base.specs.Order.payload_cmp a.payload b.payload)))) (gt_cmp a.end b.end h)

sorted_ends : (t : ℕ) (rows : List Row) → EndAfter t rows → IsSorted row_cmp rows
sorted_ends t [] ends k d low high = absurd (omega arith)
sorted_ends t (x ∷ []) ends k d low high = absurd (omega arith)
sorted_ends t (x ∷ y ∷ rows) ends zero d low high = greater_first y x ends.1.0
sorted_ends t (x ∷ y ∷ rows) ends (suc k) d low high =
    let next : suc k + 1 ≡ suc (k + 1) = omega arith in
    subst (λ (n : ℕ). is_lt (row_cmp (get_or (x ∷ y ∷ rows) n d) (get_or (x ∷ y ∷ rows) (suc k) d)) ≡ false) (sym next) (sorted_ends x.end (y ∷ rows) ends.1 k d (omega arith) (omega arith))

sorted_first : (counted : Bool) (key : List Field) (cuts : List (ℕ × Segment)) → Ascends (times_of cuts) → IsSorted row_cmp (rows_of_cuts counted key cuts)
sorted_first counted key [] up = λ k d low high. absurd (omega arith)
sorted_first counted key (e ∷ cuts) up = sorted_ends e.0 (rows_of_cuts counted key (e ∷ cuts)) (rows_end counted key (row_begun counted key e.0 e.1) e.0 cuts up.0 up.1)

-- the rows of a part of a map stand in canonical order
pub rows_sorted : (counted : Bool) (key : List Field) (lo hi : ℕ) (cuts : List (ℕ × Segment)) → IsStrictlySortedBy nat_cmp (keys_of cuts) → IsSorted row_cmp (rows_of_cuts counted key (between lo hi cuts))
rows_sorted counted key lo hi cuts ordered = sorted_first counted key (between lo hi cuts) (ascend_kept (within lo hi) cuts (times_ascend cuts ordered))
