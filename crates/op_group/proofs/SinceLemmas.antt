-- What a map shows from some time on.
use Rattle.std.proofs.Common.{◌≡◌, ℕ, zero, suc, ◌+◌, ◌<◌, ◌≤◌, ◌⊎◌, inl, inr, List, [], ◌∷◌, Bool, true, false, cond, Option, Some, None, refl, ap, sym, ◌∙◌, subst, arith}
use Rattle.std.specs.Prelude.{nat_eq, nat_lt, nat_le, sum_by, is_some, IsSome}
use Rattle.std.proofs.lemmas.Bool.{cases_lt, eqb-true, eqb-false, lt-ltb, le-ltb, ltb-false}
use Rattle.std.proofs.lemmas.Bool.Decides.{nat_tests}
use Rattle.std.proofs.lemmas.List.Sums.{sum_by-cons}
use Rattle.cedr_base.specs.declared.field.Field.{Field}
use Rattle.cedr_base.specs.declared.row.Row.{Row}
use Rattle.op_group.specs.declared.segment.Segment.{Segment}
use Rattle.op_group.specs.declared.segment.Totalled.{Totalled}
use Rattle.op_group.specs.Groups.{lives_at}
use Rattle.op_group.specs.Tallies.{Tally}
use Rattle.op_group.specs.Cuts.{StaysBetweenCuts, segment_at, edges_in}
use Rattle.op_group.specs.Measures.{part_at, edges_of, living_of, tally_of, no_totals, is_cut_of, Fits}
use Rattle.op_group.specs.TimeLaws.{false_not_true}
use Rattle.op_group.specs.SegmentLaws.{group_stays, tally_none}
use Rattle.op_group.specs.State.{since, ShowsFrom}
use Rattle.op_group.proofs.Shown.{shown_some}

-- from the time on it is the function
pub since_there : {X : Type 0} (from : ℕ) (before : X) (f : ℕ → X) (t : ℕ) → from ≤ t → since from before f t ≡ f t
since_there from before f t h = let test : nat_le from t ≡ true = grind (arith, nat_tests) in ap (λ b. cond b (f t) before) test

-- and before the time it isn't
pub since_before : {X : Type 0} (from : ℕ) (before : X) (f : ℕ → X) (t : ℕ) → t < from → since from before f t ≡ before
since_before from before f t h = let test : nat_le from t ≡ false = grind (arith, nat_tests) in ap (λ b. cond b (f t) before) test

none_living_at : (weight : Row → ℕ) (t : ℕ) (r : Row) (rest : ℕ) (b : Bool) → cond {A = ℕ} b 1 0 + rest ≡ 0 → cond b (weight r) 0 ≡ 0
none_living_at weight t r rest true h = absurd (omega arith)
none_living_at weight t r rest false h = refl

-- where no row is valid there is nothing to be summed
no_parts : (weight : Row → ℕ) (rows : List Row) (t : ℕ) → living_of rows t ≡ 0 → sum_by (part_at weight t) rows ≡ 0
no_parts weight [] t none = refl
no_parts weight (r ∷ rows) t none =
    let both = sum_by-cons (part_at (λ _. 1) t) r rows in
    let here : part_at weight t r ≡ 0 = none_living_at weight t r (living_of rows t) (lives_at t r) (omega (arith, both, none)) in
    omega (arith, sum_by-cons (part_at weight t) r rows, here, no_parts weight rows t (omega (arith, both, none)))

zero_sums_at : (asked : Totalled) (rows : List Row) (t : ℕ) → living_of rows t ≡ 0 → tally_of asked rows t ≡ no_totals asked
zero_sums_at asked rows t none = tally_none asked t rows (λ w. no_parts (λ (r : Row). w r.payload) rows t none)

record IsQuiet (asked : Totalled) (rows : List Row) (t : ℕ) : Type 0 where
  living : living_of rows t ≡ 0
  sums : tally_of asked rows t ≡ no_totals asked

-- before a time nothing was valid, or it is a cut point
abbrev pub Starts : List Row → ℕ → ℕ → Type 0
Starts rows mark from = ((from < mark) × (0 < edges_of rows from)) ⊎ ((t : ℕ) → t + 1 ≡ from → living_of rows t ≡ 0)

quiet_after : (asked : Totalled) (rows : List Row) (from t : ℕ) → ((u : ℕ) → u + 1 ≡ from → living_of rows u ≡ 0) → from ≤ t → ((u : ℕ) → from ≤ u → u ≤ t → edges_of rows u ≡ 0) → IsQuiet asked rows t
quiet_after asked rows zero t quiet low none =
    let stays = group_stays asked rows in
    record { living = stays.none_live t (λ u under. none u (omega arith) under); sums = stays.none_summed t (λ u under. none u (omega arith) under) }
quiet_after asked rows (suc p) t quiet low none =
    let stays = group_stays asked rows in
    let gone : living_of rows p ≡ 0 = quiet p (omega arith) in
    record {
      living = stays.living_stays p t (omega arith) (λ u over under. none u (omega arith) under) ∙ gone;
      sums = stays.sums_stay p t (omega arith) (λ u over under. none u (omega arith) under) ∙ zero_sums_at asked rows p gone;
    }

-- from the time on, up to which no cut point stands, nothing is valid
quiet_on : (asked : Totalled) (rows : List Row) (mark from t : ℕ) → Starts rows mark from → from ≤ t → ((u : ℕ) → from ≤ u → u ≤ t → edges_of rows u ≡ 0) → IsQuiet asked rows t
quiet_on asked rows mark from t (inl at_cut) low none = let some = at_cut.1 in absurd (omega (arith, none from (omega arith) low))
quiet_on asked rows mark from t (inr quiet) low none = quiet_after asked rows from t quiet low none

module _ (asked : Totalled) (rows : List Row) (mark from : ℕ) (starts : Starts rows mark from) where
  -- where what is cut off has no cut point from the time on, the rows have none
  none_since : (u : ℕ) → from ≤ u → since from 0 (edges_of rows) u ≡ 0 → edges_of rows u ≡ 0
  none_since u low none = sym (since_there from 0 (edges_of rows) u low) ∙ none

  living_stays : (p t : ℕ) → p ≤ t → ((u : ℕ) → p < u → u ≤ t → since from 0 (edges_of rows) u ≡ 0) → since from 0 (living_of rows) t ≡ since from 0 (living_of rows) p
  living_stays p t h none = elim (cases_lt p from) [
    | inr late ↦
        since_there from 0 (living_of rows) t (omega arith)
        ∙ ((group_stays asked rows).living_stays p t h (λ u over under. none_since u (omega arith) (none u over under))
        ∙ sym (since_there from 0 (living_of rows) p (omega arith)))
    | inl early ↦ elim (cases_lt t from) [
      | inl both ↦ since_before from 0 (living_of rows) t both ∙ sym (since_before from 0 (living_of rows) p early)
      | inr over ↦
          since_there from 0 (living_of rows) t over
          ∙ ((quiet_on asked rows mark from t starts over (λ u low under. none_since u low (none u (omega arith) under))).living
          ∙ sym (since_before from 0 (living_of rows) p early))
    ]
  ]

  sums_stay : (p t : ℕ) → p ≤ t → ((u : ℕ) → p < u → u ≤ t → since from 0 (edges_of rows) u ≡ 0)
      → since from (no_totals asked) (tally_of asked rows) t ≡ since from (no_totals asked) (tally_of asked rows) p
  sums_stay p t h none = elim (cases_lt p from) [
    | inr late ↦
        since_there from (no_totals asked) (tally_of asked rows) t (omega arith)
        ∙ ((group_stays asked rows).sums_stay p t h (λ u over under. none_since u (omega arith) (none u over under))
        ∙ sym (since_there from (no_totals asked) (tally_of asked rows) p (omega arith)))
    | inl early ↦ elim (cases_lt t from) [
      | inl both ↦ since_before from (no_totals asked) (tally_of asked rows) t both ∙ sym (since_before from (no_totals asked) (tally_of asked rows) p early)
      | inr over ↦
          since_there from (no_totals asked) (tally_of asked rows) t over
          ∙ ((quiet_on asked rows mark from t starts over (λ u low under. none_since u low (none u (omega arith) under))).sums
          ∙ sym (since_before from (no_totals asked) (tally_of asked rows) p early))
    ]
  ]

  none_yet : (t : ℕ) → ((u : ℕ) → u ≤ t → since from 0 (edges_of rows) u ≡ 0) → (since from 0 (living_of rows) t ≡ 0) × (since from (no_totals asked) (tally_of asked rows) t ≡ no_totals asked)
  none_yet t none = elim (cases_lt t from) [
    | inl early ↦ (since_before from 0 (living_of rows) t early, since_before from (no_totals asked) (tally_of asked rows) t early)
    | inr over ↦
        let quiet = quiet_on asked rows mark from t starts over (λ u low under. none_since u low (none u under)) in
        (since_there from 0 (living_of rows) t over ∙ quiet.living, since_there from (no_totals asked) (tally_of asked rows) t over ∙ quiet.sums)
  ]

  -- what is shown from the time on stays the same between the cut points
  pub since_stays : StaysBetweenCuts (no_totals asked) (since from 0 (edges_of rows)) (since from 0 (living_of rows)) (since from (no_totals asked) (tally_of asked rows))
  since_stays = record {
    living_stays = living_stays;
    sums_stay = sums_stay;
    none_live = λ t none. (none_yet t none).0;
    none_summed = λ t none. (none_yet t none).1;
  }

-- a row that begins before what a map shows ends before the mark, and no later than where that begins
pub gone_before : (counted : Bool) (asked : Totalled) (key : List Field) (rows : List Row) (mark from : ℕ) (r : Row) → Starts rows mark from → from ≤ mark
    → Fits counted key (living_of rows) (tally_of asked rows) (is_cut_of rows) r → r.begin < from → r.end < mark
gone_before counted asked key rows mark from r (inl at_cut) below fits early = elim (cases_lt r.end mark) [
  | inl before ↦ before
  | inr late ↦ let low = at_cut.0 in absurd (false_not_true (is_cut_of rows from) (fits.apart from early (omega arith)) (lt-ltb 0 (edges_of rows from) at_cut.1))
]
gone_before counted asked key rows mark zero r (inr quiet) below fits early = absurd (omega arith)
gone_before counted asked key rows mark (suc p) r (inr quiet) below fits early = elim (cases_lt r.end mark) [
  | inl before ↦ before
  | inr late ↦
      let same = (group_stays asked rows).living_stays r.begin p (omega arith) (λ u over under. let none = ltb-false 0 (edges_of rows u) (fits.apart u over (omega arith)) in omega arith) in
      let lives = fits.lives in
      absurd (omega (arith, same, quiet p (omega arith)))
]

-- a cut point that a map has
pub record IsCutShown (asked : Totalled) (rows : List Row) (from t : ℕ) (s : Segment) : Type 0 where
  pub low : from ≤ t
  pub cut : 0 < edges_of rows t
  pub edges_are : s.edges ≡ edges_of rows t
  pub living_are : s.living ≡ living_of rows t
  pub sums_are : s.totals ≡ tally_of asked rows t

some_since : (rows : List Row) (from t : ℕ) → 0 < since from 0 (edges_of rows) t → from ≤ t
some_since rows from t some = elim (cases_lt t from) [ inl early ↦ absurd (omega (arith, some, since_before from 0 (edges_of rows) t early)) | inr low ↦ low ]

-- is one of the rows, and has what is valid there
pub cut_shown : (asked : Totalled) (mark from : ℕ) (cuts : List (ℕ × Segment)) (rows : List Row) (t : ℕ) (s : Segment) → ShowsFrom asked mark from cuts rows → segment_at t cuts ≡ Some s → IsCutShown asked rows from t s
cut_shown asked mark from cuts rows t s h found =
    let is = shown_some s (since from 0 (edges_of rows) t) (since from 0 (living_of rows) t) (since from (no_totals asked) (tally_of asked rows) t) (sym found ∙ h.shows.at t) in
    let low = some_since rows from t is.some_edge in
    record {
      low = low;
      cut = subst (λ (n : ℕ). 0 < n) (since_there from 0 (edges_of rows) t low) is.some_edge;
      edges_are = is.edges_are ∙ since_there from 0 (edges_of rows) t low;
      living_are = is.living_are ∙ since_there from 0 (living_of rows) t low;
      sums_are = is.sums_are ∙ since_there from (no_totals asked) (tally_of asked rows) t low;
    }

some_is_at : (n l : ℕ) (ts : Tally) (b : Bool) → nat_eq n 0 ≡ b → is_some (cond {A = Option Segment} b None (Some (record { edges = n; living = l; totals = ts }))) ≡ nat_lt 0 n
some_is_at n l ts true h = let none = eqb-true n 0 h in sym (le-ltb 0 n (omega arith))
some_is_at n l ts false h = let some = eqb-false n 0 h in sym (lt-ltb 0 n (omega arith))

-- a map has the cut points from the time on
pub cut_since : (asked : Totalled) (mark from : ℕ) (cuts : List (ℕ × Segment)) (rows : List Row) (t : ℕ) → ShowsFrom asked mark from cuts rows → is_some (segment_at t cuts) ≡ nat_lt 0 (since from 0 (edges_of rows) t)
cut_since asked mark from cuts rows t h =
    ap (λ o. is_some o) (h.shows.at t)
    ∙ some_is_at (since from 0 (edges_of rows) t) (since from 0 (living_of rows) t) (since from (no_totals asked) (tally_of asked rows) t) (nat_eq (since from 0 (edges_of rows) t) 0) refl

-- from the time on a map has a segment at the cut points
pub cut_is : (asked : Totalled) (mark from : ℕ) (cuts : List (ℕ × Segment)) (rows : List Row) (t : ℕ) → ShowsFrom asked mark from cuts rows → from ≤ t → is_some (segment_at t cuts) ≡ is_cut_of rows t
cut_is asked mark from cuts rows t h low = cut_since asked mark from cuts rows t h ∙ ap (nat_lt 0) (since_there from 0 (edges_of rows) t low)

-- a map has a segment at a time, and this is it
pub record IsThere (o : Option Segment) : Type 0 where
  pub segment : Segment
  pub is : o ≡ Some segment

-- where there is some segment
pub there_from_some : (o : Option Segment) → IsSome o → IsThere o
there_from_some None h = cc
there_from_some (Some s) h = record { segment = s; is = refl }

-- a time at which a map has a segment is no earlier than what it shows
pub low_cut : (asked : Totalled) (mark from : ℕ) (cuts : List (ℕ × Segment)) (rows : List Row) (t : ℕ) → ShowsFrom asked mark from cuts rows → IsSome (segment_at t cuts) → from ≤ t
low_cut asked mark from cuts rows t h some = let there = there_from_some (segment_at t cuts) some in (cut_shown asked mark from cuts rows t there.segment h there.is).low

-- and is a cut point of the rows
pub some_cut : (asked : Totalled) (mark from : ℕ) (cuts : List (ℕ × Segment)) (rows : List Row) (t : ℕ) → ShowsFrom asked mark from cuts rows → IsSome (segment_at t cuts) → is_cut_of rows t ≡ true
some_cut asked mark from cuts rows t h some = let there = there_from_some (segment_at t cuts) some in lt-ltb 0 (edges_of rows t) (cut_shown asked mark from cuts rows t there.segment h there.is).cut

edges_are_at : (n l : ℕ) (ts : Tally) (b : Bool) → nat_eq n 0 ≡ b → edges_in (cond {A = Option Segment} b None (Some (record { edges = n; living = l; totals = ts }))) ≡ n
edges_are_at n l ts true h = sym (eqb-true n 0 h)
edges_are_at n l ts false h = refl

-- where a map has more begins and ends at a time than a number, so have the rows
pub edges_shown : (asked : Totalled) (mark from : ℕ) (cuts : List (ℕ × Segment)) (rows : List Row) (t taken : ℕ) → ShowsFrom asked mark from cuts rows → taken < edges_in (segment_at t cuts) → (from ≤ t) × (taken < edges_of rows t)
edges_shown asked mark from cuts rows t taken h more =
    let are : edges_in (segment_at t cuts) ≡ since from 0 (edges_of rows) t = ap edges_in (h.shows.at t)
    ∙ edges_are_at (since from 0 (edges_of rows) t) (since from 0 (living_of rows) t) (since from (no_totals asked) (tally_of asked rows) t) (nat_eq (since from 0 (edges_of rows) t) 0) refl in
    let low = some_since rows from t (omega (arith, more, are)) in
    (low, omega (arith, more, are, since_there from 0 (edges_of rows) t low))
