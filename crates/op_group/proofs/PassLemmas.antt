-- The groups still show the rows when a mark passed a cut point.
use Rattle.std.proofs.Common.{◌≡◌, ℕ, ◌+◌, ◌<◌, ◌≤◌, ◌⊎◌, inl, inr, List, Bool, true, false, cond, Option, Some, None, not, refl, ap, sym, ◌∙◌, subst, arith}
use Rattle.std.specs.Prelude.{nat_eq, nat_lt, ◌&&◌, ◌||◌, is_some}
use Rattle.std.specs.BTreeMap.{BTreeMap}
use Rattle.std.proofs.lemmas.Bool.{cases_lt, eq-eqb, eqb-true, eqb-false, lt-ltb, le-ltb}
use Rattle.cedr_base.specs.declared.field.Field.{Field}
use Rattle.cedr_base.specs.declared.row.Row.{Row}
use Rattle.op_group.specs.declared.segment.Segment.{Segment}
use Rattle.op_group.specs.declared.segment.Totalled.{Totalled}
use Rattle.op_group.specs.declared.points.CutPoint.{CutPoint}
use Rattle.op_group.specs.Groups.{Grouping, same_payload, rows_of}
use Rattle.op_group.specs.Cuts.{segment_at}
use Rattle.op_group.specs.Measures.{edges_of, living_of, tally_of, no_totals}
use Rattle.op_group.specs.Points.{has_point, IsFirstTaken, is_empty_from, left_from}
use Rattle.op_group.specs.TimeLaws.{above_test, below_test, false_not_true}
use Rattle.op_group.specs.PayloadLaws.{payload_exact}
use Rattle.op_group.specs.State.{since, ShowsFrom, ShowsRows, KeepsGroups, IsPassed, Settles, cuts_of}
use Rattle.op_group.proofs.Shown.{shown, shows_none}
use Rattle.op_group.proofs.SinceLemmas.{there_from_some, since_there, since_before, cut_shown}

-- before the time nothing is left
pub none_left : (at u : ℕ) (cuts : List (ℕ × Segment)) → u < at → left_from at cuts u ≡ None
none_left at u cuts before = ap (λ b. cond (b || (nat_eq u at && is_empty_from (segment_at u cuts))) None (segment_at u cuts)) (lt-ltb u at before)

-- of the time itself nothing is left where nothing is valid from it on, and else what was there
pub at_left : (at : ℕ) (cuts : List (ℕ × Segment)) (b : Bool) → is_empty_from (segment_at at cuts) ≡ b → left_from at cuts at ≡ cond b None (segment_at at cuts)
at_left at cuts b is =
    ap (λ d. cond (d || (nat_eq at at && is_empty_from (segment_at at cuts))) None (segment_at at cuts)) (le-ltb at at (omega arith))
    ∙ (ap (λ d. cond (d && is_empty_from (segment_at at cuts)) None (segment_at at cuts)) (eq-eqb at at refl)
    ∙ ap (λ d. cond d None (segment_at at cuts)) is)

-- at each later time what was there is left
pub all_left : (at u : ℕ) (cuts : List (ℕ × Segment)) → at < u → left_from at cuts u ≡ segment_at u cuts
all_left at u cuts after =
    ap (λ d. cond (d || (nat_eq u at && is_empty_from (segment_at u cuts))) None (segment_at u cuts)) (le-ltb u at (omega arith))
    ∙ ap (λ d. cond (d && is_empty_from (segment_at u cuts)) None (segment_at u cuts)) (above_test u at after)

-- a map that shows the rows from an earlier time on shows them from a later one on where it has nothing before that
later_shows : (asked : Totalled) (mark from later : ℕ) (cuts cuts' : List (ℕ × Segment)) (rows : List Row) → ShowsFrom asked mark from cuts rows → from ≤ later → later ≤ mark → ((later < mark) × (0 < edges_of rows later)) ⊎ ((t : ℕ) → t + 1 ≡ later → living_of rows t ≡ 0)
    → ((u : ℕ) → u < later → segment_at u cuts' ≡ None) → ((u : ℕ) → later ≤ u → segment_at u cuts' ≡ segment_at u cuts) → ShowsFrom asked mark later cuts' rows
later_shows asked mark from later cuts cuts' rows h low below starts none same = record {
  below = below;
  starts = starts;
  shows = record {
    at = λ u. elim (cases_lt u later) [
      | inl before ↦ none u before ∙ sym (shows_none (since later 0 (edges_of rows) u) (since later 0 (living_of rows) u) (since later (no_totals asked) (tally_of asked rows) u) (since_before later 0 (edges_of rows) u before))
      | inr after ↦
          same u after ∙ (h.shows.at u
          ∙ (ap (λ n. shown n (since from 0 (living_of rows) u) (since from (no_totals asked) (tally_of asked rows) u)) (since_there from 0 (edges_of rows) u (omega arith) ∙ sym (since_there later 0 (edges_of rows) u after))
          ∙ (ap (λ n. shown (since later 0 (edges_of rows) u) n (since from (no_totals asked) (tally_of asked rows) u)) (since_there from 0 (living_of rows) u (omega arith) ∙ sym (since_there later 0 (living_of rows) u after))
          ∙ ap (λ ns. shown (since later 0 (edges_of rows) u) (since later 0 (living_of rows) u) ns) (since_there from (no_totals asked) (tally_of asked rows) u (omega arith) ∙ sym (since_there later (no_totals asked) (tally_of asked rows) u after)))))
    ];
  };
}

empty_is : (s : Segment) (o : Option Segment) (b : Bool) → o ≡ Some s → is_empty_from o ≡ b → nat_eq s.living 0 ≡ b
empty_is s o b e h = sym (ap is_empty_from e) ∙ h

-- a group's cut points that are left show its rows
shows_left : (asked : Totalled) (mark from at : ℕ) (cuts cuts' : List (ℕ × Segment)) (rows : List Row) (s : Segment) (b : Bool) → is_empty_from (segment_at at cuts) ≡ b → segment_at at cuts ≡ Some s → at < mark → ShowsFrom asked mark from cuts rows
    → ((u : ℕ) → segment_at u cuts' ≡ left_from at cuts u) → ShowsRows asked mark cuts' rows
shows_left asked mark from at cuts cuts' rows s true is there early h left =
    let cut = cut_shown asked mark from cuts rows at s h there in
    let low = cut.low in
    let none : s.living ≡ 0 = eqb-true s.living 0 (empty_is s (segment_at at cuts) true there is) in
    record {
      from = at + 1;
      shown = later_shows asked mark from (at + 1) cuts cuts' rows h (omega arith) (omega arith)
          (inr (λ t next. let same : t ≡ at = omega arith in ap (living_of rows) same ∙ (sym cut.living_are ∙ none)))
          (λ u before. left u ∙ none_at u before)
          (λ u after. left u ∙ all_left at u cuts (omega arith));
    }
  where
    none_at : (u : ℕ) → u < at + 1 → left_from at cuts u ≡ None
    none_at u before = elim (cases_lt u at) [
      | inl under ↦ none_left at u cuts under
      | inr not_under ↦ let same : u ≡ at = omega arith in ap (left_from at cuts) same ∙ at_left at cuts true is
    ]
shows_left asked mark from at cuts cuts' rows s false is there early h left =
    let cut = cut_shown asked mark from cuts rows at s h there in
    record {
      from = at;
      shown = later_shows asked mark from at cuts cuts' rows h cut.low (omega arith) (inl (early, cut.cut)) (λ u before. left u ∙ none_left at u cuts before) (λ u after. left u ∙ kept_at u after);
    }
  where
    kept_at : (u : ℕ) → at ≤ u → left_from at cuts u ≡ segment_at u cuts
    kept_at u after = elim (cases_lt at u) [
      | inl over ↦ all_left at u cuts over
      | inr not_over ↦ let same : u ≡ at = omega arith in ap (left_from at cuts) same ∙ (at_left at cuts false is ∙ ap (λ n. segment_at n cuts) (sym same))
    ]

some_of_none : (o : Option Segment) → o ≡ None → is_some o ≡ true → ⊥
some_of_none o e h = let none : is_some o ≡ false = ap (λ x. is_some x) e in false_not_true (is_some o) none h

there_still : (x y h : Bool) → h ≡ true → y ≡ true → cond (x && not y) false h ≡ true
there_still true true h e f = e
there_still false true h e f = e
there_still x false h e f = cc

-- what stands in a set of which something left stood there, and is still in the map
both_there : (x y a a' : Bool) → a' ≡ cond (x && not y) false a → a ≡ x → a' ≡ true → (a ≡ true) × (y ≡ true)
both_there true true a a' e f h = (f, refl)
both_there true false a a' e f h = absurd (let z : true ≡ false = sym h ∙ e in cc)
both_there false y a a' e f h = absurd (let z : true ≡ false = sym h ∙ (e ∙ f) in cc)

still_entered : (x y a a' : Bool) → a' ≡ cond (x && not y) false a → a ≡ x → (y ≡ true → x ≡ true) → a' ≡ y
still_entered true true a a' e f h = e ∙ f
still_entered true false a a' e f h = e
still_entered false true a a' e f h = let z = h refl in cc
still_entered false false a a' e f h = e ∙ f

left_fewer_at : (o : Option Segment) (b : Bool) → is_some (cond b None o) ≡ true → is_some o ≡ true
left_fewer_at o true h = cc
left_fewer_at o false h = h

none_taken : (e s : Bool) (d d' : Bool) → d' ≡ cond (e && s) false d → d' ≡ true → (d ≡ true) × (s ≡ true → e ≡ false)
none_taken true true d d' is h = let z : true ≡ false = sym h ∙ is in cc
none_taken true false d d' is h = (sym is ∙ h, λ s. cc)
none_taken false s d d' is h = (sym is ∙ h, λ t. refl)

not_due : (e s : Bool) (d d' : Bool) → d' ≡ cond (e && s) false d → d' ≡ false → (e && s) ≡ false → d ≡ false
not_due e s d d' is h other = sym (ap (λ b. cond b false d) other) ∙ (sym is ∙ h)

not_both : (e : Bool) → (e && false) ≡ false
not_both true = refl
not_both false = refl

module _ (g : Grouping) (groups groups' : List (List Field × BTreeMap ℕ Segment)) (all all' due due' : List CutPoint) (rows : List Row) (mark : ℕ) (point : CutPoint)
    (taken : IsFirstTaken due due' mark point) (settles : Settles point.at point.key groups groups' all all') (keeps : KeepsGroups g groups all due rows mark) where
  there_map : is_some (segment_at point.at (cuts_of groups point.key)) ≡ true
  there_map = sym (keeps.entered point.at point.key) ∙ keeps.still point.at point.key taken.there

  own_there : (key : List Field) → same_payload point.key key ≡ true → is_some (segment_at point.at (cuts_of groups key)) ≡ true
  own_there key h = subst (λ k. is_some (segment_at point.at (cuts_of groups k)) ≡ true) (payload_exact point.key key h) there_map

  own_left : (key : List Field) → same_payload point.key key ≡ true → (u : ℕ) → segment_at u (cuts_of groups' key) ≡ left_from point.at (cuts_of groups key) u
  own_left key h u = settles.cuts_left u key ∙ ap (λ b. cond b (left_from point.at (cuts_of groups key) u) (segment_at u (cuts_of groups key))) h

  other_left : (key : List Field) → same_payload point.key key ≡ false → (u : ℕ) → segment_at u (cuts_of groups' key) ≡ segment_at u (cuts_of groups key)
  other_left key h u = settles.cuts_left u key ∙ ap (λ b. cond b (left_from point.at (cuts_of groups key) u) (segment_at u (cuts_of groups key))) h

  shown_at : (key : List Field) (b : Bool) → same_payload point.key key ≡ b → ShowsRows g.totalled mark (cuts_of groups' key) (rows_of g key rows)
  shown_at key true h =
      let there = there_from_some (segment_at point.at (cuts_of groups key)) (own_there key h) in
      shows_left g.totalled mark (keeps.shown key).from point.at (cuts_of groups key) (cuts_of groups' key) (rows_of g key rows) there.segment (is_empty_from (segment_at point.at (cuts_of groups key))) refl there.is taken.before (keeps.shown key).shown (own_left key h)
  shown_at key false h =
      let was = (keeps.shown key).shown in
      record { from = (keeps.shown key).from; shown = record { below = was.below; starts = was.starts; shows = record { at = λ u. other_left key h u ∙ was.shows.at u } } }

  fewer : (u : ℕ) (key : List Field) (b : Bool) → same_payload point.key key ≡ b → is_some (segment_at u (cuts_of groups' key)) ≡ true → is_some (segment_at u (cuts_of groups key)) ≡ true
  fewer u key true h some = left_fewer_at (segment_at u (cuts_of groups key)) (nat_lt u point.at || (nat_eq u point.at && is_empty_from (segment_at u (cuts_of groups key)))) (sym (ap (λ o. is_some o) (own_left key h u)) ∙ some)
  fewer u key false h some = sym (ap (λ o. is_some o) (other_left key h u)) ∙ some

  entered' : (u : ℕ) (key : List Field) → has_point all' u key ≡ is_some (segment_at u (cuts_of groups' key))
  entered' u key = still_entered (is_some (segment_at u (cuts_of groups key))) (is_some (segment_at u (cuts_of groups' key))) (has_point all u key) (has_point all' u key) (settles.points_left u key) (keeps.entered u key) (fewer u key (same_payload point.key key) refl)

  still_at : (t : ℕ) (key : List Field) (b : Bool) → same_payload point.key key ≡ b → has_point due t key ≡ true → (b ≡ true → nat_eq point.at t ≡ false) → is_some (segment_at t (cuts_of groups' key)) ≡ true
  still_at t key true h there other =
      let first = taken.first t key there in
      let apart = eqb-false point.at t (other refl) in
      ap (λ o. is_some o) (own_left key h t ∙ all_left point.at t (cuts_of groups key) (omega arith)) ∙ (sym (keeps.entered t key) ∙ keeps.still t key there)
  still_at t key false h there other = ap (λ o. is_some o) (other_left key h t) ∙ (sym (keeps.entered t key) ∙ keeps.still t key there)

  still' : (t : ℕ) (key : List Field) → has_point due' t key ≡ true → has_point all' t key ≡ true
  still' t key there =
      let was = none_taken (nat_eq point.at t) (same_payload point.key key) (has_point due t key) (has_point due' t key) (taken.taken t key) there in
      entered' t key ∙ still_at t key (same_payload point.key key) refl was.0 was.1

  lives_at_first : (key : List Field) (s : Segment) (b : Bool) → same_payload point.key key ≡ true → segment_at point.at (cuts_of groups key) ≡ Some s → is_empty_from (segment_at point.at (cuts_of groups key)) ≡ b → is_some (segment_at point.at (cuts_of groups' key)) ≡ true → 0 < living_of (rows_of g key rows) point.at
  lives_at_first key s true h found empty there = absurd (some_of_none (segment_at point.at (cuts_of groups' key)) (own_left key h point.at ∙ at_left point.at (cuts_of groups key) true empty) there)
  lives_at_first key s false h found empty there =
      let cut = cut_shown g.totalled mark (keeps.shown key).from (cuts_of groups key) (rows_of g key rows) point.at s (keeps.shown key).shown found in
      let living = cut.living_are in
      let some = eqb-false s.living 0 (empty_is s (segment_at point.at (cuts_of groups key)) false found empty) in
      omega arith

  first_passed : (key : List Field) → same_payload point.key key ≡ true → is_some (segment_at point.at (cuts_of groups' key)) ≡ true → IsPassed g groups' rows mark point.at key
  first_passed key h there =
      let was = there_from_some (segment_at point.at (cuts_of groups key)) (own_there key h) in
      record {
        past = taken.before;
        first = λ u before. own_left key h u ∙ none_left point.at u (cuts_of groups key) before;
        lives = lives_at_first key was.segment (is_empty_from (segment_at point.at (cuts_of groups key))) h was.is refl there;
      }

  passed_at : (t : ℕ) (key : List Field) (b : Bool) → same_payload point.key key ≡ b → has_point all t key ≡ true → is_some (segment_at t (cuts_of groups' key)) ≡ true → has_point due' t key ≡ false → IsPassed g groups' rows mark t key
  passed_at t key false h there left gone =
      let was = keeps.passed t key there (not_due (nat_eq point.at t) (same_payload point.key key) (has_point due t key) (has_point due' t key) (taken.taken t key) gone (ap (λ b. nat_eq point.at t && b) h ∙ not_both (nat_eq point.at t))) in
      record { past = was.past; first = λ u before. other_left key h u ∙ was.first u before; lives = was.lives }
  passed_at t key true h there left gone = elim (cases_lt t point.at) [
    | inl under ↦ absurd (some_of_none (segment_at t (cuts_of groups' key)) (own_left key h t ∙ none_left point.at t (cuts_of groups key) under) left)
    | inr over ↦ elim (cases_lt point.at t) [
      | inl above ↦
          let was = keeps.passed t key there (not_due (nat_eq point.at t) (same_payload point.key key) (has_point due t key) (has_point due' t key) (taken.taken t key) gone (ap (λ b. b && same_payload point.key key) (below_test point.at t above))) in
          absurd (some_of_none (segment_at point.at (cuts_of groups key)) (was.first point.at above) (own_there key h))
      | inr not_above ↦
          let same : point.at ≡ t = omega arith in
          subst (λ (n : ℕ). IsPassed g groups' rows mark n key) same (first_passed key h (ap (λ n. is_some (segment_at n (cuts_of groups' key))) same ∙ left))
    ]
  ]

  -- the groups show the rows as before
  pub keeps_passed : KeepsGroups g groups' all' due' rows mark
  keeps_passed = record {
    sorted = settles.sorted;
    ordered = settles.ordered keeps.ordered;
    some_cuts = settles.some_cuts keeps.some_cuts;
    shown = λ key. shown_at key (same_payload point.key key) refl;
    entered = entered';
    still = still';
    passed = λ t key there gone.
        let both = both_there (is_some (segment_at t (cuts_of groups key))) (is_some (segment_at t (cuts_of groups' key))) (has_point all t key) (has_point all' t key) (settles.points_left t key) (keeps.entered t key) there in
        passed_at t key (same_payload point.key key) refl both.0 both.1 gone;
  }
