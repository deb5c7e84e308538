-- What a map of cut points shows, and how edits of it show.
use Rattle.std.proofs.Common.{◌≡◌, ◌≢◌, ℕ, ◌+◌, ◌-◌, ◌<◌, ◌≤◌, ◌⊎◌, inl, inr, List, [], ◌∷◌, Bool, true, false, cond, Option, Some, None, refl, ap, sym, ◌∙◌, subst, arith}
use Rattle.std.specs.Prelude.{nat_eq, nat_lt, nat_le, ◌&&◌, option_map, IsSome, is_some}
use Rattle.std.specs.Ordering.{nat_cmp, is_lt, is_gt}
use Rattle.std.specs.declared.cmp.Ordering.TheVariants.{Less}
use Rattle.std.specs.BTreeMap.{BTreeMap, get, is_at}
use Rattle.std.proofs.lemmas.Bool.{cases_lt, eq-eqb, eqb-true, eqb-false}
use Rattle.cedr_base.specs.declared.field.Field.{Field}
use Rattle.op_group.specs.declared.segment.Segment.{Segment}
use Rattle.cedr_base.specs.declared.row.Row.{Row}
use Rattle.op_group.specs.declared.segment.Totalled.{Totalled}
use Rattle.op_group.specs.Sides.{HaveExtremes, TalliesExtremes}
use Rattle.op_group.specs.Tallies.{Tally}
use Rattle.op_group.specs.Cuts.{ShowsCuts, StaysBetweenCuts, IsEdit, IsLastCut, IsCarried, segment_at, one_at, edge_raised, segment_shifted, tally_shifted}
use Rattle.op_group.specs.TimeLaws.{one_here, one_elsewhere, above_test}
use Rattle.op_group.proofs.Times.{at_is, lt_cmp, cmp_lt, not_lt_cmp}

-- what is shown at a time
abbrev pub shown : ℕ → ℕ → Tally → Option Segment
shown edges living tally = cond (nat_eq edges 0) None (Some (record { edges = edges; living = living; totals = tally }))

-- a segment that is shown
pub record IsShown (s : Segment) (edges living : ℕ) (tally : Tally) : Type 0 where
  pub some_edge : 0 < edges
  pub edges_are : s.edges ≡ edges
  pub living_are : s.living ≡ living
  pub sums_are : s.totals ≡ tally

shown_some_at : (s : Segment) (n l : ℕ) (ts : Tally) (b : Bool) → nat_eq n 0 ≡ b → Some s ≡ cond b None (Some (record { edges = n; living = l; totals = ts })) → IsShown s n l ts
shown_some_at s n l ts true h e = cc
shown_some_at s n l ts false h e =
    let is : s ≡ record { edges = n; living = l; totals = ts } = cc in
    let not_none = eqb-false n 0 h in
    record { some_edge = omega arith; edges_are = ap (λ (x : Segment). x.edges) is; living_are = ap (λ (x : Segment). x.living) is; sums_are = ap (λ (x : Segment). x.totals) is }

-- where a segment is shown, an edge stands, and the segment has the numbers that are shown
pub shown_some : (s : Segment) (n l : ℕ) (ts : Tally) → Some s ≡ shown n l ts → IsShown s n l ts
shown_some s n l ts e = shown_some_at s n l ts (nat_eq n 0) refl e

shown_none_at : (n l : ℕ) (ts : Tally) (b : Bool) → nat_eq n 0 ≡ b → ◌≡◌ {A = Option Segment} None (cond b None (Some (record { edges = n; living = l; totals = ts }))) → n ≡ 0
shown_none_at n l ts true h e = eqb-true n 0 h
shown_none_at n l ts false h e = cc

-- where nothing is shown, no edge stands
pub shown_none : (n l : ℕ) (ts : Tally) → None ≡ shown n l ts → n ≡ 0
shown_none n l ts e = shown_none_at n l ts (nat_eq n 0) refl e

-- where an edge stands, a segment is shown
pub shows_some : (n l : ℕ) (ts : Tally) → 0 < n → shown n l ts ≡ Some (record { edges = n; living = l; totals = ts })
shows_some n l ts h =
    let many : nat_eq n 0 ≡ false = grind (arith) in
    ap {B = Option Segment} (λ b. cond b None (Some (record { edges = n; living = l; totals = ts }))) many

-- where no edge stands, nothing is shown
pub shows_none : (n l : ℕ) (ts : Tally) → n ≡ 0 → shown n l ts ≡ None
shows_none n l ts h = ap {B = Option Segment} (λ b. cond b None (Some (record { edges = n; living = l; totals = ts }))) (eq-eqb n 0 h)

-- a segment is its fields
pub is_its_fields : (s : Segment) (n l : ℕ) (ts : Tally) → s.edges ≡ n → s.living ≡ l → s.totals ≡ ts → s ≡ record { edges = n; living = l; totals = ts }
is_its_fields s n l ts e f g = λ i. record { edges = e i; living = f i; totals = g i }

edit_shows_at : (old new : List (ℕ × Segment)) (at t : ℕ) (w : Option Segment) (shown_there : Option Segment) (b : Bool) → is_at (nat_cmp at) t ≡ b → segment_at t new ≡ cond b w (segment_at t old) → (b ≡ true → w ≡ shown_there) → (b ≡ false → segment_at t old ≡ shown_there) → segment_at t new ≡ shown_there
edit_shows_at old new at t w there true is e here other = e ∙ here refl
edit_shows_at old new at t w there false is e here other = e ∙ other refl

-- what an edit at one time shows
pub edit_shows : (old new : List (ℕ × Segment)) (at : ℕ) (w : Option Segment) (edges living edges' living' : ℕ → ℕ) (tally tally' : ℕ → Tally) → IsEdit at w old new → ShowsCuts old edges living tally
    → w ≡ shown (edges' at) (living' at) (tally' at)
    → ((t : ℕ) → nat_eq at t ≡ false → shown (edges t) (living t) (tally t) ≡ shown (edges' t) (living' t) (tally' t))
    → ShowsCuts new edges' living' tally'
edit_shows old new at w n l n' l' s s' edit shows here other = record {
  at = λ t. edit_shows_at old new at t w (shown (n' t) (l' t) (s' t)) (is_at (nat_cmp at) t) refl (edit t)
      (λ is. here ∙ ap (λ u. shown (n' u) (l' u) (s' u)) (eqb-true at t (sym (at_is at t) ∙ is)))
      (λ is. shows.at t ∙ other t (sym (at_is at t) ∙ is));
}

raised_shows_at : (n n' l : ℕ) (ts : Tally) (o : Option Segment) → o ≡ shown n l ts → is_some o ≡ true → n' ≡ n + 1 → option_map edge_raised o ≡ shown n' l ts
raised_shows_at n n' l ts None e there more = cc
raised_shows_at n n' l ts (Some s) e there more =
    let is = shown_some s n l ts e in
    let many : 0 < n' = omega arith in
    let fields = is_its_fields (edge_raised s) n' l ts (let x = is.edges_are in omega arith) is.living_are is.sums_are in
    ap (λ x. Some x) fields ∙ sym (shows_some n' l ts many)

-- one edge more at a cut point
pub raise_shows : (old new : List (ℕ × Segment)) (at : ℕ) (empty : Tally) → is_some (segment_at at old) ≡ true → IsEdit at (option_map edge_raised (segment_at at old)) old new
    → (edges living : ℕ → ℕ) (tally : ℕ → Tally) → ShowsCuts old edges living tally → StaysBetweenCuts empty edges living tally → ShowsCuts new (λ t. edges t + one_at at t) living tally
raise_shows old new at empty there edit n l s shows stays =
    edit_shows old new at (option_map edge_raised (segment_at at old)) n l (λ t. n t + one_at at t) l s s edit shows
    (raised_shows_at (n at) (n at + one_at at at) (l at) (s at) (segment_at at old) (shows.at at) there (omega (arith, one_here at)))
    (λ t is. let none = one_elsewhere at t is in let same : n t ≡ n t + one_at at t = omega arith in ap (λ k. shown k (l t) (s t)) same)

-- no edge stands where the map has nothing
pub no_edge : (cuts : List (ℕ × Segment)) (edges living : ℕ → ℕ) (tally : ℕ → Tally) (t : ℕ) → ShowsCuts cuts edges living tally → segment_at t cuts ≡ None → edges t ≡ 0
no_edge cuts n l s t shows none = shown_none (n t) (l t) (s t) (sym none ∙ shows.at t)

-- up to a time no edge stands, where none stands before it and none at it
none_up_to : (n : ℕ → ℕ) (at : ℕ) (low : ℕ) → ((u : ℕ) → low < u → u < at → n u ≡ 0) → n at ≡ 0 → (u : ℕ) → low < u → u ≤ at → n u ≡ 0
none_up_to n at low before here u above below = elim (cases_lt u at) [
  | inl less ↦ before u above less
  | inr same ↦ let is : u ≡ at = omega arith in ap n is ∙ here
]

none_before : (n : ℕ → ℕ) (at : ℕ) → ((u : ℕ) → u < at → n u ≡ 0) → n at ≡ 0 → (u : ℕ) → u ≤ at → n u ≡ 0
none_before n at before here u below = elim (cases_lt u at) [
  | inl less ↦ before u less
  | inr same ↦ let is : u ≡ at = omega arith in ap n is ∙ here
]

record IsCarriedOn (at : ℕ) (s : Segment) (living : ℕ → ℕ) (tally : ℕ → Tally) : Type 0 where
  living_are : s.living ≡ living at
  sums_are : s.totals ≡ tally at

carried_on : (cuts : List (ℕ × Segment)) (at : ℕ) (empty : Tally) (s : Segment) (edges living : ℕ → ℕ) (tally : ℕ → Tally) → IsCarried cuts at empty s → ShowsCuts cuts edges living tally → StaysBetweenCuts empty edges living tally → edges at ≡ 0 → IsCarriedOn at s living tally
carried_on cuts at empty s n l ts carried shows stays here = elim carried.carried [
  | inl fresh ↦
      let none = none_before n at (λ u below. no_edge cuts n l ts u shows (fresh.0 u below)) here in
      record { living_are = fresh.1 ∙ sym (stays.none_live at none); sums_are = fresh.2 ∙ sym (stays.none_summed at none) }
  | inr after ↦
      let before = shown_some after.1 (n after.0) (l after.0) (ts after.0) (sym after.3 ∙ shows.at after.0) in
      let none = none_up_to n at after.0 (λ u above below. no_edge cuts n l ts u shows (after.4 u above below)) here in
      let earlier : after.0 ≤ at = let h = after.2 in omega arith in
      record { living_are = after.5 ∙ (before.living_are ∙ sym (stays.living_stays after.0 at earlier none)); sums_are = after.6 ∙ (before.sums_are ∙ sym (stays.sums_stay after.0 at earlier none)) }
]

-- a new cut point shows what is valid there
pub carried_shows : (old new : List (ℕ × Segment)) (at : ℕ) (empty : Tally) (s : Segment) → is_some (segment_at at old) ≡ false → IsCarried old at empty s → IsEdit at (Some s) old new
    → (edges living : ℕ → ℕ) (tally : ℕ → Tally) → ShowsCuts old edges living tally → StaysBetweenCuts empty edges living tally → ShowsCuts new (λ t. edges t + one_at at t) living tally
carried_shows old new at empty s missing carried edit n l ts shows stays =
    let none : n at ≡ 0 = none_where_missing (segment_at at old) missing (shows.at at) in
    let on = carried_on old at empty s n l ts carried shows stays none in
    let one : n at + one_at at at ≡ 1 = omega (arith, one_here at) in
    edit_shows old new at (Some s) n l (λ t. n t + one_at at t) l ts ts edit shows
    (ap (λ x. Some x) (is_its_fields s (n at + one_at at at) (l at) (ts at) (carried.one_edge ∙ sym one) on.living_are on.sums_are) ∙ sym (shows_some (n at + one_at at at) (l at) (ts at) (omega arith)))
    (λ t is. let nothing = one_elsewhere at t is in let same : n t ≡ n t + one_at at t = omega arith in ap (λ k. shown k (l t) (ts t)) same)
  where
    none_where_missing : (o : Option Segment) → is_some o ≡ false → o ≡ shown (n at) (l at) (ts at) → n at ≡ 0
    none_where_missing None h e = shown_none (n at) (l at) (ts at) e
    none_where_missing (Some x) h e = cc

-- a time before another one that ranks last isn't a cut point
none_after : (cuts : BTreeMap ℕ Segment) (last to u : ℕ) (o : Option Segment) → get nat_cmp cuts u ≡ o → (IsSome (get nat_cmp cuts u) → is_lt (nat_cmp last u) ≡ false) → last < u → get nat_cmp cuts u ≡ None
none_after cuts last to u None e greatest above = e
none_after cuts last to u (Some s) e greatest above =
    let h = not_lt_cmp last u (greatest (subst (λ (o : Option Segment). IsSome o) (sym e) (search Rattle.std.proofs.Common.rules))) in absurd (omega arith)

-- the last entry before a time
pub last_cut : (cuts : BTreeMap ℕ Segment) (last to : ℕ) (s : Segment) → nat_cmp last to ≡ Less → get nat_cmp cuts last ≡ Some s → ((u : ℕ) → nat_cmp u to ≡ Less → IsSome (get nat_cmp cuts u) → is_lt (nat_cmp last u) ≡ false) → IsLastCut cuts.entries to last
last_cut cuts last to s before found greatest =
    let earlier = cmp_lt last to before in
    record {
      before = omega arith;
      none = λ u above below. none_after cuts last to u (get nat_cmp cuts u) refl (greatest u (lt_cmp u to below)) above;
      there = inr (subst (λ (o : Option Segment). IsSome o) (sym found) (search Rattle.std.proofs.Common.rules), earlier);
    }

-- the last entry up to a time, where it is before it
pub last_cut_up_to : (cuts : BTreeMap ℕ Segment) (last to : ℕ) (s : Segment) → last < to → get nat_cmp cuts last ≡ Some s → ((u : ℕ) → is_gt (nat_cmp u to) ≡ false → IsSome (get nat_cmp cuts u) → is_lt (nat_cmp last u) ≡ false) → IsLastCut cuts.entries to last
last_cut_up_to cuts last to s before found greatest = last_cut cuts last to s (lt_cmp last to before) found (λ u under there. greatest u (ap is_gt under) there)

-- a time has no entry where the last entry up to it is before it
pub not_at : (cuts : BTreeMap ℕ Segment) (last to : ℕ) → last < to → (IsSome (get nat_cmp cuts to) → is_lt (nat_cmp last to) ≡ false) → is_some (segment_at to cuts.entries) ≡ false
not_at cuts last to before greatest = ap (λ o. is_some o) (none_after cuts last to to (get nat_cmp cuts to) refl greatest before)

-- more edges keep what is valid between the cut points
pub stays_more : (empty : Tally) (edges more living : ℕ → ℕ) (tally : ℕ → Tally) → ((t : ℕ) → edges t ≤ more t) → StaysBetweenCuts empty edges living tally → StaysBetweenCuts empty more living tally
stays_more empty n m l s h stays = record {
  living_stays = λ p t e none. stays.living_stays p t e (λ u over under. let k = none u over under in let x = h u in omega arith);
  sums_stay = λ p t e none. stays.sums_stay p t e (λ u over under. let k = none u over under in let x = h u in omega arith);
  none_live = λ t none. stays.none_live t (λ u under. let k = none u under in let x = h u in omega arith);
  none_summed = λ t none. stays.none_summed t (λ u under. let k = none u under in let x = h u in omega arith);
}

-- a map that shows some numbers shows all that are the same at each time
pub shows_alike : (cuts : List (ℕ × Segment)) (n n' l l' : ℕ → ℕ) (s s' : ℕ → Tally) → ((t : ℕ) → n t ≡ n' t) → ((t : ℕ) → l t ≡ l' t) → ((t : ℕ) → s t ≡ s' t) → ShowsCuts cuts n l s → ShowsCuts cuts n' l' s'
shows_alike cuts n n' l l' s s' e f g shows = record { at = λ t. shows.at t ∙ (ap (λ k. shown k (l t) (s t)) (e t) ∙ (ap (λ k. shown (n' t) k (s t)) (f t) ∙ ap (λ k. shown (n' t) (l' t) k) (g t))) }

shift_one : (up : Bool) (numbers : List ℕ) (extremes : List (Option Field)) (n l : ℕ) (ts : Tally) (b : Bool)
    → option_map (segment_shifted up numbers extremes) (cond b None (Some (record { edges = n; living = l; totals = ts }))) ≡ cond b None (Some (segment_shifted up numbers extremes (record { edges = n; living = l; totals = ts })))
shift_one up numbers extremes n l ts true = refl
shift_one up numbers extremes n l ts false = refl

abbrev moved_by : Bool → ℕ → ℕ
moved_by up l = cond up (l + 1) (l - 1)

shift_shows_at : (up : Bool) (numbers : List ℕ) (extremes : List (Option Field)) (n l : ℕ) (ts : Tally) (o : Option Segment) (b : Bool) → o ≡ shown n l ts
    → cond b (option_map (segment_shifted up numbers extremes) o) o ≡ shown n (cond b (moved_by up l) l) (cond b (tally_shifted numbers extremes ts) ts)
shift_shows_at up numbers extremes n l ts o true e = ap (option_map (segment_shifted up numbers extremes)) e ∙ shift_one up numbers extremes n l ts (nat_eq n 0)
shift_shows_at up numbers extremes n l ts o false e = e

-- a row more or less between two times
pub shift_shows : (old new : List (ℕ × Segment)) (from to : ℕ) (up : Bool) (numbers : List ℕ) (extremes : ℕ → List (Option Field)) (n l : ℕ → ℕ) (s : ℕ → Tally) → ShowsCuts old n l s
    → ((u : ℕ) → segment_at u new ≡ cond (nat_le from u && nat_lt u to) (option_map (segment_shifted up numbers (extremes u)) (segment_at u old)) (segment_at u old))
    → ShowsCuts new n (λ t. cond (nat_le from t && nat_lt t to) (moved_by up (l t)) (l t)) (λ t. cond (nat_le from t && nat_lt t to) (tally_shifted numbers (extremes t) (s t)) (s t))
shift_shows old new from to up numbers extremes n l s shows moved = record {
  at = λ t. moved t ∙ shift_shows_at up numbers (extremes t) (n t) (l t) (s t) (segment_at t old) (nat_le from t && nat_lt t to) (shows.at t);
}

module _ (cuts : List (ℕ × Segment)) (from to : ℕ) (up : Bool) (is : up ≡ true) (numbers : List ℕ) (extremes : ℕ → List (Option Field)) (n l : ℕ → ℕ) (s : ℕ → Tally) where
  -- a row more
  pub shown_up : ShowsCuts cuts n (λ t. cond (nat_le from t && nat_lt t to) (moved_by up (l t)) (l t)) (λ t. cond (nat_le from t && nat_lt t to) (tally_shifted numbers (extremes t) (s t)) (s t))
      → ShowsCuts cuts n (λ t. cond (nat_le from t && nat_lt t to) (l t + 1) (l t)) (λ t. cond (nat_le from t && nat_lt t to) (tally_shifted numbers (extremes t) (s t)) (s t))
  shown_up shows = subst (λ b. ShowsCuts cuts n (λ t. cond (nat_le from t && nat_lt t to) (moved_by b (l t)) (l t)) (λ t. cond (nat_le from t && nat_lt t to) (tally_shifted numbers (extremes t) (s t)) (s t))) is shows

module _ (cuts : List (ℕ × Segment)) (from to : ℕ) (up : Bool) (is : up ≡ false) (numbers : List ℕ) (extremes : ℕ → List (Option Field)) (n l : ℕ → ℕ) (s : ℕ → Tally) where
  -- a row less
  pub shown_down : ShowsCuts cuts n (λ t. cond (nat_le from t && nat_lt t to) (moved_by up (l t)) (l t)) (λ t. cond (nat_le from t && nat_lt t to) (tally_shifted numbers (extremes t) (s t)) (s t))
      → ShowsCuts cuts n (λ t. cond (nat_le from t && nat_lt t to) (l t - 1) (l t)) (λ t. cond (nat_le from t && nat_lt t to) (tally_shifted numbers (extremes t) (s t)) (s t))
  shown_down shows = subst (λ b. ShowsCuts cuts n (λ t. cond (nat_le from t && nat_lt t to) (moved_by b (l t)) (l t)) (λ t. cond (nat_le from t && nat_lt t to) (tally_shifted numbers (extremes t) (s t)) (s t))) is shows

-- the segments of a map have the least and the greatest fields that it shows
pub have_extremes : (cuts : List (ℕ × Segment)) (asked : Totalled) (from to : ℕ) (rows : List Row) (n l : ℕ → ℕ) (s : ℕ → Tally) → ShowsCuts cuts n l s → TalliesExtremes asked from to rows s → HaveExtremes asked from to rows cuts
have_extremes cuts asked from to rows n l s shows extremes t low high seg found = ap (λ (ts : Tally). ts.extremes) (shown_some seg (n t) (l t) (s t) (sym found ∙ shows.at t)).sums_are ∙ extremes t low high

-- a begin stays where a later end goes
pub cut_begin : (edges : ℕ → ℕ) (begin end more : ℕ) → 0 < edges begin → begin < end → 0 < (edges begin + more) - one_at end begin
cut_begin edges begin end more some less = omega (arith, one_elsewhere end begin (above_test end begin less))
