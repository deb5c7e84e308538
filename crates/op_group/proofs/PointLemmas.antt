-- Cut points in sets, and in the maps that they are of.
use Rattle.std.proofs.Common.{◌≡◌, ℕ, ◌<◌, ◌≤◌, inl, inr, List, [], ◌∷◌, length, Bool, true, false, cond, Option, Some, None, not, refl, ap, sym, ◌∙◌, subst, arith}
use mathlib.Core.Bool.{beq}
use Rattle.std.specs.Prelude.{nat_eq, ◌&&◌, ◌||◌, is_some, IfSome, IsTrue, slice_get}
use Rattle.std.specs.List.{list_any}
use Rattle.std.specs.BTreeMap.{is_at}
use Rattle.std.specs.Ordering.{nat_cmp, is_gt, ordering_then}
use Rattle.std.specs.Cmp.{tied_then}
use Rattle.std.proofs.lemmas.Bool.{cases_lt, eqb-true}
use Rattle.cedr_base.specs.declared.field.Field.{Field}
use Rattle.cedr_base.specs.Order.{payload_cmp}
use Rattle.op_group.specs.declared.segment.Segment.{Segment}
use Rattle.op_group.specs.declared.points.CutPoint.{CutPoint}
use Rattle.op_group.specs.Groups.{same_payload}
use Rattle.op_group.specs.Cuts.{segment_at, IsEdit}
use Rattle.op_group.specs.Points.{point_cmp, has_point, Places, Follows, IsFirstTaken, Leaves, is_empty_from}
use Rattle.op_group.specs.PayloadLaws.{payload_exact}
use Rattle.op_group.specs.TimeLaws.{below_test}
use Rattle.op_group.proofs.Times.{at_is, gt_cmp}

-- a set finds a cut point by its time and its key
pub point_at : (at t : ℕ) (key other : List Field) → is_at (point_cmp (record { at = at; key = key })) (record { at = t; key = other }) ≡ (nat_eq at t && same_payload key other)
point_at at t key other = sym (tied_then (nat_cmp at t) (payload_cmp key other)) ∙ ap (λ b. b && same_payload key other) (at_is at t)

-- a set has a point in place of what it had
abbrev pub IsUpdate : CutPoint → Bool → List CutPoint → List CutPoint → Type 0
IsUpdate point there old new = (q : CutPoint) → list_any (is_at (point_cmp q)) new ≡ cond (is_at (point_cmp point) q) there (list_any (is_at (point_cmp q)) old)

-- a set that is updated at one cut point has that one where it is said to, and the others as before
pub placed : (old new : List CutPoint) (at : ℕ) (key : List Field) (there : Bool) → IsUpdate (record { at = at; key = key }) there old new → Places old new at key there
placed old new at key there update t other = update (record { at = t; key = other }) ∙ ap (λ b. cond b there (has_point old t other)) (point_at at t key other)

both_at : (f l s x h y : Bool) → h ≡ cond (f && s) x y → cond (l && s) x h ≡ cond ((f || l) && s) x y
both_at true true true x h y e = refl
both_at true true false x h y e = e
both_at true false true x h y e = e
both_at true false false x h y e = e
both_at false true true x h y e = refl
both_at false true false x h y e = e
both_at false false s x h y e = e

follows_at : (last t : ℕ) (x z s f h y : Bool) (l : Bool) → nat_eq last t ≡ l → h ≡ cond (f && s) x y → (l ≡ true → z ≡ x) → cond (l && s) z h ≡ cond ((f || l) && s) x y
follows_at last t x z s f h y true is e same = ap (λ b. cond s b h) (same refl) ∙ both_at f true s x h y e
follows_at last t x z s f h y false is e same = both_at f false s x h y e

first_same : (cuts : List (ℕ × Segment)) (first t : ℕ) (f s h : Bool) → nat_eq first t ≡ f → cond (f && s) (is_some (segment_at first cuts)) h ≡ cond (f && s) (is_some (segment_at t cuts)) h
first_same cuts first t true s h is = ap (λ n. cond s (is_some (segment_at n cuts)) h) (eqb-true first t is)
first_same cuts first t false s h is = refl

-- a set that has two points in place follows a map at these times
pub follows_both : (old between new : List CutPoint) (key : List Field) (cuts : List (ℕ × Segment)) (first last : ℕ) → Places old between first key (is_some (segment_at first cuts)) → Places between new last key (is_some (segment_at last cuts)) → Follows old new key cuts first last
follows_both old between new key cuts first last one two t other =
    two t other
    ∙ follows_at last t (is_some (segment_at t cuts)) (is_some (segment_at last cuts)) (same_payload key other) (nat_eq first t) (has_point between t other) (has_point old t other) (nat_eq last t) refl
    (one t other ∙ first_same cuts first t (nat_eq first t) (same_payload key other) (has_point old t other) refl)
    (λ is. ap (λ n. is_some (segment_at n cuts)) (eqb-true last t is))

-- what stands after no other one in a set has the least time
pub least_first : (points : List CutPoint) (point : CutPoint) → ((q : CutPoint) → IsTrue (list_any (is_at (point_cmp q)) points) → is_gt (point_cmp point q) ≡ false) → (t : ℕ) (key : List Field) → has_point points t key ≡ true → point.at ≤ t
least_first points point least t key there = elim (cases_lt t point.at) [
  | inr behind ↦ behind
  | inl before ↦
      let greater : is_gt (point_cmp point (record { at = t; key = key })) ≡ true = ap (λ o. is_gt (ordering_then o (payload_cmp point.key key))) (gt_cmp point.at t before) in
      let not_greater = least (record { at = t; key = key }) there in cc
]

-- the first point of a set that was taken out
pub first_taken : (old new : List CutPoint) (mark : ℕ) (point : CutPoint) (o : Option CutPoint) → slice_get old 0 ≡ Some point → point.at < mark → IfSome o (λ k. old ≡ k ∷ new) → IfSome o (λ k. IsTrue (list_any (is_at (point_cmp k)) old))
    → IfSome o (λ k. (q : CutPoint) → IsTrue (list_any (is_at (point_cmp q)) old) → is_gt (point_cmp k q) ≡ false) → IfSome o (λ k. IsUpdate k false old new) → IfSome o (IsFirstTaken old new mark)
first_taken old new mark point None first before taken there least update = search Rattle.std.proofs.Common.rules
first_taken old new mark point (Some k) first before taken there least update =
    let is : Some k ≡ Some point = sym (ap (λ (ps : List CutPoint). slice_get ps 0) taken) ∙ first in
    let same : k ≡ point = cc in
    let at_is : k.at ≡ point.at = ap (λ (p : CutPoint). p.at) same in
    record {
      there = there;
      before = omega arith;
      first = least_first old k least;
      taken = placed old new k.at k.key false update;
    }

none_leaves : (s x : Bool) (h : Bool) → h ≡ cond (s && (x && not x)) false h
none_leaves true true h = refl
none_leaves true false h = refl
none_leaves false x h = refl

-- nothing leaves what stays
pub leaves_none : (key : List Field) (cuts : List (ℕ × Segment)) (points : List CutPoint) → Leaves key cuts cuts points points
leaves_none key cuts points u other = none_leaves (same_payload key other) (is_some (segment_at u cuts)) (has_point points u other)

one_left : (at u : ℕ) (cuts cuts' : List (ℕ × Segment)) (s h : Bool) (b : Bool) → nat_eq at u ≡ b → segment_at u cuts' ≡ cond b None (segment_at u cuts) → is_some (segment_at at cuts) ≡ true → cond (b && s) false h ≡ cond (s && (is_some (segment_at u cuts) && not (is_some (segment_at u cuts')))) false h
one_left at u cuts cuts' s h true is e there =
    let was : is_some (segment_at u cuts) ≡ true = ap (λ n. is_some (segment_at n cuts)) (sym (eqb-true at u is)) ∙ there in
    let gone : is_some (segment_at u cuts') ≡ false = ap (λ o. is_some o) e in
    sym (ap (λ b. cond (s && (b && not (is_some (segment_at u cuts')))) false h) was ∙ (ap (λ b. cond (s && not b) false h) gone ∙ with_true s h))
  where
    with_true : (s h : Bool) → cond (s && true) false h ≡ cond s false h
    with_true true h = refl
    with_true false h = refl
one_left at u cuts cuts' s h false is e there =
    let same : is_some (segment_at u cuts') ≡ is_some (segment_at u cuts) = ap (λ o. is_some o) e in
    none_leaves s (is_some (segment_at u cuts)) h ∙ ap (λ b. cond (s && (is_some (segment_at u cuts) && not b)) false h) (sym same)

-- one cut point leaves a map and a set
pub leaves_one : (at : ℕ) (key : List Field) (cuts cuts' : List (ℕ × Segment)) (points points' : List CutPoint) → is_some (segment_at at cuts) ≡ true → IsEdit at None cuts cuts' → Places points points' at key false → Leaves key cuts cuts' points points'
leaves_one at key cuts cuts' points points' there edit placed u other =
    placed u other
    ∙ one_left at u cuts cuts' (same_payload key other) (has_point points u other) (nat_eq at u) refl (edit u ∙ ap (λ b. cond b None (segment_at u cuts)) (at_is at u)) there

joined : (s a b c p q r : Bool) → q ≡ cond (s && (a && not b)) false p → r ≡ cond (s && (b && not c)) false q → (b ≡ true → a ≡ true) → (c ≡ true → b ≡ true) → r ≡ cond (s && (a && not c)) false p
joined false a b c p q r e f h k = f ∙ e
joined true true true true p q r e f h k = f ∙ e
joined true true true false p q r e f h k = f
joined true true false true p q r e f h k = let x = k refl in cc
joined true true false false p q r e f h k = f ∙ e
joined true false true c p q r e f h k = let x = h refl in cc
joined true false false true p q r e f h k = let x = k refl in cc
joined true false false false p q r e f h k = f ∙ e

-- what leaves in two steps
pub leaves_both : (key : List Field) (a b c : List (ℕ × Segment)) (p q r : List CutPoint) → Leaves key a b p q → Leaves key b c q r → ((u : ℕ) → is_some (segment_at u b) ≡ true → is_some (segment_at u a) ≡ true) → ((u : ℕ) → is_some (segment_at u c) ≡ true → is_some (segment_at u b) ≡ true) → Leaves key a c p r
leaves_both key a b c p q r one two fewer fewest u other =
    joined (same_payload key other) (is_some (segment_at u a)) (is_some (segment_at u b)) (is_some (segment_at u c)) (has_point p u other) (has_point q u other) (has_point r u other) (one u other) (two u other) (fewer u) (fewest u)

-- a cut point from which on nothing is valid is there
pub some_from_empty : (o : Option Segment) → is_empty_from o ≡ true → is_some o ≡ true
some_from_empty None h = cc
some_from_empty (Some s) h = refl

edited_at : (at u : ℕ) (w o : Option Segment) (b : Bool) → is_at (nat_cmp at) u ≡ b → w ≡ cond b None o → is_some w ≡ true → (is_some o ≡ true) × (b ≡ false)
edited_at at u w o true is e some = let none = ap (λ x. is_some x) e in absurd (let z : true ≡ false = sym some ∙ none in cc)
edited_at at u w o false is e some = (sym (ap (λ x. is_some x) e) ∙ some, refl)

-- a map from which a cut point was taken has no new one
pub fewer_cuts : (at : ℕ) (cuts cuts' : List (ℕ × Segment)) → IsEdit at None cuts cuts' → (u : ℕ) → is_some (segment_at u cuts') ≡ true → is_some (segment_at u cuts) ≡ true
fewer_cuts at cuts cuts' edit u some = (edited_at at u (segment_at u cuts') (segment_at u cuts) (is_at (nat_cmp at) u) refl (edit u) some).0

-- and has the others
pub other_cut : (at u : ℕ) (cuts cuts' : List (ℕ × Segment)) → IsEdit at None cuts cuts' → at < u → segment_at u cuts' ≡ segment_at u cuts
other_cut at u cuts cuts' edit above = edit u ∙ ap (λ b. cond b None (segment_at u cuts)) (at_is at u ∙ below_test at u above)

-- a set that has a cut point has some
pub none_in_empty : (points : List CutPoint) (t : ℕ) (key : List Field) → (0 < length points → ⊥) → has_point points t key ≡ true → ⊥
none_in_empty [] t key none there = cc
none_in_empty (p ∷ points) t key none there = none (omega arith)

-- a set that has a cut point, or lacks it, is as if it had been placed so
pub in_place : (points : List CutPoint) (at : ℕ) (key : List Field) (was : Bool) → has_point points at key ≡ was → Places points points at key was
in_place points at key was there t other = place_at (nat_eq at t) (same_payload key other) refl refl where
  place_at : (e s : Bool) → nat_eq at t ≡ e → same_payload key other ≡ s → has_point points t other ≡ cond (e && s) was (has_point points t other)
  place_at true true is same = ap (λ n. has_point points n other) (sym (eqb-true at t is)) ∙ (ap (λ k. has_point points at k) (sym (payload_exact key other same)) ∙ there)
  place_at true false is same = refl
  place_at false s is same = refl

-- where one cut point is placed, a later one stays as it was
pub placed_before : (old new : List CutPoint) (at last : ℕ) (key : List Field) (there : Bool) → at < last → Places old new at key there → has_point new last key ≡ has_point old last key
placed_before old new at last key there before places = places last key ∙ ap (λ b. cond (b && same_payload key key) there (has_point old last key)) (below_test at last before)

-- two answers that are the same
pub told_same : (was there : Bool) → beq was there ≡ true → was ≡ there
told_same true true h = refl
told_same false false h = refl
told_same true false h = cc
told_same false true h = cc

-- two answers that aren't
pub told_other : (was b there : Bool) → was ≡ b → beq was there ≡ false → not b ≡ there
told_other true true false h k = refl
told_other false false true h k = refl
told_other true b true h k = cc
told_other false b false h k = cc
told_other true false there h k = cc
told_other false true there h k = cc
