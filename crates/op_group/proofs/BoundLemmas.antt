-- The bound, from the cut points of all groups.
use Rattle.std.proofs.Common.{◌≡◌, ℕ, ◌<◌, ◌≤◌, inl, inr, List, [], ◌∷◌, Bool, true, false, refl, ap, sym, ◌∙◌, subst, arith}
use Rattle.std.specs.Prelude.{nat_eq, ◌&&◌, ◌||◌, is_some}
use Rattle.std.specs.List.{AllByRecursion}
use Rattle.std.specs.List.Sorted.{IsStrictlySortedBy}
use Rattle.std.specs.BTreeMap.{BTreeMap, is_at}
use Rattle.std.specs.Ordering.{ordering_then}
use Rattle.std.specs.declared.cmp.Ordering.TheVariants.{Less, Greater}
use Rattle.std.proofs.lemmas.Bool.{cases_lt, eqb-true, lt-ltb, ltb-true, ltb-false, le-ltb}
use Rattle.cedr_base.specs.declared.field.Field.{Field}
use Rattle.cedr_base.specs.declared.row.Row.{Row}
use Rattle.cedr_base.specs.Rows.{count_of}
use Rattle.cedr_base.specs.Order.{payload_cmp}
use Rattle.op_group.specs.declared.segment.Segment.{Segment}
use Rattle.op_group.specs.declared.points.CutPoint.{CutPoint}
use Rattle.op_group.specs.Groups.{Grouping, same_payload, rows_of, grouped, open_from}
use Rattle.op_group.specs.Cuts.{segment_at}
use Rattle.op_group.specs.Measures.{edges_of, key_in}
use Rattle.op_group.specs.Points.{point_cmp, has_point, IsOpenCut}
use Rattle.op_group.specs.TimeLaws.{false_not_true}
use Rattle.op_group.specs.PayloadLaws.{payload_exact}
use Rattle.op_group.specs.GroupLaws.{made_from_there}
use Rattle.op_group.specs.BoundLaws.{open_below, open_at, open_is, test_open, begins_row}
use Rattle.op_group.specs.State.{KeepsGroups, IsFirstOpen, cuts_of}
use Rattle.op_group.proofs.Times.{gt_cmp}
use Rattle.op_group.proofs.PointLemmas.{point_at}
use Rattle.op_group.proofs.Answered.{none_from}
use Rattle.op_group.proofs.SinceLemmas.{there_from_some, cut_is, cut_shown, gone_before}

-- a cut point that stands before another has no later time
less_first : (p q : CutPoint) → point_cmp p q ≡ Less → p.at ≤ q.at
less_first p q h = elim (cases_lt q.at p.at) [
  | inl above ↦ let other : point_cmp p q ≡ Greater = ap (λ o. ordering_then o (payload_cmp p.key q.key)) (gt_cmp p.at q.at above) in cc
  | inr not_above ↦ not_above
]

record AreSame (t : ℕ) (key : List Field) (q : CutPoint) : Type 0 where
  at : t ≡ q.at
  key_is : key ≡ q.key

both_true : (t u : ℕ) (s e : Bool) → nat_eq t u ≡ e → (e && s) ≡ true → (t ≡ u) × (s ≡ true)
both_true t u s true is h = (eqb-true t u is, h)
both_true t u s false is h = cc

same_point : (t : ℕ) (key : List Field) (q : CutPoint) → is_at (point_cmp (record { at = t; key = key })) q ≡ true → AreSame t key q
same_point t key q h =
    let both = both_true t q.at (same_payload key q.key) (nat_eq t q.at) refl (sym (point_at t q.at key q.key) ∙ h) in
    record { at = both.0; key_is = payload_exact key q.key both.1 }

above_at : (p q : CutPoint) (points : List CutPoint) (t : ℕ) (key : List Field) (b : Bool) → is_at (point_cmp (record { at = t; key = key })) q ≡ b → point_cmp p q ≡ Less → (b || has_point points t key) ≡ true → (has_point points t key ≡ true → p.at ≤ t) → p.at ≤ t
above_at p q points t key true is less there rest = let same = (same_point t key q is).at in let low = less_first p q less in omega arith
above_at p q points t key false is less there rest = rest there

all_above : (p : CutPoint) (points : List CutPoint) (t : ℕ) (key : List Field) → AllByRecursion (λ q. point_cmp p q ≡ Less) points → has_point points t key ≡ true → p.at ≤ t
all_above p [] t key h there = cc
all_above p (q ∷ points) t key h there = above_at p q points t key (is_at (point_cmp (record { at = t; key = key })) q) refl h.0 there (all_above p points t key h.1)

-- the first of cut points in order has the least time
pub head_least : (p : CutPoint) (points : List CutPoint) (t : ℕ) (key : List Field) → IsStrictlySortedBy point_cmp (p ∷ points) → has_point (p ∷ points) t key ≡ true → p.at ≤ t
unfolding IsStrictlySortedBy
head_least p points t key sorted there = head_at (is_at (point_cmp (record { at = t; key = key })) p) refl there where
  head_at : (b : Bool) → is_at (point_cmp (record { at = t; key = key })) p ≡ b → (b || has_point points t key) ≡ true → p.at ≤ t
  head_at true is h = let same = (same_point t key p is).at in omega arith
  head_at false is h = all_above p points t key sorted.0 h

-- cut points that ascend do so without the first one
pub tail_sorted : (p : CutPoint) (points : List CutPoint) → IsStrictlySortedBy point_cmp (p ∷ points) → IsStrictlySortedBy point_cmp points
unfolding IsStrictlySortedBy
tail_sorted p points sorted = sorted.1

-- a cut point that isn't the first is among the rest
pub in_rest : (p : CutPoint) (points : List CutPoint) (t : ℕ) (key : List Field) → ((t ≡ p.at) × (key ≡ p.key) → ⊥) → has_point (p ∷ points) t key ≡ true → has_point points t key ≡ true
in_rest p points t key other there = rest_at (is_at (point_cmp (record { at = t; key = key })) p) refl there where
  rest_at : (b : Bool) → is_at (point_cmp (record { at = t; key = key })) p ≡ b → (b || has_point points t key) ≡ true → has_point points t key ≡ true
  rest_at true is h = let same = same_point t key p is in absurd (other (same.at, same.key_is))
  rest_at false is h = h

-- a cut point that is among others is among them with one more in front
pub from_rest : (p : CutPoint) (points : List CutPoint) (t : ℕ) (key : List Field) → has_point points t key ≡ true → has_point (p ∷ points) t key ≡ true
from_rest p points t key there = at_either (is_at (point_cmp (record { at = t; key = key })) p) where
  at_either : (b : Bool) → (b || has_point points t key) ≡ true
  at_either true = refl
  at_either false = there

-- the first of some cut points is among them
pub head_there : (p : CutPoint) (points : List CutPoint) → has_point (p ∷ points) p.at p.key ≡ true
head_there p points = ap {B = Bool} (λ b. b || has_point points p.at p.key) (point_at p.at p.at p.key p.key ∙ (ap (λ b. b && same_payload p.key p.key) (Rattle.std.proofs.lemmas.Bool.eq-eqb p.at p.at refl) ∙ Rattle.op_group.specs.PayloadLaws.payload_itself p.key))

-- where the answer is that a cut point isn't open, it isn't
pub not_open : (groups : List (List Field × BTreeMap ℕ Segment)) (p : CutPoint) (t : ℕ) (key : List Field) (mark : ℕ) (told : Bool) → (IsOpenCut (cuts_of groups p.key) p.at mark → told ≡ true) → told ≡ false → t ≡ p.at → key ≡ p.key → IsOpenCut (cuts_of groups key) t mark → ⊥
not_open groups p t key mark told is gone at key_is cut = false_not_true told gone (is (subst (λ k. IsOpenCut (cuts_of groups k) p.at mark) key_is (subst (λ (n : ℕ). IsOpenCut (cuts_of groups key) n mark) at cut)))

module _ (g : Grouping) (groups : List (List Field × BTreeMap ℕ Segment)) (all due : List CutPoint) (rows : List Row) (mark result : ℕ)
    (keeps : KeepsGroups g groups all due rows mark) (first : IsFirstOpen groups all mark result) where
  -- an open cut point begins a row of the result that is open
  open_at_cut : (t : ℕ) (key : List Field) → t < mark → IsOpenCut (cuts_of groups key) t mark → open_from mark (grouped g rows) ≤ t
  open_at_cut t key early cut =
      let shown = (keeps.shown key).shown in
      let is = cut_shown g.totalled mark (keeps.shown key).from (cuts_of groups key) (rows_of g key rows) t cut.segment shown cut.there in
      let low = is.low in
      let living = is.living_are in
      let lives = cut.lives in
      let row = begins_row g key rows t mark (omega arith) (lt-ltb 0 (edges_of (rows_of g key rows) t) is.cut)
      (λ u over under. sym (cut_is g.totalled mark (keeps.shown key).from (cuts_of groups key) (rows_of g key rows) u shown (omega arith)) ∙ ap (λ o. is_some o) (cut.last u over under)) in
      let begins = row.begins in
      omega (arith, open_at mark (grouped g rows) row.row row.there (test_open mark row.row (omega arith) row.within))

  open_at_most : open_from mark (grouped g rows) ≤ result
  open_at_most = elim first.is [
    | inl top ↦ omega (arith, top, open_below mark (grouped g rows))
    | inr cut ↦ open_at_cut result cut.0 cut.2 cut.3
  ]

  -- a row of the result that is open begins at an open cut point
  cut_of_open : (r : Row) → 0 < count_of r (grouped g rows) → r.begin < mark → mark ≤ r.end → result ≤ r.begin
  cut_of_open r there less within =
      let key = key_in g r in
      let shown = (keeps.shown (key_in g r)).shown in
      let made = made_from_there g rows r there in
      let low : (keeps.shown (key_in g r)).from ≤ r.begin = elim (cases_lt r.begin (keeps.shown (key_in g r)).from) [
        | inl gone ↦ absurd (let ends = gone_before g.counted g.totalled (key_in g r) (rows_of g (key_in g r) rows) mark (keeps.shown (key_in g r)).from r shown.starts shown.below made gone in omega arith)
        | inr kept ↦ kept
      ] in
      let some : is_some (segment_at r.begin (cuts_of groups (key_in g r))) ≡ true = cut_is g.totalled mark (keeps.shown (key_in g r)).from (cuts_of groups (key_in g r)) (rows_of g (key_in g r) rows) r.begin shown low ∙ made.starts in
      let found = there_from_some (segment_at r.begin (cuts_of groups (key_in g r))) some in
      let is = cut_shown g.totalled mark (keeps.shown (key_in g r)).from (cuts_of groups (key_in g r)) (rows_of g (key_in g r) rows) r.begin found.segment shown found.is in
      first.first r.begin (key_in g r) (keeps.entered r.begin (key_in g r) ∙ some) less
      (record {
        segment = found.segment;
        there = found.is;
        lives = (let living = is.living_are in let lives = made.lives in omega arith);
        last = λ u over under. none_from (segment_at u (cuts_of groups (key_in g r)))
            (cut_is g.totalled mark (keeps.shown (key_in g r)).from (cuts_of groups (key_in g r)) (rows_of g (key_in g r) rows) u shown (omega arith) ∙ made.apart u over (omega arith));
      })

  at_most_open : result ≤ open_from mark (grouped g rows)
  at_most_open = elim (open_is mark (grouped g rows)) [
    | inl top ↦ let below = first.within in omega (arith, top)
    | inr row ↦ omega (arith, row.is, cut_of_open row.row row.there row.less row.within)
  ]

  -- the first open cut point gives the bound
  pub first_is_bound : result ≡ open_from mark (grouped g rows)
  first_is_bound = let low = at_most_open in let high = open_at_most in omega arith
