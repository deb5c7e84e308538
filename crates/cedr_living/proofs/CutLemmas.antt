-- A life that is cut level by level.
use Rattle.std.proofs.Common.{◌≡◌, ℕ, suc, zero, ◌+◌, ◌-◌, ◌/◌, ◌%◌, ◌<◌, ◌≤◌, inl, inr, Bool, true, false, cond, refl, ap, sym, ◌∙◌, arith}
use Rattle.std.specs.Prelude.{nat_eq, nat_lt, nat_le, ◌&&◌}
use Rattle.std.proofs.lemmas.Bool.{cases_lt, lt-ltb, le-ltb, eq-eqb, eqb-true, eqb-false}
use Rattle.std.proofs.lemmas.Bool.Decides.{nat_tests}
use borrow.Author.Tests.{ltb-true, ltb-false}
use Rattle.cedr_living.specs.declared.place.Place.{Place}
use Rattle.cedr_living.specs.declared.pieces.Pieces.{Pieces}
use Rattle.cedr_living.specs.Pieces.{pieces, steps, open_pieces, is_rest, half_up, odd_edge, one_if}
use Rattle.cedr_living.specs.Counts.{moved_by}
use Rattle.cedr_living.specs.Indexes.{ShowsCounts, is_of, is_on}
use Rattle.cedr_living.specs.IndexLaws.{shows_alike}
use Rattle.cedr_living.proofs.ShowLemmas.{shifted_twice, on_alike, of_alike, both_or_none}

-- a life that is over has no pieces
pub none_left : (level begin end at : ℕ) → end ≤ begin → pieces level begin end at ≡ 0
none_left zero b e at over = ap (λ t. cond t (odd_edge b b at + odd_edge e (e - 1) at) 0) (le-ltb b e over)
none_left (suc level) b e at over = ap (λ t. cond t (pieces level (half_up b) (e / 2) at) 0) (le-ltb b e over)

-- the pieces at the level itself
pub pieces_here : (begin end at : ℕ) → begin < end → pieces 0 begin end at ≡ odd_edge begin begin at + odd_edge end (end - 1) at
pieces_here b e at less = ap (λ t. cond t (odd_edge b b at + odd_edge e (e - 1) at) 0) (lt-ltb b e less)

-- the pieces at the levels above
pub pieces_above : (level begin end at : ℕ) → begin < end → pieces (suc level) begin end at ≡ pieces level (half_up begin) (end / 2) at
pieces_above level b e at less = ap (λ t. cond t (pieces level (half_up b) (e / 2) at) 0) (lt-ltb b e less)

-- a piece at each end of one level
pub level_shows : (up : Bool) (place place' : Place) (begin end : ℕ) (mid new : Pieces) (counts : Place → ℕ) → begin < end → place'.column ≡ place.column → place'.level ≡ place.level → place'.field ≡ place.field
    → ((counts : Place → ℕ) → ShowsCounts mid counts → ShowsCounts new (λ q. moved_by up (counts q) (cond (is_on place' q) (one_if (nat_eq (end % 2) 1) (end - 1) q.at) 0)))
    → ShowsCounts mid (λ q. moved_by up (counts q) (cond (is_on place q) (one_if (nat_eq (begin % 2) 1) begin q.at) 0))
    → ShowsCounts new (λ q. moved_by up (counts q) (cond (is_on place q) (pieces 0 begin end q.at) 0))
level_shows up place place' b e mid new counts less column level field second first =
    shows_alike new (λ q. moved_by up (moved_by up (counts q) (cond (is_on place q) (odd_edge b b q.at) 0)) (cond (is_on place' q) (odd_edge e (e - 1) q.at) 0))
    (λ q. moved_by up (counts q) (cond (is_on place q) (pieces 0 b e q.at) 0))
    (λ q. shifted_twice up (counts q) (cond (is_on place q) (odd_edge b b q.at) 0) (cond (is_on place' q) (odd_edge e (e - 1) q.at) 0)
    ∙ ap (moved_by up (counts q))
    (ap (λ s. cond (is_on place q) (odd_edge b b q.at) 0 + cond s (odd_edge e (e - 1) q.at) 0) (on_alike place place' q column level field)
    ∙ (both_or_none (is_on place q) (odd_edge b b q.at) (odd_edge e (e - 1) q.at)
    ∙ ap (λ n. cond (is_on place q) n 0) (sym (pieces_here b e q.at less)))))
    (second (λ q. moved_by up (counts q) (cond (is_on place q) (odd_edge b b q.at) 0)) first)

-- what is left from the next level on
pub left_above : (level next k begin end from to at : ℕ) → next ≡ level → from < to → pieces (level + suc k) begin end at ≡ pieces (suc k) from to at → pieces (next + 1 + k) begin end at ≡ pieces k (half_up from) (to / 2) at
left_above level next k b e from to at is less left =
    let same : next + 1 + k ≡ level + suc k = omega arith in
    ap (λ l. pieces l b e at) same ∙ (left ∙ pieces_above k from to at less)

done_by : (level n here there : ℕ) (x y z : Bool) → nat_lt n level ≡ x → nat_eq level n ≡ y → nat_lt n (level + 1) ≡ z → (n ≡ level → here ≡ there) → cond x here 0 + cond y there 0 ≡ cond z here 0
done_by level n here there true true z h k l same = let below = ltb-true n level h in let is = eqb-true level n k in absurd (omega arith)
done_by level n here there true false true h k l same = omega arith
done_by level n here there true false false h k l same = let below = ltb-true n level h in let not_below = ltb-false n (level + 1) l in absurd (omega arith)
done_by level n here there false true true h k l same = let is = eqb-true level n k in let equal = same (omega arith) in omega arith
done_by level n here there false true false h k l same = let is = eqb-true level n k in let not_below = ltb-false n (level + 1) l in absurd (omega arith)
done_by level n here there false false true h k l same = let not_below = ltb-false n level h in let apart = eqb-false level n k in let below = ltb-true n (level + 1) l in absurd (apart (omega arith))
done_by level n here there false false false h k l same = refl

-- a level more is done
pub done_at : (o : Bool) (level n here there : ℕ) → (n ≡ level → here ≡ there) → cond (o && nat_lt n level) here 0 + cond (o && nat_eq level n) there 0 ≡ cond (o && nat_lt n (level + 1)) here 0
done_at false level n here there same = refl
done_at true level n here there same = done_by level n here there (nat_lt n level) (nat_eq level n) (nat_lt n (level + 1)) refl refl refl same

all_done_at : (level n here : ℕ) (x : Bool) → nat_lt n level ≡ x → (level ≤ n → here ≡ 0) → cond x here 0 ≡ here
all_done_at level n here true h none = refl
all_done_at level n here false h none = sym (none (ltb-false n level h))

-- all levels are done where nothing is left
pub all_done : (o : Bool) (level n here : ℕ) → (level ≤ n → here ≡ 0) → cond (o && nat_lt n level) here 0 ≡ cond o here 0
all_done false level n here none = refl
all_done true level n here none = all_done_at level n here (nat_lt n level) refl none

module _ (up : Bool) (place : Place) (all : ℕ → ℕ → ℕ) (counts : Place → ℕ) where
  -- how often a place is that of a piece below a level
  abbrev pub below : ℕ → Place → ℕ
  below level q = moved_by up (counts q) (cond (is_of place.column place.field q && nat_lt q.level level) (all q.level q.at) 0)

  -- a life that is cut down to a level has been cut down to the next one
  pub level_done : (now : ℕ → ℕ) (here : Place) (next : ℕ) (old new : Pieces) → next ≡ here.level → here.column ≡ place.column → here.field ≡ place.field
      → ((at : ℕ) → all here.level at ≡ now at)
      → ((counts : Place → ℕ) → ShowsCounts old counts → ShowsCounts new (λ q. moved_by up (counts q) (cond (is_on here q) (now q.at) 0)))
      → ShowsCounts old (below here.level) → ShowsCounts new (below (next + 1))
  level_done now here next old new is column field left shift done =
      shows_alike new (λ q. moved_by up (below here.level q) (cond (is_on here q) (now q.at) 0)) (below (next + 1))
      (λ q. shifted_twice up (counts q) (cond (is_of place.column place.field q && nat_lt q.level here.level) (all q.level q.at) 0) (cond (is_on here q) (now q.at) 0)
      ∙ ap (moved_by up (counts q))
      (ap (λ o. cond (is_of place.column place.field q && nat_lt q.level here.level) (all q.level q.at) 0 + cond (o && nat_eq here.level q.level) (now q.at) 0) (of_alike place here q column field)
      ∙ (done_at (is_of place.column place.field q) here.level q.level (all q.level q.at) (now q.at) (λ level. ap (λ l. all l q.at) level ∙ left q.at)
      ∙ ap (λ n. cond (is_of place.column place.field q && nat_lt q.level (n + 1)) (all q.level q.at) 0) (sym is))))
      (shift (below here.level) done)

  -- a life of which nothing is left has been cut
  pub life_done : (level : ℕ) (bag : Pieces) → ((n at : ℕ) → level ≤ n → all n at ≡ 0) → ShowsCounts bag (below level) → ShowsCounts bag (λ q. moved_by up (counts q) (cond (is_of place.column place.field q) (all q.level q.at) 0))
  life_done level bag none done =
      shows_alike bag (below level) (λ q. moved_by up (counts q) (cond (is_of place.column place.field q) (all q.level q.at) 0))
      (λ q. ap (moved_by up (counts q)) (all_done (is_of place.column place.field q) level q.level (all q.level q.at) (none q.level q.at)))
      done

-- what is left at the level itself
pub left_here : (level begin end from to at : ℕ) → pieces (level + 0) begin end at ≡ pieces 0 from to at → pieces level begin end at ≡ pieces 0 from to at
left_here level b e from to at left = let same : level ≡ level + 0 = omega arith in ap (λ l. pieces l b e at) same ∙ left

-- where nothing is left no piece is above
pub none_above : (level begin end from to : ℕ) → to ≤ from → ((k at : ℕ) → pieces (level + k) begin end at ≡ pieces k from to at) → (n at : ℕ) → level ≤ n → pieces n begin end at ≡ 0
none_above level b e from to over left n at above =
    let same : n ≡ level + (n - level) = omega arith in
    ap (λ l. pieces l b e at) same ∙ (left (n - level) at ∙ none_left (n - level) from to at over)

-- the steps at the level itself
pub steps_here : (begin at : ℕ) → 1 < begin → steps 0 begin at ≡ odd_edge begin begin at
steps_here b at more = ap (λ t. cond t (odd_edge b b at) 0) (lt-ltb 1 b more)

-- the steps at the levels above
pub steps_above : (level begin at : ℕ) → 1 < begin → steps (suc level) begin at ≡ steps level (half_up begin) at
steps_above level b at more = ap (λ t. cond t (steps level (half_up b) at) 0) (lt-ltb 1 b more)

no_steps : (level begin at : ℕ) → begin ≤ 1 → steps level begin at ≡ 0
no_steps zero b at few = ap (λ t. cond t (odd_edge b b at) 0) (le-ltb 1 b few)
no_steps (suc level) b at few = ap (λ t. cond t (steps level (half_up b) at) 0) (le-ltb 1 b few)

-- what is left of a life without end from the next level on
pub steps_next : (level next k begin from at : ℕ) → next ≡ level → 1 < from → steps (level + suc k) begin at ≡ steps (suc k) from at → steps (next + 1 + k) begin at ≡ steps k (half_up from) at
steps_next level next k b from at is more left =
    let same : next + 1 + k ≡ level + suc k = omega arith in
    ap (λ l. steps l b at) same ∙ (left ∙ steps_above k from at more)

-- what is left of it at the level itself
pub steps_now : (level begin from at : ℕ) → 1 < from → steps (level + 0) begin at ≡ steps 0 from at → steps level begin at ≡ odd_edge from from at
steps_now level b from at more left = let same : level ≡ level + 0 = omega arith in ap (λ l. steps l b at) same ∙ (left ∙ steps_here from at more)

-- where its begin is 1 no steps are above
pub no_steps_above : (level begin from : ℕ) → from ≤ 1 → ((k at : ℕ) → steps (level + k) begin at ≡ steps k from at) → (n at : ℕ) → level ≤ n → steps n begin at ≡ 0
no_steps_above level b from few left n at above =
    let same : n ≡ level + (n - level) = omega arith in
    ap (λ l. steps l b at) same ∙ (left (n - level) at ∙ no_steps (n - level) from at few)

pub rest_above : (level begin : ℕ) → 1 < begin → is_rest (suc level) begin ≡ is_rest level (half_up begin)
rest_above level b more = ap (λ t. t && is_rest level (half_up b)) (lt-ltb 1 b more)

-- the rest is at the next level or above it
pub rest_next : (level next k begin from : ℕ) → next ≡ level → 1 < from → is_rest (level + suc k) begin ≡ is_rest (suc k) from → is_rest (next + 1 + k) begin ≡ is_rest k (half_up from)
rest_next level next k b from is more left =
    let same : next + 1 + k ≡ level + suc k = omega arith in
    ap (λ l. is_rest l b) same ∙ (left ∙ rest_above k from more)

many_not_few : (n : ℕ) → 1 < n → nat_le n 1 ≡ false
many_not_few n more = grind (arith, nat_tests)

pub few_not_many : (n : ℕ) → n ≤ 1 → nat_le n 1 ≡ true
few_not_many n few = grind (arith, nat_tests)

-- and not below
pub rest_not_below : (level next k begin from : ℕ) → next ≡ level → 1 < from → is_rest (level + 0) begin ≡ is_rest 0 from → (k < level → is_rest k begin ≡ false) → k < next + 1 → is_rest k begin ≡ false
rest_not_below level next k b from is more left earlier below = elim (cases_lt k level) [
  | inl less ↦ earlier less
  | inr not_less ↦
      let same : k ≡ level + 0 = omega arith in
      ap (λ l. is_rest l b) same ∙ (left ∙ many_not_few from more)
]

no_rest : (n from : ℕ) → from ≤ 1 → 0 < n → is_rest n from ≡ false
no_rest zero from few some = absurd (omega arith)
no_rest (suc n) from few some = ap (λ t. t && is_rest n (half_up from)) (le-ltb 1 from few)

apart : (n k : ℕ) → n < k → nat_eq n k ≡ false
apart n k h = grind (arith, nat_tests)

apart_back : (n k : ℕ) → k < n → nat_eq n k ≡ false
apart_back n k h = grind (arith, nat_tests)

-- the rest is at the level where the begin is 1
pub rest_here : (level k begin from : ℕ) → from ≤ 1 → ((n : ℕ) → is_rest (level + n) begin ≡ is_rest n from) → ((n : ℕ) → n < level → is_rest n begin ≡ false) → is_rest k begin ≡ nat_eq level k
rest_here level k b from few left earlier = elim (cases_lt k level) [
  | inl less ↦ earlier k less ∙ sym (apart_back level k less)
  | inr not_less ↦ elim (cases_lt level k) [
    | inl more ↦
        let same : k ≡ level + (k - level) = omega arith in
        ap (λ l. is_rest l b) same ∙ (left (k - level) ∙ (no_rest (k - level) from few (omega arith) ∙ sym (apart level k more)))
    | inr not_more ↦
        let same : k ≡ level + 0 = omega arith in
        ap (λ l. is_rest l b) same ∙ (left 0 ∙ (few_not_many from few ∙ sym (eq-eqb level k (omega arith))))
  ]
]

first_or_steps : (o e z w : Bool) (n : ℕ) → cond (o && e) (cond {A = ℕ} (z && w) 1 0) 0 + cond o n 0 ≡ cond o (n + cond {A = ℕ} ((e && z) && w) 1 0) 0
first_or_steps true true z w n = omega arith
first_or_steps true false z w n = omega arith
first_or_steps false e z w n = refl

-- the first time of all, and then the steps
pub open_shows : (up : Bool) (here next : Place) (begin : ℕ) (mid new : Pieces) (counts : Place → ℕ) → here.level ≡ 0 → next.column ≡ here.column → next.field ≡ here.field
    → ((counts : Place → ℕ) → ShowsCounts mid counts → ShowsCounts new (λ q. moved_by up (counts q) (cond (is_of next.column next.field q) (steps q.level begin q.at) 0)))
    → ShowsCounts mid (λ q. moved_by up (counts q) (cond (is_on here q) (one_if (nat_eq begin 0) 0 q.at) 0))
    → ShowsCounts new (λ q. moved_by up (counts q) (cond (is_of here.column here.field q) (open_pieces q.level begin q.at) 0))
open_shows up here next b mid new counts level column field second first =
    shows_alike new (λ q. moved_by up (moved_by up (counts q) (cond (is_on here q) (one_if (nat_eq b 0) 0 q.at) 0)) (cond (is_of next.column next.field q) (steps q.level b q.at) 0))
    (λ q. moved_by up (counts q) (cond (is_of here.column here.field q) (open_pieces q.level b q.at) 0))
    (λ q. shifted_twice up (counts q) (cond (is_on here q) (one_if (nat_eq b 0) 0 q.at) 0) (cond (is_of next.column next.field q) (steps q.level b q.at) 0)
    ∙ ap (moved_by up (counts q))
    (ap (λ o. cond (is_on here q) (one_if (nat_eq b 0) 0 q.at) 0 + cond o (steps q.level b q.at) 0) (of_alike here next q column field)
    ∙ (ap (λ l. cond (is_of here.column here.field q && nat_eq l q.level) (one_if (nat_eq b 0) 0 q.at) 0 + cond (is_of here.column here.field q) (steps q.level b q.at) 0) level
    ∙ first_or_steps (is_of here.column here.field q) (nat_eq 0 q.level) (nat_eq b 0) (nat_eq 0 q.at) (steps q.level b q.at))))
    (second (λ q. moved_by up (counts q) (cond (is_on here q) (one_if (nat_eq b 0) 0 q.at) 0)) first)

-- the rest of a life without end
pub rest_shows : (up : Bool) (place here : Place) (begin : ℕ) (new : Pieces) (counts : Place → ℕ) → here.column ≡ place.column → here.field ≡ place.field → here.at ≡ 1 → ((k : ℕ) → is_rest k begin ≡ nat_eq here.level k)
    → ShowsCounts new (λ q. moved_by up (counts q) (cond (is_on here q) (one_if true here.at q.at) 0))
    → ShowsCounts new (λ q. moved_by up (counts q) (cond (is_of place.column place.field q) (one_if (is_rest q.level begin) 1 q.at) 0))
rest_shows up place here b new counts column field at rest shows =
    shows_alike new (λ q. moved_by up (counts q) (cond (is_on here q) (one_if true here.at q.at) 0)) (λ q. moved_by up (counts q) (cond (is_of place.column place.field q) (one_if (is_rest q.level b) 1 q.at) 0))
    (λ q. ap (moved_by up (counts q))
    (ap (λ n. cond (is_on here q) (one_if true n q.at) 0) at
    ∙ (ap (λ o. cond (o && nat_eq here.level q.level) (one_if true 1 q.at) 0) (of_alike place here q column field)
    ∙ (on_rest (is_of place.column place.field q) (nat_eq here.level q.level) (nat_eq 1 q.at)
    ∙ ap (λ r. cond (is_of place.column place.field q) (one_if r 1 q.at) 0) (sym (rest q.level))))))
    shows
  where
    on_rest : (o e a : Bool) → cond {A = ℕ} (o && e) (cond (true && a) 1 0) 0 ≡ cond o (cond (e && a) 1 0) 0
    on_rest true true a = refl
    on_rest true false a = refl
    on_rest false e a = refl
