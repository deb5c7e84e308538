-- A row more or less at one cut point after the other.
use Rattle.std.proofs.Common.{◌≡◌, ℕ, ◌+◌, ◌<◌, ◌≤◌, inl, inr, List, true, false, cond, Option, None, Some, refl, ap, sym, ◌∙◌, subst, arith}
use Rattle.std.specs.Prelude.{nat_eq, nat_lt, nat_le, ◌&&◌, option_map}
use Rattle.std.specs.Ordering.{nat_cmp}
use Rattle.std.specs.BTreeMap.{is_at}
use Rattle.std.proofs.lemmas.Bool.{cases_lt, eq-eqb}
use Rattle.std.proofs.lemmas.Bool.Decides.{nat_tests}
use Rattle.op_group.specs.declared.segment.Segment.{Segment}
use Rattle.op_group.specs.Cuts.{segment_at}
use Rattle.op_group.specs.TimeLaws.{below_test, above_test}
use Rattle.op_group.proofs.Times.{at_is}

module _ (c0 c1 c2 : List (ℕ × Segment)) (f : ℕ → Segment → Segment) (from at next : ℕ) (low : from ≤ at) (over : at < next)
    (done : (u : ℕ) → segment_at u c1 ≡ cond (nat_le from u && nat_lt u at) (option_map (f u) (segment_at u c0)) (segment_at u c0)) where
  -- a cut point that wasn't reached yet is as it was
  pub not_reached : segment_at at c1 ≡ segment_at at c0
  not_reached = let test : (nat_le from at && nat_lt at at) ≡ false = grind (arith, nat_tests) in done at ∙ ap (λ b. cond b (option_map (f at) (segment_at at c0)) (segment_at at c0)) test

  module _ (edit : (u : ℕ) → segment_at u c2 ≡ cond (is_at (nat_cmp at) u) (option_map (f at) (segment_at at c1)) (segment_at u c1))
      (none : (u : ℕ) → at + 1 ≤ u → u < next → segment_at u c2 ≡ None) where
    elsewhere : (u : ℕ) → nat_eq at u ≡ false → segment_at u c2 ≡ segment_at u c1
    elsewhere u other = edit u ∙ ap (λ b. cond b (option_map (f at) (segment_at at c1)) (segment_at u c1)) (at_is at u ∙ other)

    later : (u : ℕ) → at < u → segment_at u c2 ≡ segment_at u c0
    later u above =
        let test : (nat_le from u && nat_lt u at) ≡ false = grind (arith, nat_tests) in
        elsewhere u (below_test at u above) ∙ (done u ∙ ap (λ b. cond b (option_map (f u) (segment_at u c0)) (segment_at u c0)) test)

    -- one cut point more
    pub one_more : (u : ℕ) → segment_at u c2 ≡ cond (nat_le from u && nat_lt u next) (option_map (f u) (segment_at u c0)) (segment_at u c0)
    one_more u = elim (cases_lt u at) [
      | inl under ↦
          let same : (nat_le from u && nat_lt u at) ≡ (nat_le from u && nat_lt u next) = grind (arith, nat_tests) in
          elsewhere u (above_test at u under) ∙ (done u ∙ ap (λ b. cond b (option_map (f u) (segment_at u c0)) (segment_at u c0)) same)
      | inr not_under ↦ elim (cases_lt at u) [
        | inr here ↦
            let same : at ≡ u = omega arith in
            let test : (nat_le from at && nat_lt at next) ≡ true = grind (arith, nat_tests) in
            subst (λ (t : ℕ). segment_at t c2 ≡ cond (nat_le from t && nat_lt t next) (option_map (f t) (segment_at t c0)) (segment_at t c0)) same
            (edit at
            ∙ (ap (λ b. cond b (option_map (f at) (segment_at at c1)) (segment_at at c1)) (at_is at at ∙ eq-eqb at at refl)
            ∙ (ap (option_map (f at)) not_reached ∙ ap (λ b. cond b (option_map (f at) (segment_at at c0)) (segment_at at c0)) (sym test))))
        | inl above ↦ elim (cases_lt u next) [
          | inl before ↦
              let gone : segment_at u c0 ≡ None = sym (later u above) ∙ none u (omega arith) before in
              let test : (nat_le from u && nat_lt u next) ≡ true = grind (arith, nat_tests) in
              later u above ∙ (gone ∙ (ap (option_map (f u)) (sym gone) ∙ ap (λ b. cond b (option_map (f u) (segment_at u c0)) (segment_at u c0)) (sym test)))
          | inr past ↦
              let test : (nat_le from u && nat_lt u next) ≡ false = grind (arith, nat_tests) in
              later u above ∙ ap (λ b. cond b (option_map (f u) (segment_at u c0)) (segment_at u c0)) (sym test)
        ]
      ]
    ]

-- before the first cut point nothing is done
pub none_done : (c0 : List (ℕ × Segment)) (f : ℕ → Segment → Segment) (from u : ℕ) → segment_at u c0 ≡ cond (nat_le from u && nat_lt u from) (option_map (f u) (segment_at u c0)) (segment_at u c0)
none_done c0 f from u = let test : (nat_le from u && nat_lt u from) ≡ false = grind (arith, nat_tests) in ap (λ b. cond b (option_map (f u) (segment_at u c0)) (segment_at u c0)) (sym test)

-- from the last time on there is none that was done
pub all_done : (c0 c1 : List (ℕ × Segment)) (f : ℕ → Segment → Segment) (from to at : ℕ) → to ≤ at → ((u : ℕ) → to ≤ u → u < at → from ≤ u → segment_at u c1 ≡ None)
    → ((u : ℕ) → segment_at u c1 ≡ cond (nat_le from u && nat_lt u at) (option_map (f u) (segment_at u c0)) (segment_at u c0)) → (u : ℕ) → segment_at u c1 ≡ cond (nat_le from u && nat_lt u to) (option_map (f u) (segment_at u c0)) (segment_at u c0)
all_done c0 c1 f from to at reached none done u = elim (cases_lt u to) [
  | inl under ↦
      let same : (nat_le from u && nat_lt u at) ≡ (nat_le from u && nat_lt u to) = grind (arith, nat_tests) in
      done u ∙ ap (λ b. cond b (option_map (f u) (segment_at u c0)) (segment_at u c0)) same
  | inr over ↦
      let last : (nat_le from u && nat_lt u to) ≡ false = grind (arith, nat_tests) in
      elim (cases_lt u at) [
        | inr past ↦
            let test : (nat_le from u && nat_lt u at) ≡ false = grind (arith, nat_tests) in
            done u ∙ ap (λ b. cond b (option_map (f u) (segment_at u c0)) (segment_at u c0)) (test ∙ sym last)
        | inl before ↦ elim (cases_lt u from) [
          | inl early ↦
              let test : (nat_le from u && nat_lt u at) ≡ false = grind (arith, nat_tests) in
              done u ∙ ap (λ b. cond b (option_map (f u) (segment_at u c0)) (segment_at u c0)) (test ∙ sym last)
          | inr late ↦
              let test : (nat_le from u && nat_lt u at) ≡ true = grind (arith, nat_tests) in
              let nothing = none u over before late in
              let was : option_map (f u) (segment_at u c0) ≡ None = sym (done u ∙ ap (λ b. cond b (option_map (f u) (segment_at u c0)) (segment_at u c0)) test) ∙ nothing in
              nothing ∙ (sym (no_image (segment_at u c0) was) ∙ ap (λ b. cond b (option_map (f u) (segment_at u c0)) (segment_at u c0)) (sym last))
        ]
      ]
]
  where
    no_image : (o : Option Segment) → option_map (f u) o ≡ None → o ≡ None
    no_image None h = refl
    no_image (Some s) h = cc
