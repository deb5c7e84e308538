-- The rows with tags of a port, as if they never ended.
use Rattle.std.proofs.Common.{◌≡◌, ℕ, ◌<◌, inl, inr, List, [], ◌∷◌, ◌++◌, Bool, true, false, cond, length, refl, ap, sym, ◌∙◌, subst, arith}
use Rattle.std.specs.List.{filter}
use Rattle.std.proofs.lemmas.Bool.{cases_lt}
use Rattle.std.proofs.lemmas.List.{map-append}
use Rattle.cedr_base.specs.declared.field.Field.{Field}
use Rattle.cedr_base.specs.declared.row.Row.{Row}
use Rattle.cedr_base.specs.declared.change.Change.{Change}
use Rattle.cedr_base.specs.declared.change.Change.TheVariants.{Add, Cut}
use Rattle.cedr_base.specs.Rows.{count_of, one_if_same, SameRows}
use Rattle.cedr_base.specs.Changes.{puts, takes, remnant, changed_row}
use Rattle.cedr_base.proofs.Bags.{count_of-append, count_of-cons, one_if_same_exact}
use Rattle.cedr_base.proofs.Sorting.{in_order_counts, same_in_order}
use Rattle.change_laws.proofs.BagSums.{sum_by-same, sum_by-alike_there}
use Rattle.change_laws.proofs.Moves.{remnant_some, remnant_none}
use Rattle.cedr_table.proofs.FilterLemmas.{count-filter}
use Rattle.pat_state.specs.Starts.{endless, all_endless, scope_reaches}
use Rattle.pat_state.specs.Tags.{marked, bag_of, HaveOwnTags, IsRetagged, IsTagged}
use Rattle.pat_state.proofs.EndlessLemmas.{same_endless}
use Rattle.pat_state.proofs.ForgetLemmas.{filter_endless}
use Rattle.pat_state.proofs.TagLemmas.{weight, count_tagged, sum_by-changed}

-- the bag has the rows without their ends
pub bag_rows : (tags : List Row) → SameRows (bag_of tags) (all_endless tags)
bag_rows tags = record { each = λ r. sym ((in_order_counts (all_endless tags)).each r) }

-- rows that are the same without their ends make one bag
pub one_bag : (xs ys : List Row) → SameRows (all_endless xs) (all_endless ys) → bag_of xs ≡ bag_of ys
one_bag xs ys same = same_in_order (all_endless xs) (all_endless ys) same

-- one row more without its end
pub one_row_more : (tag : ℕ) (row : Row) (tags tags' rows : List Row) → SameRows tags' (marked tag row ∷ tags) → SameRows (all_endless tags) (all_endless rows) → SameRows (all_endless tags') (all_endless (rows ++ row ∷ []))
one_row_more tag row tags tags' rows more same = record {
  each = λ r. omega (
    arith,
    (same_endless tags' (marked tag row ∷ tags) more).each r,
    count_of-cons r (endless row) (all_endless tags),
    same.each r,
    ap (count_of r) (map-append endless rows (row ∷ [])),
    count_of-append r (all_endless rows) (endless row ∷ []),
    count_of-cons r (endless row) [],
  );
}

-- a bag goes through a change as its rows with tags do
pub bag_step : (tag : ℕ) (c : Change) (old new : List Row) → IsRetagged tag c old new → SameRows (bag_of new ++ all_endless (takes c)) (bag_of old ++ all_endless (puts c))
bag_step tag (Add a) old new step = record {
  each = λ r. omega (
    arith,
    count_of-append r (bag_of new) [],
    count_of-append r (bag_of old) (endless a ∷ []),
    count_of-cons r (endless a) [],
    (bag_rows new).each r,
    (bag_rows old).each r,
    (same_endless new (marked tag a ∷ old) step).each r,
    count_of-cons r (endless a) (all_endless old),
  );
}
bag_step tag (Cut a e) old new step = elim (cases_lt a.begin e) [
  | inl left ↦
      (let some = ap all_endless (remnant_some a e left) in
      record {
        each = λ r. let k = ap (count_of r) some in let same = ap (λ (rows : List Row). count_of r (bag_of rows)) (step.1 left) in omega (arith, k, same, count_of-append r (bag_of new) (endless a ∷ []), count_of-append r (bag_of old) (all_endless (remnant a e)));
      })
  | inr gone ↦
      (let none = ap all_endless (remnant_none a e gone) in
      record {
        each = λ r. let k = ap (count_of r) none in omega (
          arith,
          k,
          count_of-append r (bag_of new) (endless a ∷ []),
          count_of-append r (bag_of old) (all_endless (remnant a e)),
          count_of-cons r (endless a) [],
          (bag_rows new).each r,
          (bag_rows old).each r,
          (same_endless (marked tag a ∷ new) old (step.0 gone)).each r,
          count_of-cons r (endless a) (all_endless new),
        );
      })
]

-- the rows whose scope lasts make a bag of those whose scope lasts
pub bag_left : (scope time : ℕ) (old new : List Row) → SameRows new (filter (scope_reaches scope time) old) → SameRows (bag_of new) (filter (scope_reaches scope time) (bag_of old))
bag_left scope time old new same = record {
  each = λ r.
      (bag_rows new).each r
      ∙ ((same_endless new (filter (scope_reaches scope time) old) same).each r
      ∙ (ap (count_of r) (filter_endless scope time old)
      ∙ (count-filter r (scope_reaches scope time) (all_endless old)
      ∙ (ap (λ n. cond (scope_reaches scope time r) n 0) (sym ((bag_rows old).each r)) ∙ sym (count-filter r (scope_reaches scope time) (bag_of old))))));
}

-- a row of a filtered bag is in the bag
filtered_there : (p : Row → Bool) (r : Row) (xs : List Row) → 0 < count_of r (filter p xs) → 0 < count_of r xs
filtered_there p r xs there = there_at (p r) refl where
  there_at : (b : Bool) → p r ≡ b → 0 < count_of r xs
  there_at true is = omega (arith, there, count-filter r p xs, ap {B = ℕ} (λ b. cond b (count_of r xs) 0) is)
  there_at false is = absurd (omega (arith, there, count-filter r p xs, ap {B = ℕ} (λ b. cond b (count_of r xs) 0) is))

module _ (tag : List Field → ℕ) where
  -- no row has any tag
  pub none_have : (tags : List Row) → length tags ≡ 0 → HaveOwnTags tag tags
  none_have [] none = λ r there. absurd (omega arith)
  none_have (x ∷ xs) none = absurd (omega arith)

  -- rows with their tags are those of their bag, each with its tag
  pub are_tagged : (tags : List Row) → HaveOwnTags tag tags → IsTagged tag (bag_of tags) tags
  are_tagged tags have = record {
    same = record {
      each = λ r.
          sum_by-alike_there (one_if_same r) (weight tag r) tags (λ x there. ap (one_if_same r) (λ i. record { end = have x there i; begin = x.begin; payload = x.payload }))
          ∙ (sym (sum_by-changed (weight tag r) (weight tag r) endless tags (λ x. refl))
          ∙ (sym (sum_by-same (weight tag r) (bag_of tags) (all_endless tags) (bag_rows tags)) ∙ sym (count_tagged tag r (bag_of tags))));
    };
  }

  -- rows have their tags after a change of one with its tag
  pub have_step : (t : ℕ) (c : Change) (old new : List Row) → tag (changed_row c).payload ≡ t → HaveOwnTags tag old → IsRetagged t c old new → HaveOwnTags tag new
  have_step t (Add a) old new at have step = λ r there. elim (cases_lt 0 (count_of r old)) [
    | inl was ↦ have r was
    | inr none ↦ subst (λ (x : Row). x.end ≡ tag x.payload) (sym (one_if_same_exact r (marked t a) (omega (arith, there, none, step.each r, count_of-cons r (marked t a) old)))) (sym at)
  ]
  have_step t (Cut a e) old new at have step = elim (cases_lt a.begin e) [
    | inl left ↦ subst (HaveOwnTags tag) (sym (step.1 left)) have
    | inr gone ↦ (λ r there. have r (let out = step.0 gone in omega (arith, there, out.each r, count_of-cons r (marked t a) new)))
  ]

  -- so have those that are left of them
  pub have_left : (p : Row → Bool) (old new : List Row) → SameRows new (filter p old) → HaveOwnTags tag old → HaveOwnTags tag new
  have_left p old new same have = λ r there. have r (filtered_there p r old (omega (arith, there, same.each r)))
