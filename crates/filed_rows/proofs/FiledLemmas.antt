-- Rows that are filed under tags, and what a change does to them.
use Rattle.std.proofs.Common.{◌≡◌, ◌≢◌, ℕ, ◌+◌, ◌<◌, ◌⊎◌, inl, inr, List, [], ◌∷◌, ◌++◌, Bool, true, false, cond, Some, refl, ap, sym, ◌∙◌, arith}
use Rattle.std.specs.Prelude.{unwrap_or, nat_lt}
use Rattle.std.specs.List.{AllByRecursion}
use Rattle.std.specs.List.Sorted.{IsStrictlySortedBy}
use Rattle.std.specs.Map.{lookup, keys_of}
use Rattle.std.specs.BTreeMap.{is_at}
use Rattle.std.specs.Ordering.{is_eq, nat_cmp}
use Rattle.std.specs.declared.cmp.Ordering.TheVariants.{Less}
use Rattle.std.proofs.lemmas.Cmp.{tied_itself, nat_cmp_total}
use Rattle.std.proofs.lemmas.Map.Lookups.{exact_unsigned}
use Rattle.std.proofs.lemmas.Bool.{cases_lt, cases_eq}
use Rattle.cedr_base.specs.declared.field.Field.{Field}
use Rattle.cedr_base.specs.declared.row.Row.{Row}
use Rattle.cedr_base.specs.declared.change.Change.{Change}
use Rattle.cedr_base.specs.declared.change.Change.TheVariants.{Add, Cut}
use Rattle.cedr_base.specs.Rows.{count_of, SameRows}
use Rattle.cedr_base.specs.Changes.{puts, takes, changed_row}
use Rattle.cedr_base.proofs.Bags.{count_of-append, one_if_same_exact}
use Rattle.change_laws.specs.Repairs.{IsMoved}
use Rattle.filed_rows.specs.Filed.{FiledRows, under, all_under, Files}
use Rattle.cedr_expr.proofs.TieLemmas.{from_is_eq}

-- a tag compares to itself as equal
itself : (t : ℕ) → is_eq (nat_cmp t t) ≡ true
itself t = ap is_eq (tied_itself nat_cmp_total t)

differs_at : (t q : ℕ) (b : Bool) → is_eq (nat_cmp t q) ≡ b → q ≢ t → b ≡ false
differs_at t q true h other = absurd (other (sym (exact_unsigned t q (from_is_eq (nat_cmp t q) h))))
differs_at t q false h other = refl

-- other tags don't compare as equal
differs : (t q : ℕ) → q ≢ t → is_eq (nat_cmp t q) ≡ false
differs t q other = differs_at t q (is_eq (nat_cmp t q)) refl other

-- rows that a change takes have its row's payload
takes_payload : (c : Change) (r : Row) → 0 < count_of r (takes c) → r.payload ≡ (changed_row c).payload
takes_payload (Add a) r there = absurd (omega arith)
takes_payload (Cut a e) r there = ap (λ (x : Row). x.payload) (one_if_same_exact r a (omega arith))

remnant_payload : (a r : Row) (e : ℕ) (b : Bool) → 0 < count_of r (cond b (record a { end = e } ∷ []) []) → r.payload ≡ a.payload
remnant_payload a r e true there = ap (λ (x : Row). x.payload) (one_if_same_exact r (record a { end = e }) (omega arith))
remnant_payload a r e false there = absurd (omega arith)

-- rows that a change puts have its row's payload
puts_payload : (c : Change) (r : Row) → 0 < count_of r (puts c) → r.payload ≡ (changed_row c).payload
puts_payload (Add a) r there = ap (λ (x : Row). x.payload) (one_if_same_exact r a (omega arith))
puts_payload (Cut a e) r there = remnant_payload a r e (nat_lt a.begin e) there

-- a number that isn't above 0 is 0
pub none_else : (n : ℕ) → ((0 < n) → ⊥) → n ≡ 0
none_else n h = elim (cases_lt 0 n) [ inl some ↦ absurd (h some) | inr none ↦ omega arith ]

module _ (tag : List Field → ℕ) (c : Change) where
  abbrev own : ℕ
  own = tag (changed_row c).payload

  -- a change has no row of another tag
  other_takes : (r : Row) → tag r.payload ≢ own → count_of r (takes c) ≡ 0
  other_takes r other = none_else (count_of r (takes c)) (λ there. other (ap tag (takes_payload c r there)))

  other_puts : (r : Row) → tag r.payload ≢ own → count_of r (puts c) ≡ 0
  other_puts r other = none_else (count_of r (puts c)) (λ there. other (ap tag (puts_payload c r there)))

  module _ (old new : FiledRows) (table after : List Row) (files : Files tag old table)
      (here : SameRows (under new own ++ takes c) (under old own ++ puts c))
      (others : (q : ℕ) → q ≢ own → under new q ≡ under old q)
      (moved : IsMoved c table after) where
    abbrev sums : (r : Row) → count_of r after + count_of r (takes c) ≡ count_of r table + count_of r (puts c)
    sums r = sym (count_of-append r after (takes c)) ∙ (moved.sums.each r ∙ count_of-append r table (puts c))

    abbrev under_sums : (r : Row) → count_of r (under new own) + count_of r (takes c) ≡ count_of r (under old own) + count_of r (puts c)
    under_sums r = sym (count_of-append r (under new own) (takes c)) ∙ (here.each r ∙ count_of-append r (under old own) (puts c))

    there_at : (r : Row) → (tag r.payload ≡ own) ⊎ (tag r.payload ≢ own) → count_of r (under new (tag r.payload)) ≡ count_of r after
    there_at r (inl same) =
        let was = files.there r in
        let old_is = ap (λ (k : ℕ). count_of r (under old k)) same in
        let new_is = ap (λ (k : ℕ). count_of r (under new k)) same in
        omega (arith, was, old_is, new_is, sums r, under_sums r)
    there_at r (inr other) =
        let was = files.there r in
        let stay = ap (count_of r) (others (tag r.payload) other) in
        omega (arith, was, stay, sums r, other_takes r other, other_puts r other)

    only_at : (q : ℕ) (r : Row) → q ≢ tag r.payload → (q ≡ own) ⊎ (q ≢ own) → count_of r (under new q) ≡ 0
    only_at q r apart (inl same) =
        let was = files.only q r apart in
        let other : tag r.payload ≢ own = λ e. apart (same ∙ sym e) in
        let old_is = ap (λ (k : ℕ). count_of r (under old k)) same in
        let new_is = ap (λ (k : ℕ). count_of r (under new k)) same in
        omega (arith, was, old_is, new_is, under_sums r, other_takes r other, other_puts r other)
    only_at q r apart (inr other) = ap (count_of r) (others q other) ∙ files.only q r apart

    -- what is filed goes through a change as its bag does
    pub files_moved : Files tag new after
    files_moved = record {
      there = λ r. there_at r (cases_eq (tag r.payload) own);
      only = λ q r apart. only_at q r apart (cases_eq q own);
    }

pub under_first : (e : ℕ × List Row) (es : FiledRows) → under (e ∷ es) e.0 ≡ e.1
under_first e es = ap (λ b. unwrap_or (cond b (Some e.1) (lookup (is_at (nat_cmp e.0)) es)) []) (itself e.0)

pub under_later : (e : ℕ × List Row) (es : FiledRows) (q : ℕ) → q ≢ e.0 → under (e ∷ es) q ≡ under es q
under_later e es q other = ap (λ b. unwrap_or (cond b (Some e.1) (lookup (is_at (nat_cmp q)) es)) []) (differs q e.0 (λ same. other (sym same)))

-- no row is under a tag below all tags
pub beyond : (x : ℕ) (es : FiledRows) → AllByRecursion (λ y. nat_cmp x y ≡ Less) (keys_of es) → under es x ≡ []
beyond x [] h = refl
beyond x (e ∷ es) h = ap (λ o. unwrap_or (cond (is_eq o) (Some e.1) (lookup (is_at (nat_cmp x)) es)) []) h.0 ∙ beyond x es h.1

-- a row that is under one tag alone is under all tags as often as it is there
pub count_all : (filed : FiledRows) → IsStrictlySortedBy nat_cmp (keys_of filed) → (k : ℕ) (r : Row) → ((q : ℕ) → q ≢ k → count_of r (under filed q) ≡ 0)
    → count_of r (all_under filed) ≡ count_of r (under filed k)
unfolding IsStrictlySortedBy
count_all [] sorted k r only = refl
count_all (e ∷ es) sorted k r only =
    all_at e es k r (beyond e.0 es sorted.0) only (cases_eq k e.0) (λ rest. count_all es sorted.1 k r rest) where
      rest_only : (e : ℕ × List Row) (es : FiledRows) (k : ℕ) (r : Row) → under es e.0 ≡ [] → ((q : ℕ) → q ≢ k → count_of r (under (e ∷ es) q) ≡ 0) → (q : ℕ) → q ≢ k → (q ≡ e.0) ⊎ (q ≢ e.0) → count_of r (under es q) ≡ 0
      rest_only e es k r gone only q apart (inl same) = ap (λ (x : ℕ). count_of r (under es x)) same ∙ ap (count_of r) gone
      rest_only e es k r gone only q apart (inr other) = sym (ap (count_of r) (under_later e es q other)) ∙ only q apart

      all_at : (e : ℕ × List Row) (es : FiledRows) (k : ℕ) (r : Row) → under es e.0 ≡ [] → ((q : ℕ) → q ≢ k → count_of r (under (e ∷ es) q) ≡ 0)
          → (k ≡ e.0) ⊎ (k ≢ e.0) → (((q : ℕ) → q ≢ k → count_of r (under es q) ≡ 0) → count_of r (all_under es) ≡ count_of r (under es k))
          → count_of r (all_under (e ∷ es)) ≡ count_of r (under (e ∷ es) k)
      all_at e es k r gone only (inl same) rest =
          let tail = rest (λ q apart. rest_only e es k r gone only q apart (cases_eq q e.0)) in
          let none = ap (λ (x : ℕ). count_of r (under es x)) same ∙ ap (count_of r) gone in
          let first = ap (λ (x : ℕ). count_of r (under (e ∷ es) x)) same ∙ ap (count_of r) (under_first e es) in
          omega (arith, tail, none, first, count_of-append r e.1 (all_under es))
      all_at e es k r gone only (inr other) rest =
          let tail = rest (λ q apart. rest_only e es k r gone only q apart (cases_eq q e.0)) in
          let none = sym (ap (count_of r) (under_first e es)) ∙ only e.0 (λ same. other (sym same)) in
          let later = ap (count_of r) (under_later e es k other) in
          omega (arith, tail, none, later, count_of-append r e.1 (all_under es))

-- where the rows of a bag are filed, so are those of the same bag
pub files_alike : (tag : List Field → ℕ) (filed : FiledRows) (xs ys : List Row) → SameRows xs ys → Files tag filed xs → Files tag filed ys
files_alike tag filed xs ys same files = record { there = λ r. files.there r ∙ same.each r; only = files.only }
