-- What pieces show as lives come and go.
use Rattle.std.proofs.Common.{◌≡◌, ℕ, ◌+◌, ◌<◌, ◌≤◌, ◌⊎◌, inl, inr, Bool, true, false, cond, refl, ap, sym, ◌∙◌, arith}
use Rattle.std.specs.Prelude.{nat_eq, ◌&&◌}
use Rattle.std.specs.Ordering.{is_eq}
use Rattle.std.specs.Option.{option_cmp}
use Rattle.std.proofs.lemmas.Bool.{cases_lt, eqb-true}
use Rattle.cedr_base.specs.Order.{field_cmp}
use Rattle.cedr_living.specs.declared.place.Place.{Place}
use Rattle.cedr_living.specs.declared.pieces.Pieces.{Pieces}
use Rattle.cedr_living.specs.Pieces.{one_if}
use Rattle.cedr_living.specs.Counts.{moved_by, counted, CountsOne}
use Rattle.cedr_living.specs.Indexes.{ShowsCounts, place_cmp, is_of, is_on}
use Rattle.cedr_living.specs.CompareLaws.{both_true}
use Rattle.cedr_living.proofs.PlaceLemmas.{place_exact}
use Rattle.cedr_living.proofs.CountLemmas.{shifts, one_at_place}

-- twice more or less is once more or less by both
pub shifted_twice : (up : Bool) (n x y : ℕ) → moved_by up (moved_by up n x) y ≡ moved_by up n (x + y)
shifted_twice true n x y = omega arith
shifted_twice false n x y = omega arith

-- where there is something after a shift, there was something before or one more came
pub shifted_some : (up : Bool) (n k : ℕ) → 0 < moved_by up n k → (0 < n) ⊎ ((up ≡ true) × (0 < k))
shifted_some true n k some = elim (cases_lt 0 n) [ inl was ↦ inl was | inr none ↦ inr (refl, omega arith) ]
shifted_some false n k some = inl (omega arith)

on_level_at : (place q : Place) (k : ℕ) (b : Bool) → is_on place q ≡ b → 0 < cond b k 0 → place.level ≡ q.level
on_level_at place q k true is some = eqb-true place.level q.level (both_true (is_of place.column place.field q) (nat_eq place.level q.level) is).1
on_level_at place q k false is some = absurd (omega arith)

shift_within : (up : Bool) (place q : Place) (old new : Pieces) (counts : Place → ℕ) (k : ℕ) → new.low ≤ old.low → old.high ≤ new.high → (up ≡ true → (new.low ≤ place.level) × (place.level < new.high))
    → ShowsCounts old counts → 0 < moved_by up (counts q) (cond (is_on place q) k 0) → (new.low ≤ q.level) × (q.level < new.high)
shift_within up place q old new counts k low high own shows some = elim (shifted_some up (counts q) (cond (is_on place q) k 0) some) [
  | inl was ↦ let range = shows.within q was in (omega arith, omega arith)
  | inr more ↦
      let level = on_level_at place q k (is_on place q) refl more.1 in
      let range = own more.0 in (omega arith, omega arith)
]

-- one more or one less at a place
pub shift_shows : (up : Bool) (place : Place) (old new : Pieces) → CountsOne up place_cmp place old.counts.entries new.counts.entries → new.low ≤ old.low → old.high ≤ new.high → (up ≡ true → (new.low ≤ place.level) × (place.level < new.high))
    → (counts : Place → ℕ) → ShowsCounts old counts → ShowsCounts new (λ q. moved_by up (counts q) (cond (is_on place q) (one_if true place.at q.at) 0))
shift_shows up place old new one low high own counts shows = record {
  at = λ q. shifts place_cmp place_exact up place old.counts.entries new.counts.entries one counts shows.at q ∙ ap (λ k. counted (moved_by up (counts q) k)) (sym (one_at_place place q));
  within = λ q some. shift_within up place q old new counts (one_if true place.at q.at) low high own shows some;
}

-- places with one column, one level and one field
pub on_alike : (p p' q : Place) → p'.column ≡ p.column → p'.level ≡ p.level → p'.field ≡ p.field → is_on p' q ≡ is_on p q
on_alike p p' q column level field = λ i. (nat_eq (column i) q.column && is_eq (option_cmp field_cmp (field i) q.field)) && nat_eq (level i) q.level

-- places with one column and one field
pub of_alike : (p p' q : Place) → p'.column ≡ p.column → p'.field ≡ p.field → is_of p'.column p'.field q ≡ is_of p.column p.field q
of_alike p p' q column field = λ i. nat_eq (column i) q.column && is_eq (option_cmp field_cmp (field i) q.field)

-- both of two numbers or none
pub both_or_none : (s : Bool) (x y : ℕ) → cond s x 0 + cond s y 0 ≡ cond s (x + y) 0
both_or_none true x y = refl
both_or_none false x y = refl

-- nothing more
pub if_false : (s : Bool) → cond {A = ℕ} s 0 0 ≡ 0
if_false true = refl
if_false false = refl
