-- Tests on times.
use Rattle.std.proofs.Common.{◌≡◌, ℕ, ◌<◌, ◌≤◌, inl, inr, Bool, true, false, cond, refl, ap, arith}
use Rattle.std.specs.Prelude.{nat_eq, nat_lt, nat_le, ◌&&◌}
use Rattle.std.proofs.lemmas.Bool.{cases_lt, eq-eqb}
use Rattle.std.proofs.lemmas.Bool.Decides.{nat_tests}
use Rattle.op_group.specs.Cuts.{one_at}

-- a time isn't equal to a later one
pub below_test : (t u : ℕ) → t < u → nat_eq t u ≡ false
below_test t u h = grind (arith, nat_tests)

-- a time isn't equal to an earlier one
pub above_test : (t u : ℕ) → u < t → nat_eq t u ≡ false
above_test t u h = grind (arith, nat_tests)

-- one at a time is 1 at that time
pub one_here : (t : ℕ) → one_at t t ≡ 1
one_here t = ap {B = ℕ} (λ b. cond b 1 0) (eq-eqb t t refl)

-- one at a time is 0 at each other time
pub one_elsewhere : (t u : ℕ) → nat_eq t u ≡ false → one_at t u ≡ 0
one_elsewhere t u h = ap {B = ℕ} (λ b. cond b 1 0) h

-- two counts of one copy or none are the same where each is one where the other is something
pub same_count : (m n : ℕ) → (0 < m → n ≡ 1) → (0 < n → m ≡ 1) → m ≡ n
same_count m n f g = elim (cases_lt 0 m) [
  | inl some ↦ let one = f some in let other = g (omega arith) in omega arith
  | inr none ↦ elim (cases_lt 0 n) [ inl some ↦ let one = g some in absurd (omega arith) | inr nothing ↦ omega arith ]
]

-- what is false isn't true
pub false_not_true : (b : Bool) → b ≡ false → b ≡ true → ⊥
false_not_true true h k = cc
false_not_true false h k = cc

-- a row that neither begins nor ends after one time and up to a later one is valid at both or at neither
pub still_valid : (begin end p t : ℕ) → p ≤ t → (p < begin → begin ≤ t → ⊥) → (p < end → end ≤ t → ⊥) → (nat_le begin t && nat_lt t end) ≡ (nat_le begin p && nat_lt p end)
still_valid begin end p t h b e = grind (arith, nat_tests)

-- a row isn't valid before its begin
pub not_valid_yet : (begin end t : ℕ) → t < begin → (nat_le begin t && nat_lt t end) ≡ false
not_valid_yet begin end t h = grind (arith, nat_tests)
