-- Which comparisons of some parts are equal.
use Rattle.std.specs.Prelude.{ℕ, ◌≡◌, Bool, true, false, refl, nat_eq, ◌&&◌}
use Rattle.std.specs.declared.cmp.Ordering.{Ordering}
use Rattle.std.specs.declared.cmp.Ordering.TheVariants.{Less, Equal, Greater}
use Rattle.std.specs.Ordering.{nat_cmp, ordering_then, is_eq}
use Rattle.std.proofs.Common.{arith}
use Rattle.std.proofs.lemmas.Bool.Decides.{nat_tests}

-- a number compares as equal where it is the same
pub at_is : (t u : ℕ) → is_eq (nat_cmp t u) ≡ nat_eq t u
at_is t u = grind (arith, nat_tests)

-- which of four comparisons are equal
pub four_at : (a b c d : Ordering) → is_eq (ordering_then a (ordering_then b (ordering_then c d))) ≡ (((is_eq a && is_eq d) && is_eq b) && is_eq c)
four_at Less b c d = refl
four_at Greater b c d = refl
four_at Equal Less c Less = refl
four_at Equal Less c Equal = refl
four_at Equal Less c Greater = refl
four_at Equal Greater c Less = refl
four_at Equal Greater c Equal = refl
four_at Equal Greater c Greater = refl
four_at Equal Equal Less Less = refl
four_at Equal Equal Less Equal = refl
four_at Equal Equal Less Greater = refl
four_at Equal Equal Equal Less = refl
four_at Equal Equal Equal Equal = refl
four_at Equal Equal Equal Greater = refl
four_at Equal Equal Greater Less = refl
four_at Equal Equal Greater Equal = refl
four_at Equal Equal Greater Greater = refl

-- both of two tests that are true
pub both_true : (a b : Bool) → (a && b) ≡ true → (a ≡ true) × (b ≡ true)
both_true true true h = (refl, refl)
both_true true false h = cc
both_true false b h = cc
