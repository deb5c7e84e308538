-- Sums modulo 2^128, one by one.
use Rattle.std.proofs.Common.{◌≡◌, ℕ, zero, suc, ◌+◌, ◌%◌, ◌^◌, ◌<◌, ◌≤◌, List, [], ◌∷◌, take, length, get_or, refl, ap, sym, arith, min}
use Rattle.std.proofs.Math.ListN.{set}
use Rattle.op_group.specs.Cuts.{summed}

summed_none : (xs : List ℕ) → summed xs [] ≡ xs
summed_none [] = refl
summed_none (x ∷ xs) = refl

-- one number more
pub summed_more : (xs ns : List ℕ) (i : ℕ) → i < length xs → i < length ns → set (summed xs (take i ns)) i ((get_or (summed xs (take i ns)) i 0 + get_or ns i 0) % 2 ^ 128) ≡ summed xs (take (suc i) ns)
summed_more [] ns i h k = absurd (omega arith)
summed_more (x ∷ xs) [] i h k = absurd (omega arith)
summed_more (x ∷ xs) (n ∷ ns) zero h k = ap (λ ys. ((x + n) % 2 ^ 128) ∷ ys) (sym (summed_none xs))
summed_more (x ∷ xs) (n ∷ ns) (suc i) h k = ap (λ ys. ((x + n) % 2 ^ 128) ∷ ys) (summed_more xs ns i (omega arith) (omega arith))

-- as many numbers as there are sums, or as there are
pub summed_all : (xs ns : List ℕ) (i : ℕ) → min (length xs) (length ns) ≤ i → summed xs (take i ns) ≡ summed xs ns
summed_all [] ns i h = refl
summed_all (x ∷ xs) [] zero h = refl
summed_all (x ∷ xs) [] (suc i) h = refl
summed_all (x ∷ xs) (n ∷ ns) zero h = absurd (omega arith)
summed_all (x ∷ xs) (n ∷ ns) (suc i) h = ap (λ ys. ((x + n) % 2 ^ 128) ∷ ys) (summed_all xs ns i (omega arith))

-- sums to which nothing was added yet are the same
pub summed_start : (xs : List ℕ) → xs ≡ summed xs []
summed_start xs = sym (summed_none xs)
