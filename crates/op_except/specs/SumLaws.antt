-- Sums over filtered rows, and the shares of rows before a time.
use Rattle.std.proofs.Common.{◌≡◌, ℕ, ◌+◌, List, [], ◌∷◌, Bool, true, false, cond, refl, arith}
use Rattle.std.specs.Prelude.{sum_by}
use Rattle.std.specs.List.{filter}
use Rattle.std.proofs.lemmas.List.Sums.{sum_by-cons}
use Rattle.cedr_base.specs.declared.row.Row.{Row}
use Rattle.change_laws.proofs.AgreeLemmas.{share}
use Rattle.change_laws.proofs.AgreeSums.{SeesUpTo, late_share, clipped_share}

-- the share of a row before a time sees no further
pub share_sees : (t : ℕ) (q : Row) → SeesUpTo t (share t q)
share_sees t q = record {
  late = λ x row from. late_share t q x from;
  early = λ x row before. clipped_share t q x;
}

-- a sum over the rows that pass
pub sum_by-filter : (w : Row → ℕ) (p : Row → Bool) (xs : List Row) → sum_by w (filter p xs) ≡ sum_by (λ x. cond (p x) (w x) 0) xs
sum_by-filter w p [] = refl
sum_by-filter w p (x ∷ xs) = omega (arith, filtered_at (p x), sum_by-cons (λ (y : Row). cond (p y) (w y) 0) x xs, sum_by-filter w p xs) where
  filtered_at : (b : Bool) → sum_by w (cond b (x ∷ filter p xs) (filter p xs)) ≡ cond b (w x) 0 + sum_by w (filter p xs)
  filtered_at true = sum_by-cons w x (filter p xs)
  filtered_at false = omega arith
