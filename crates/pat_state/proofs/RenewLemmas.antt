-- The rows that will be due, noted anew row by row.
use Rattle.std.proofs.Common.{◌≡◌, ℕ, ◌+◌, ◌*◌, ◌<◌, ◌≤◌, ◌⊎◌, inl, inr, List, ◌∷◌, ap, sym, subst, arith, replicate}
use Rattle.std.specs.List.{Contains}
use Rattle.std.specs.List.Sorted.{IsPermutation}
use Rattle.std.proofs.lemmas.Bool.{cases_lt}
use Rattle.std.proofs.lemmas.List.Folds.{sum_by-replicate}
use Rattle.cedr_base.specs.declared.field.Field.{Field}
use Rattle.cedr_base.specs.declared.row.Row.{Row}
use Rattle.cedr_base.specs.Rows.{one_if_same, count_of}
use Rattle.cedr_base.proofs.Bags.{count_of-append, one_if_same_exact}
use Rattle.cedr_table.specs.Counted.{spread}
use Rattle.pat_state.proofs.DueLemmas.{came_there, stays_there}

-- each row is among those that are due, or is still to come
abbrev pub AreDueBut : List Row → List Row → List Row → Type 0
AreDueBut rows rest due = (r : Row) → 0 < count_of r rows → (Contains due r) ⊎ (0 < count_of r rest)

-- copies of a row are copies of no other
same_copies : (r n : Row) (k : ℕ) → 0 < count_of r (replicate k n) → r ≡ n
same_copies r n k there = one_if_same_exact r n (elim (cases_lt 0 (one_if_same r n)) [
  | inl same ↦ same
  | inr none ↦ absurd (let nothing : one_if_same r n ≡ 0 = omega (arith, none) in omega (arith, there, sum_by-replicate (one_if_same r) k n, ap (λ (m : ℕ). k * m) nothing))
])

-- a row came
pub row_renewed : (rows : List Row) (es rest : List (Row × ℕ)) (n : Row) (k : ℕ) (payload : List Field) (due due' : List Row) → es ≡ (n, k) ∷ rest → payload ≡ n.payload
    → IsPermutation (record { end = n.end; begin = n.begin; payload = payload } ∷ due) due' → AreDueBut rows (spread es) due → AreDueBut rows (spread rest) due'
row_renewed rows es rest n k payload due due' is same came noted r there = elim (noted r there) [
  | inl has ↦ inl (stays_there (record { end = n.end; begin = n.begin; payload = payload }) r due due' came has)
  | inr ahead ↦ split (cases_lt 0 (count_of r (spread rest))) (omega (arith, ahead, ap (λ (ds : List (Row × ℕ)). count_of r (spread ds)) is, count_of-append r (replicate k n) (spread rest)))
] where
  here : Contains due' n
  here = subst (λ (fields : List Field). Contains due' (record { end = n.end; begin = n.begin; payload = fields })) same (came_there (record { end = n.end; begin = n.begin; payload = payload }) due due' came)

  split : (0 < count_of r (spread rest)) ⊎ (count_of r (spread rest) ≤ 0) → 0 < count_of r (replicate k n) + count_of r (spread rest) → (Contains due' r) ⊎ (0 < count_of r (spread rest))
  split (inl later) sum = inr later
  split (inr none) sum = inl (subst (Contains due') (sym (same_copies r n k (omega (arith, none, sum)))) here)
