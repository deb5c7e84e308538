-- A search among rows in canonical order finds a row where it is there.
use Rattle.std.proofs.Common.{◌≡◌, ℕ, suc, ◌<◌, inl, inr, List, [], ◌∷◌, Result, Ok, Err, length, get_or, ap, sym, ◌∙◌, arith}
use Rattle.std.specs.Prelude.{nat_lt, is_ok}
use Rattle.std.specs.List.Sorted.{IsSorted, IsBinarySearchResult, IsSearchInRange}
use Rattle.std.specs.declared.cmp.Ordering.TheVariants.{Equal}
use Rattle.std.proofs.lemmas.Bool.{cases_lt, lt-ltb, le-ltb}
use Rattle.std.proofs.lemmas.Cmp.{tied_itself}
use Rattle.std.proofs.lemmas.List.Sorted.{searchable_from_sorted}
use Rattle.std.proofs.lemmas.List.Sums.{get_or-le-sum_by}
use Rattle.cedr_base.specs.declared.row.Row.{Row}
use Rattle.cedr_base.specs.Rows.{row_cmp, one_if_same, count_of}
use Rattle.cedr_base.specs.RowLaws.{row_total}
use Rattle.cedr_base.proofs.RowLemmas.{exact_rows}
use Rattle.cedr_base.proofs.Bags.{count_of-cons, one_of_itself, one_if_same_exact}

record IsPlaced (row : Row) (rows : List Row) : Type 0 where
  place : ℕ
  within : place < length rows
  is : (d : Row) → get_or rows place d ≡ row

-- a row that is among others has a place
placed : (row : Row) (rows : List Row) → 0 < count_of row rows → IsPlaced row rows
placed row [] h = absurd (omega arith)
placed row (x ∷ xs) h = elim (cases_lt 0 (one_if_same row x)) [
  | inl here ↦ record { place = 0; within = omega arith; is = λ d. sym (one_if_same_exact row x here) }
  | inr not_here ↦ let rest = placed row xs (omega (arith, count_of-cons row x xs)) in record { place = suc rest.place; within = let w = rest.within in omega arith; is = λ d. rest.is d }
]

-- a binary search of sorted rows finds a row exactly where it is among them
pub found_where_there : (rows : List Row) (row : Row) (r : Result ℕ ℕ) → IsSorted row_cmp rows → IsSearchInRange r (length rows) → IsBinarySearchResult (λ y. row_cmp y row) rows r → is_ok r ≡ nat_lt 0 (count_of row rows)
found_where_there rows row (Ok i) sorted range found =
    let is : get_or rows i row ≡ row = exact_rows (get_or rows i row) row (found row) in
    sym (lt-ltb 0 (count_of row rows) (omega (arith, get_or-le-sum_by (one_if_same row) rows i row range, ap (one_if_same row) is, one_of_itself row)))
found_where_there rows row (Err i) sorted range found = elim (cases_lt 0 (count_of row rows)) [
  | inr none ↦ sym (le-ltb 0 (count_of row rows) none)
  | inl there ↦
      let at = placed row rows there in
      let parts = found (searchable_from_sorted row_total (λ x. x) rows row sorted) in
      let itself : row_cmp (get_or rows at.place row) row ≡ Equal = ap (λ x. row_cmp x row) (at.is row) ∙ tied_itself row_total row in
      elim (cases_lt at.place i) [
        | inl before ↦ let less = parts.0 at.place row (omega arith) before in cc
        | inr after ↦ let greater = parts.1 at.place row after at.within in cc
      ]
]
