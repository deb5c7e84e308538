-- Bags of rows by their counts.
use Rattle.std.proofs.Common.{◌≡◌, ℕ, ◌+◌, ◌<◌, List, ◌∷◌, ◌++◌, Bool, true, false, cond, refl, ap, arith}
use Rattle.std.specs.declared.cmp.Ordering.{Ordering}
use Rattle.std.specs.declared.cmp.Ordering.TheVariants.{Less, Equal, Greater}
use Rattle.std.specs.Ordering.{is_eq}
use Rattle.std.proofs.lemmas.Cmp.{tied_itself}
use Rattle.std.proofs.lemmas.List.Sums.{sum_by-cons, sum_by-append}
use Rattle.cedr_base.specs.declared.row.Row.{Row}
use Rattle.cedr_base.specs.Rows.{row_cmp, same_row, one_if_same, count_of}
use Rattle.cedr_base.specs.RowLaws.{row_total}
use Rattle.cedr_base.proofs.RowLemmas.{exact_rows}

from_is_eq : (o : Ordering) → is_eq o ≡ true → o ≡ Equal
from_is_eq Less h = cc
from_is_eq Equal h = refl
from_is_eq Greater h = cc

-- rows that compare as equal are one
pub same_row_exact : (a b : Row) → same_row a b ≡ true → a ≡ b
unfolding same_row
same_row_exact a b h = exact_rows a b (from_is_eq (row_cmp a b) h)

-- a row is the same as itself
pub same_row_itself : (a : Row) → same_row a a ≡ true
unfolding same_row
same_row_itself a = ap is_eq (tied_itself row_total a)

-- the copies of a row in two lists, one after the other, are those in the first and those in the second
pub count_of-append : (r : Row) (xs ys : List Row) → count_of r (xs ++ ys) ≡ count_of r xs + count_of r ys
count_of-append r xs ys = sum_by-append (one_if_same r) xs ys

-- a list has one copy of a row more than its rest where its first row is the same, and else as many
pub count_of-cons : (r x : Row) (xs : List Row) → count_of r (x ∷ xs) ≡ one_if_same r x + count_of r xs
count_of-cons r x xs = sum_by-cons (one_if_same r) x xs

-- a row counts as one copy of itself
pub one_of_itself : (r : Row) → one_if_same r r ≡ 1
one_of_itself r = ap {B = ℕ} (λ b. cond b 1 0) (same_row_itself r)

one_is : (r x : Row) (b : Bool) → same_row r x ≡ b → 0 < cond {A = ℕ} b 1 0 → r ≡ x
one_is r x true h k = same_row_exact r x h
one_is r x false h k = absurd (omega arith)

-- a row that another counts as a copy of is that row
pub one_if_same_exact : (r x : Row) → 0 < one_if_same r x → r ≡ x
one_if_same_exact r x h = one_is r x (same_row r x) refl h
