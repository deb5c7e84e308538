-- A sorted list of a bag's rows is the bag in canonical order.
use Rattle.std.proofs.Common.{◌≡◌, ℕ, suc, ◌+◌, ◌<◌, inl, inr, List, [], ◌∷◌, Bool, true, false, cond, get_or, refl, ap, sym, ◌∙◌, subst, arith}
use Rattle.std.specs.declared.cmp.Ordering.{Ordering}
use Rattle.std.specs.declared.cmp.Ordering.TheVariants.{Less, Equal, Greater}
use Rattle.std.specs.Ordering.{is_le, is_lt, is_gt, ordering_reverse}
use Rattle.std.specs.List.Sorted.{IsSorted, IsPermutation}
use Rattle.std.proofs.lemmas.Cmp.{upto, tied_itself}
use Rattle.std.proofs.lemmas.List.Sorted.{sum_by-IsPermutation}
use Rattle.std.proofs.lemmas.Bool.{cases_lt}
use Rattle.cedr_base.specs.declared.row.Row.{Row}
use Rattle.cedr_base.specs.Rows.{row_cmp, one_if_same, count_of, SameRows, put_in_order, in_order}
use Rattle.cedr_base.specs.RowLaws.{row_total}
use Rattle.cedr_base.proofs.RowLemmas.{exact_rows}
use Rattle.cedr_base.proofs.Bags.{count_of-cons, one_of_itself, one_if_same_exact}

-- a row doesn't come after another
record IsBelow (a b : Row) : Type 0 where
  not_behind : is_gt (row_cmp a b) ≡ false

below_itself : (a : Row) → IsBelow a a
below_itself a = record { not_behind = ap is_gt (tied_itself row_total a) }

below_both : (a b c : Row) → IsBelow a b → IsBelow b c → IsBelow a c
below_both a b c low high = record { not_behind = upto row_total a b c low.not_behind high.not_behind }

both_ways : (o p : Ordering) → o ≡ ordering_reverse p → is_gt o ≡ false → is_gt p ≡ false → o ≡ Equal
both_ways Less Less h a b = cc
both_ways Less Equal h a b = cc
both_ways Less Greater h a b = cc
both_ways Equal p h a b = refl
both_ways Greater p h a b = cc

one_row : (a b : Row) → IsBelow a b → IsBelow b a → a ≡ b
one_row a b low high = exact_rows a b (both_ways (row_cmp a b) (row_cmp b a) (row_total.antisymm a b) low.not_behind high.not_behind)

le_not_gt : (o : Ordering) → is_le o ≡ true → is_gt o ≡ false
le_not_gt Less h = refl
le_not_gt Equal h = refl
le_not_gt Greater h = cc

not_le_other : (o p : Ordering) → p ≡ ordering_reverse o → is_le o ≡ false → is_gt p ≡ false
not_le_other Less p r h = cc
not_le_other Equal p r h = cc
not_le_other Greater p r h = ap is_gt r

not_lt_other : (o p : Ordering) → p ≡ ordering_reverse o → is_lt o ≡ false → is_gt p ≡ false
not_lt_other Less p r h = cc
not_lt_other Equal p r h = ap is_gt r
not_lt_other Greater p r h = ap is_gt r

-- no row stands before a lesser one
abbrev Ascends : List Row → Type 0
Ascends [] = Unit {0}
Ascends (x ∷ xs) = ((r : Row) → 0 < count_of r xs → IsBelow x r) × Ascends xs

-- a row of a list is its first row or stands after it
first_or_later : (r x : Row) (xs : List Row) → 0 < count_of r (x ∷ xs) → IsBelow x x → ((s : Row) → 0 < count_of s xs → IsBelow x s) → IsBelow x r
first_or_later r x xs there itself later = elim (cases_lt 0 (count_of r xs)) [
  | inl in_rest ↦ later r in_rest
  | inr not_in_rest ↦ subst (IsBelow x) (sym (one_if_same_exact r x (omega (arith, count_of-cons r x xs)))) itself
]

first_is_least : (x : Row) (xs : List Row) → Ascends (x ∷ xs) → (r : Row) → 0 < count_of r (x ∷ xs) → IsBelow x r
first_is_least x xs up r there = first_or_later r x xs there (below_itself x) up.0

-- two lists of the same rows that ascend are one
one_order : (xs ys : List Row) → Ascends xs → Ascends ys → SameRows xs ys → xs ≡ ys
one_order [] [] ups upt same = refl
one_order [] (y ∷ ys) ups upt same = absurd (omega (arith, same.each y, count_of-cons y y ys, one_of_itself y))
one_order (x ∷ xs) [] ups upt same = absurd (omega (arith, same.each x, count_of-cons x x xs, one_of_itself x))
one_order (x ∷ xs) (y ∷ ys) ups upt same =
    let here : x ≡ y = one_row x y
    (first_is_least x xs ups y (omega (arith, same.each y, count_of-cons y y ys, one_of_itself y)))
    (first_is_least y ys upt x (omega (arith, same.each x, count_of-cons x x xs, one_of_itself x))) in
    let rest : xs ≡ ys = one_order xs ys ups.1 upt.1 (record { each = λ r. omega (arith, same.each r, count_of-cons r x xs, count_of-cons r y ys, ap (one_if_same r) here) }) in
    cc

put_counts_at : (r x y : Row) (ys zs : List Row) (b : Bool) → count_of r zs ≡ one_if_same r x + count_of r ys → count_of r (cond b (x ∷ y ∷ ys) (y ∷ zs)) ≡ one_if_same r x + count_of r (y ∷ ys)
put_counts_at r x y ys zs true h = count_of-cons r x (y ∷ ys)
put_counts_at r x y ys zs false h = omega (arith, h, count_of-cons r y zs, count_of-cons r y ys)

put_counts : (r x : Row) (xs : List Row) → count_of r (put_in_order x xs) ≡ one_if_same r x + count_of r xs
put_counts r x [] = omega arith
put_counts r x (y ∷ ys) = put_counts_at r x y ys (put_in_order x ys) (is_le (row_cmp x y)) (put_counts r x ys)

in_order_count : (r : Row) (xs : List Row) → count_of r xs ≡ count_of r (in_order xs)
in_order_count r [] = refl
in_order_count r (x ∷ xs) = omega (arith, count_of-cons r x xs, put_counts r x (in_order xs), in_order_count r xs)

-- the canonical order has the same rows
pub in_order_counts : (xs : List Row) → SameRows xs (in_order xs)
in_order_counts xs = record { each = λ r. in_order_count r xs }

put_ascends_at : (x y : Row) (ys zs : List Row) (b : Bool) → is_le (row_cmp x y) ≡ b → Ascends (y ∷ ys) → Ascends zs → ((r : Row) → count_of r zs ≡ one_if_same r x + count_of r ys) → Ascends (cond b (x ∷ y ∷ ys) (y ∷ zs))
put_ascends_at x y ys zs true test up rest counts =
    let low : IsBelow x y = record { not_behind = le_not_gt (row_cmp x y) test } in
    (λ r there. below_both x y r low (first_is_least y ys up r there), up)
put_ascends_at x y ys zs false test up rest counts =
    let low : IsBelow y x = record { not_behind = not_le_other (row_cmp x y) (row_cmp y x) (row_total.antisymm y x) test } in (
      λ r there. elim (cases_lt 0 (count_of r ys)) [
        | inl in_rest ↦ up.0 r in_rest
        | inr not_in_rest ↦ subst (IsBelow y) (sym (one_if_same_exact r x (omega (arith, counts r)))) low
      ],
      rest,
    )

put_ascends : (x : Row) (xs : List Row) → Ascends xs → Ascends (put_in_order x xs)
put_ascends x [] up = (λ r there. absurd (omega arith), tt)
put_ascends x (y ∷ ys) up = put_ascends_at x y ys (put_in_order x ys) (is_le (row_cmp x y)) refl up (put_ascends x ys up.1) (λ r. put_counts r x ys)

in_order_ascends : (xs : List Row) → Ascends (in_order xs)
in_order_ascends [] = tt
in_order_ascends (x ∷ xs) = put_ascends x (in_order xs) (in_order_ascends xs)

-- the neighbours of a sorted list's tail
sorted_tail : (x : Row) (xs : List Row) → IsSorted row_cmp (x ∷ xs) → IsSorted row_cmp xs
sorted_tail x xs sorted k d low high =
    let next : suc k + 1 ≡ suc (k + 1) = omega arith in
    subst (λ (n : ℕ). is_lt (row_cmp (get_or (x ∷ xs) n d) (get_or xs k d)) ≡ false) next (sorted (suc k) d (omega arith) (omega arith))

ascends_from_sort : (xs : List Row) → IsSorted row_cmp xs → Ascends xs
ascends_from_sort [] sorted = tt
ascends_from_sort (x ∷ []) sorted = (λ r there. absurd (omega arith), tt)
ascends_from_sort (x ∷ y ∷ ys) sorted =
    let rest = ascends_from_sort (y ∷ ys) (sorted_tail x (y ∷ ys) sorted) in
    let low : IsBelow x y = record { not_behind = not_lt_other (row_cmp y x) (row_cmp x y) (row_total.antisymm x y) (sorted 0 x (omega arith) (omega arith)) } in
    (λ r there. below_both x y r low (first_is_least y ys rest r there), rest)

-- what a sort makes of a bag
pub sorted_is_in_order : (xs ys : List Row) → IsPermutation xs ys → IsSorted row_cmp ys → ys ≡ in_order xs
sorted_is_in_order xs ys moved sorted =
    one_order ys (in_order xs) (ascends_from_sort ys sorted) (in_order_ascends xs) (record { each = λ r. sum_by-IsPermutation (one_if_same r) xs ys moved ∙ in_order_count r xs })

-- a bag has one canonical order
pub same_in_order : (xs ys : List Row) → SameRows xs ys → in_order xs ≡ in_order ys
same_in_order xs ys same =
    one_order (in_order xs) (in_order ys) (in_order_ascends xs) (in_order_ascends ys) (record { each = λ r. sym (in_order_count r xs) ∙ (same.each r ∙ in_order_count r ys) })
