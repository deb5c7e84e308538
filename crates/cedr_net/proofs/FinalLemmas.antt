-- The rows of an output that are final, and the others.
use Rattle.std.proofs.Common.{◌≡◌, true, false, ℕ, zero, suc, ◌+◌, ◌<◌, inl, inr, List, [], ◌∷◌, ◌++◌, Bool, cond, refl, ap, sym, ◌∙◌, subst, arith, append_assoc}
use Rattle.std.specs.Prelude.{replicate, filter, Some}
use Rattle.std.specs.declared.cmp.Ordering.TheVariants.{Less}
use Rattle.std.specs.Ordering.{is_le, nat_cmp, ordering_then}
use Rattle.std.specs.Cmp.{nat_cmp_is}
use Rattle.std.proofs.lemmas.Bool.{cases_lt}
use Rattle.std.proofs.lemmas.Cmp.{tied_itself}
use Rattle.cedr_base.specs.declared.row.Row.{Row}
use Rattle.cedr_base.specs.Rows.{row_cmp, count_of, SameRows, put_in_order, in_order}
use Rattle.cedr_base.specs.Order.{payload_cmp}
use Rattle.cedr_base.specs.RowLaws.{row_total}
use Rattle.cedr_base.proofs.Bags.{count_of-append, count_of-cons, one_of_itself, one_if_same_exact}
use Rattle.cedr_base.proofs.Sorting.{in_order_counts, same_in_order}
use Rattle.cedr_table.specs.Counted.{IsFirst, IsTakenOut}
use Rattle.cedr_table.proofs.FilterLemmas.{count-filter, none_of_these}

-- no row of a bag stands before this one
abbrev pub IsLeast : Row → List Row → Type 0
IsLeast x rows = (r : Row) → 0 < count_of r rows → is_le (row_cmp x r) ≡ true

-- no row of the second bag stands before one of the first
abbrev pub StandBefore : List Row → List Row → Type 0
StandBefore xs ys = (x : Row) → 0 < count_of x xs → IsLeast x ys

itself_there : (x : Row) (xs : List Row) → 0 < count_of x (x ∷ xs)
itself_there x xs = omega (arith, count_of-cons x x xs, one_of_itself x)

later_there : (r x : Row) (xs : List Row) → 0 < count_of r xs → 0 < count_of r (x ∷ xs)
later_there r x xs there = omega (arith, count_of-cons r x xs)

-- a least row comes first
put_least : (x : Row) (rows : List Row) → IsLeast x rows → put_in_order x rows ≡ x ∷ rows
put_least x [] least = refl
put_least x (y ∷ ys) least = ap (λ b. cond b (x ∷ y ∷ ys) (y ∷ put_in_order x ys)) (least y (itself_there y ys))

put_before_at : (x y : Row) (xs ys zs : List Row) (b : Bool) → zs ≡ put_in_order x xs ++ ys → cond b (x ∷ y ∷ (xs ++ ys)) (y ∷ zs) ≡ cond b (x ∷ y ∷ xs) (y ∷ put_in_order x xs) ++ ys
put_before_at x y xs ys zs true rest = refl
put_before_at x y xs ys zs false rest = ap (λ (rs : List Row). y ∷ rs) rest

-- a row that stands before no row of the second list has its place in the first
put_before : (x : Row) (xs ys : List Row) → IsLeast x ys → put_in_order x (xs ++ ys) ≡ put_in_order x xs ++ ys
put_before x [] ys least = put_least x ys least
put_before x (y ∷ xs) ys least = put_before_at x y xs ys (put_in_order x (xs ++ ys)) (is_le (row_cmp x y)) (put_before x xs ys least)

least_ordered : (x : Row) (ys : List Row) → IsLeast x ys → IsLeast x (in_order ys)
least_ordered x ys least = λ r there. least r (let same = (in_order_counts ys).each r in omega arith)

-- two bags, of which the second has no row that stands before one of the first, are in order one after the other
pub both_in_order : (xs ys : List Row) → StandBefore xs ys → in_order (xs ++ ys) ≡ in_order xs ++ in_order ys
both_in_order [] ys before = refl
both_in_order (x ∷ xs) ys before =
    ap (put_in_order x) (both_in_order xs ys (λ r there. before r (later_there r x xs there)))
    ∙ put_before x (in_order xs) (in_order ys) (least_ordered x ys (before x (itself_there x xs)))

-- a row in order is in order however often it is there
pub copies_in_order : (n : ℕ) (x : Row) → in_order (replicate n x) ≡ replicate n x
copies_in_order zero x = refl
copies_in_order (suc n) x = ap (put_in_order x) (copies_in_order n x) ∙ put_copies n x where
  put_copies : (n : ℕ) (x : Row) → put_in_order x (replicate n x) ≡ x ∷ replicate n x
  put_copies zero x = refl
  put_copies (suc n) x = ap (λ b. cond b (x ∷ x ∷ replicate n x) (x ∷ put_in_order x (replicate n x))) (ap is_le (tied_itself row_total x))

-- of copies of a row each is that row
pub copy_is : (n : ℕ) (r x : Row) → 0 < count_of r (replicate n x) → r ≡ x
copy_is zero r x there = absurd (omega arith)
copy_is (suc n) r x there = elim (cases_lt 0 (count_of r (replicate n x))) [
  | inl later ↦ copy_is n r x later
  | inr none ↦ one_if_same_exact r x (omega (arith, count_of-cons r x (replicate n x)))
]

-- the first row of a bag, all its copies, and then the others in order
pub first_in_order : (n : ℕ) (x : Row) (all left : List Row) → IsLeast x all → SameRows (replicate n x ++ left) all → in_order all ≡ replicate n x ++ in_order left
first_in_order n x all left least same =
    let before : StandBefore (replicate n x) left = λ r there q in_left. subst (λ (z : Row). is_le (row_cmp z q) ≡ true) (sym (copy_is n r x there)) (least q (let e = same.each q in omega (arith, count_of-append q (replicate n x) left))) in
    sym (same_in_order (replicate n x ++ left) all same)
    ∙ (both_in_order (replicate n x) left before ∙ ap (λ (rs : List Row). rs ++ in_order left) (copies_in_order n x))

-- what ends before another row stands before it
pub ends_before : (a b : Row) → a.end < b.end → is_le (row_cmp a b) ≡ true
ends_before a b earlier = ap (λ o. is_le (ordering_then o (ordering_then (nat_cmp a.begin b.begin) (payload_cmp a.payload b.payload)))) (sym (nat_cmp_is a.end b.end Less earlier))

-- ---- rows that leave a table

passed_at : (r : Row) (p : Row → Bool) (xs : List Row) (b : Bool) → p r ≡ b → 0 < cond b (count_of r xs) 0 → (p r ≡ true) × (0 < count_of r xs)
passed_at r p xs true is there = (is, there)
passed_at r p xs false is there = absurd (omega arith)

-- a row of those that pass is one that does
pub passed : (r : Row) (p : Row → Bool) (xs : List Row) → 0 < count_of r (filter p xs) → (p r ≡ true) × (0 < count_of r xs)
passed r p xs there = passed_at r p xs (p r) refl (let e = count-filter r p xs in omega arith)

left_at : (goes : Row → Bool) (row r : Row) (n : ℕ) (all left : List Row) (b : Bool) → goes r ≡ b → goes row ≡ true → count_of r (replicate n row) + count_of r left ≡ count_of r all
    → count_of r (replicate n row) + cond b (count_of r left) 0 ≡ cond b (count_of r all) 0
left_at goes row r n all left true is passes sum = sum
left_at goes row r n all left false is passes sum = omega (arith, none_of_these goes row r n passes is)

-- the copies of one row that passes go, and the others that pass stay
those_left : (goes : Row → Bool) (row : Row) (n : ℕ) (all left : List Row) → goes row ≡ true → SameRows (replicate n row ++ left) all → SameRows (replicate n row ++ filter goes left) (filter goes all)
those_left goes row n all left passes same = record {
  each = λ r.
      let sum : count_of r (replicate n row) + count_of r left ≡ count_of r all = sym (count_of-append r (replicate n row) left) ∙ same.each r in
      omega (arith, count_of-append r (replicate n row) (filter goes left), count-filter r goes left, count-filter r goes all, left_at goes row r n all left (goes r) refl passes sum);
}

-- the first row that passes is taken, all its copies: then those before it are followed by the others that pass
pub one_taken : (goes : Row → Bool) (row : Row) (n : ℕ) (all left rows rows' : List Row) → IsTakenOut goes all left (Some (row, n)) → IsFirst row all → rows' ≡ rows ++ replicate n row
    → rows' ++ in_order (filter goes left) ≡ rows ++ in_order (filter goes all)
one_taken goes row n all left rows rows' out first is =
    ap (λ (rs : List Row). rs ++ in_order (filter goes left)) is
    ∙ (append_assoc rows (replicate n row) (in_order (filter goes left))
    ∙ ap (λ (rs : List Row). rows ++ rs) (sym (first_in_order n row (filter goes all) (filter goes left) (λ r there. first.least r (passed r goes all there).1) (those_left goes row n all left out.0 out.3))))

none_at : (n : ℕ) (b : Bool) → (0 < n → b ≡ false) → cond b n 0 ≡ 0
none_at zero true none = refl
none_at (suc n) true none = let e = none (omega arith) in cc
none_at n false none = refl

-- where no row passes there is nothing to take
pub none_taken : (goes : Row → Bool) (all : List Row) → ((r : Row) → 0 < count_of r all → goes r ≡ false) → in_order (filter goes all) ≡ []
none_taken goes all none = same_in_order (filter goes all) [] (record { each = λ r. count-filter r goes all ∙ none_at (count_of r all) (goes r) (none r) })

-- the same for the first row of all
pub first_taken : (row : Row) (n : ℕ) (all left rows rows' : List Row) → IsFirst row all → SameRows (replicate n row ++ left) all → rows' ≡ rows ++ replicate n row → rows' ++ in_order left ≡ rows ++ in_order all
first_taken row n all left rows rows' first same is =
    ap (λ (rs : List Row). rs ++ in_order left) is
    ∙ (append_assoc rows (replicate n row) (in_order left) ∙ ap (λ (rs : List Row). rows ++ rs) (sym (first_in_order n row all left first.least same)))
