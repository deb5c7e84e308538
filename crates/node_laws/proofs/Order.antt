-- Bags less other bags, filters of bags, and the canonical order.
use Rattle.std.proofs.Common.{◌≡◌, ℕ, ◌-◌, ◌<◌, ◌⊎◌, inl, inr, List, [], ◌∷◌, ◌++◌, Bool, true, false, cond, refl, ap, sym, ◌∙◌, subst, arith}
use Rattle.std.specs.declared.cmp.Ordering.{Ordering}
use Rattle.std.specs.declared.cmp.Ordering.TheVariants.{Less, Equal, Greater}
use Rattle.std.specs.Ordering.{is_gt, is_le, ordering_reverse}
use Rattle.std.proofs.lemmas.Cmp.{upto}
use Rattle.std.proofs.lemmas.Bool.{cases_Bool}
use Rattle.cedr_base.specs.declared.row.Row.{Row}
use Rattle.cedr_base.specs.Rows.{row_cmp, same_row, one_if_same, count_of, SameRows, put_in_order, in_order}
use Rattle.cedr_base.specs.RowLaws.{row_total}
use Rattle.change_laws.specs.Bags.{without}
use Rattle.change_laws.proofs.BagSums.{count_of-itself}
use Rattle.cedr_base.proofs.Bags.{same_row_exact, same_row_itself, count_of-cons}
use Rattle.cedr_base.proofs.RowLemmas.{exact_rows}
use Rattle.node_laws.specs.Surplus.{less, is_after, AllFromRow, Ascend}
use Rattle.cedr_base.proofs.Sorting.{in_order_counts}

not_both_at : (r x y : Row) (b d : Bool) → same_row x y ≡ false → same_row r x ≡ b → same_row r y ≡ d → (cond {A = ℕ} b 1 0 ≡ 0) ⊎ (cond {A = ℕ} d 1 0 ≡ 0)
not_both_at r x y false d h p q = inl refl
not_both_at r x y true false h p q = inr refl
not_both_at r x y true true h p q =
    let e : x ≡ y = sym (same_row_exact r x p) ∙ same_row_exact r y q in
    let t : same_row x y ≡ true = subst (λ (z : Row). same_row x z ≡ true) e (same_row_itself x) in
    cc

not_both : (r x y : Row) → same_row x y ≡ false → (one_if_same r x ≡ 0) ⊎ (one_if_same r y ≡ 0)
not_both r x y h = not_both_at r x y (same_row r x) (same_row r y) h refl refl

count-without_at : (r x y : Row) (ys : List Row) (b : Bool) → same_row x y ≡ b → count_of r (without x ys) ≡ count_of r ys - one_if_same r x → count_of r (cond b ys (y ∷ without x ys)) ≡ count_of r (y ∷ ys) - one_if_same r x
count-without_at r x y ys true h rest = let e = ap (one_if_same r) (same_row_exact x y h) in omega (arith, count_of-cons r y ys, e)
count-without_at r x y ys false h rest = elim (not_both r x y h) [
  | inl a ↦ omega (arith, count_of-cons r y ys, count_of-cons r y (without x ys), rest, a)
  | inr a ↦ omega (arith, count_of-cons r y ys, count_of-cons r y (without x ys), rest, a)
]

-- a bag without one copy of a row has one less of it, where it had any, and the same of each other row
pub count-without : (r x : Row) (ys : List Row) → count_of r (without x ys) ≡ count_of r ys - one_if_same r x
count-without r x [] = omega arith
count-without r x (y ∷ ys) = count-without_at r x y ys (same_row x y) refl (count-without r x ys)

-- of each row a bag less another one has the difference of their counts, and 0 where the other has more
pub count-less : (r : Row) (xs ys : List Row) → count_of r (less xs ys) ≡ count_of r xs - count_of r ys
count-less r xs [] = omega arith
count-less r xs (y ∷ ys) = omega (arith, count-less r (without y xs) ys, count-without r y xs, count_of-cons r y ys)

after_back : (o p : Ordering) → o ≡ ordering_reverse p → is_gt o ≡ true → is_gt p ≡ false
after_back Less p e h = cc
after_back Equal p e h = cc
after_back Greater Less e h = refl
after_back Greater Equal e h = refl
after_back Greater Greater e h = cc

-- of two rows one isn't after the other
pub after_one_way : (a b : Row) → is_after a b ≡ true → is_after b a ≡ false
after_one_way a b h = after_back (row_cmp a b) (row_cmp b a) (row_total.antisymm a b) h

-- where a row isn't after a second one, nor that after a third one, the first isn't after the third
pub up_to : (a b c : Row) → is_after a b ≡ false → is_after b c ≡ false → is_after a c ≡ false
up_to a b c h k = upto row_total a b c h k

tied : (o p : Ordering) → o ≡ ordering_reverse p → is_gt o ≡ false → is_gt p ≡ false → o ≡ Equal
tied Less Less e h k = cc
tied Less Equal e h k = cc
tied Less Greater e h k = cc
tied Equal p e h k = refl
tied Greater p e h k = cc

-- rows of which neither is after the other are one
pub same_place : (a b : Row) → is_after a b ≡ false → is_after b a ≡ false → a ≡ b
same_place a b h k = exact_rows a b (tied (row_cmp a b) (row_cmp b a) (row_total.antisymm a b) h k)

-- no row is after itself
pub not_after_itself : (a : Row) → is_after a a ≡ false
not_after_itself a = elim (cases_Bool (is_after a a)) [ inl t ↦ after_one_way a a t | inr f ↦ f ]

-- a row that isn't after one that stands after no row of a list stands after none of them either
pub all_from-weaker : (r x : Row) (xs : List Row) → is_after r x ≡ false → AllFromRow x xs → AllFromRow r xs
all_from-weaker r x [] h k = tt
all_from-weaker r x (y ∷ ys) h k = (up_to r x y h k.0, all_from-weaker r x ys h k.1)

all_from_at : (r x y : Row) (ys : List Row) (b : Bool) → same_row x y ≡ b → is_after r y ≡ false → 0 < count_of x (y ∷ ys) → (0 < count_of x ys → is_after r x ≡ false) → is_after r x ≡ false
all_from_at r x y ys true h k there rest = subst (λ (z : Row). is_after r z ≡ false) (sym (same_row_exact x y h)) k
all_from_at r x y ys false h k there rest = rest (let c = ap {B = ℕ} (λ b. cond b 1 0) h in omega (arith, count_of-cons x y ys, c))

-- a row that stands after no row of a list isn't after a row that is in it
pub all_from-there : (r x : Row) (xs : List Row) → AllFromRow r xs → 0 < count_of x xs → is_after r x ≡ false
all_from-there r x [] h there = absurd (omega arith)
all_from-there r x (y ∷ ys) h there = all_from_at r x y ys (same_row x y) refl h.0 there (all_from-there r x ys h.1)

put_from : (r x : Row) (xs : List Row) (b : Bool) → is_after r x ≡ false → AllFromRow r xs → AllFromRow r (x ∷ xs)
put_from r x xs b h k = (h, k)

all_from-put_at : (a r x : Row) (xs : List Row) (b : Bool) → is_after a r ≡ false → is_after a x ≡ false → AllFromRow a xs → AllFromRow a (put_in_order r xs) → AllFromRow a (cond b (r ∷ x ∷ xs) (x ∷ put_in_order r xs))
all_from-put_at a r x xs true h k l m = (h, (k, l))
all_from-put_at a r x xs false h k l m = (k, m)

all_from-put : (a r : Row) (xs : List Row) → is_after a r ≡ false → AllFromRow a xs → AllFromRow a (put_in_order r xs)
all_from-put a r [] h k = (h, tt)
all_from-put a r (x ∷ xs) h k = all_from-put_at a r x xs (is_le (row_cmp r x)) h k.0 k.1 (all_from-put a r xs h k.1)

le_not_gt : (o : Ordering) → is_le o ≡ true → is_gt o ≡ false
le_not_gt Less h = refl
le_not_gt Equal h = refl
le_not_gt Greater h = cc

not_le_gt : (o : Ordering) → is_le o ≡ false → is_gt o ≡ true
not_le_gt Less h = cc
not_le_gt Equal h = cc
not_le_gt Greater h = refl

ascend-put_at : (r x : Row) (xs : List Row) (b : Bool) → is_le (row_cmp r x) ≡ b → AllFromRow x xs → Ascend xs → Ascend (put_in_order r xs) → Ascend (cond b (r ∷ x ∷ xs) (x ∷ put_in_order r xs))
ascend-put_at r x xs true h from up rest = let low = le_not_gt (row_cmp r x) h in ((low, all_from-weaker r x xs low from), (from, up))
ascend-put_at r x xs false h from up rest = (all_from-put x r xs (after_one_way r x (not_le_gt (row_cmp r x) h)) from, rest)

ascend-put : (r : Row) (xs : List Row) → Ascend xs → Ascend (put_in_order r xs)
ascend-put r [] h = (tt, tt)
ascend-put r (x ∷ xs) h = ascend-put_at r x xs (is_le (row_cmp r x)) refl h.0 h.1 (ascend-put r xs h.1)

-- the rows of a bag in canonical order ascend
pub ascend-in_order : (xs : List Row) → Ascend (in_order xs)
ascend-in_order [] = tt
ascend-in_order (x ∷ xs) = ascend-put x (in_order xs) (ascend-in_order xs)

-- the rows of a bag in canonical order are the same bag
pub count-in_order : (q : Row) (xs : List Row) → count_of q (in_order xs) ≡ count_of q xs
count-in_order q xs = sym ((in_order_counts xs).each q)

-- a bag has one list in canonical order
pub one_order : (xs ys : List Row) → Ascend xs → Ascend ys → SameRows xs ys → xs ≡ ys
one_order [] [] h k same = refl
one_order [] (y ∷ ys) h k same = absurd (let e = same.each y in omega (arith, count_of-itself y ys))
one_order (x ∷ xs) [] h k same = absurd (let e = same.each x in omega (arith, count_of-itself x xs))
one_order (x ∷ xs) (y ∷ ys) h k same =
    let ex = same.each x in
    let ey = same.each y in
    let down : is_after y x ≡ false = all_from-there y x (y ∷ ys) (not_after_itself y, k.0) (omega (arith, count_of-itself x xs)) in
    let up : is_after x y ≡ false = all_from-there x y (x ∷ xs) (not_after_itself x, h.0) (omega (arith, count_of-itself y ys)) in
    let e : x ≡ y = same_place x y up down in
    let rest : xs ≡ ys = one_order xs ys h.1 k.1 (record { each = λ r. let f = same.each r in let g = ap (one_if_same r) e in omega (arith, count_of-cons r x xs, count_of-cons r y ys) }) in
    cc

-- a list that ascends and is the same bag as another is that bag in canonical order
pub canonical_is : (xs ys : List Row) → Ascend ys → ((r : Row) → count_of r ys ≡ count_of r xs) → in_order xs ≡ ys
canonical_is xs ys up same = one_order (in_order xs) ys (ascend-in_order xs) up (record { each = λ r. count-in_order r xs ∙ sym (same r) })

-- a bag has one canonical order
pub one_canonical : (xs ys : List Row) → SameRows xs ys → in_order xs ≡ in_order ys
one_canonical xs ys same = canonical_is xs (in_order ys) (ascend-in_order ys) (λ r. count-in_order r ys ∙ sym (same.each r))

-- a row that stands after no row of two lists stands after none of the joined list
pub all_from-append : (r : Row) (xs ys : List Row) → AllFromRow r xs → AllFromRow r ys → AllFromRow r (xs ++ ys)
all_from-append r [] ys h k = k
all_from-append r (x ∷ xs) ys h k = (h.0, all_from-append r xs ys h.1 k)

-- lists that ascend, the second from all rows of the first on
pub ascend-append : (xs ys : List Row) → Ascend xs → Ascend ys → ((x y : Row) → 0 < count_of x xs → 0 < count_of y ys → is_after x y ≡ false) → Ascend (xs ++ ys)
ascend-append [] ys h k over = k
ascend-append (x ∷ xs) ys h k over = (
  all_from-append x xs ys h.0 (all_from x ys (λ y there. over x y (count_of-itself x xs) there)),
  ascend-append xs ys h.1 k (λ a b p q. over a b (omega (arith, count_of-cons a x xs)) q),
) where
  all_from : (x : Row) (ys : List Row) → ((y : Row) → 0 < count_of y ys → is_after x y ≡ false) → AllFromRow x ys
  all_from x [] h = tt
  all_from x (y ∷ ys) h = (h y (count_of-itself y ys), all_from x ys (λ z there. h z (omega (arith, count_of-cons z y ys))))
