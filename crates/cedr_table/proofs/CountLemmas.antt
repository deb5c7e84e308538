-- Counts in a map of rows.
use Rattle.std.proofs.Common.{◌≡◌, ◌≢◌, ℕ, ◌+◌, ◌-◌, ◌*◌, ◌<◌, ◌≤◌, List, [], ◌∷◌, ◌++◌, Bool, true, false, cond, Some, None, Option, refl, ap, sym, ◌∙◌, subst, arith, length, zero, suc}
use Rattle.std.specs.Prelude.{unwrap_or, sum_by, replicate}
use Rattle.std.specs.List.Sorted.{IsStrictlySortedBy}
use Rattle.std.specs.Map.{lookup, keys_of}
use Rattle.std.specs.BTreeMap.{is_at}
use Rattle.std.specs.Ordering.{is_eq}
use Rattle.std.specs.declared.cmp.Ordering.TheVariants.{Less}
use Rattle.cedr_base.specs.declared.row.Row.{Row}
use Rattle.cedr_base.specs.Rows.{row_cmp, same_row, one_if_same, count_of, SameRows}
use Rattle.change_laws.proofs.BagSums.{same_row_is, same_row_equiv}
use Rattle.std.proofs.lemmas.List.Sums.{sum_by-cons}
use Rattle.cedr_base.proofs.Bags.{count_of-cons}
use Rattle.change_laws.proofs.BagSums.{sum_by-same}
use Rattle.std.specs.List.{AllByRecursion}
use Rattle.std.proofs.lemmas.List.Folds.{sum_by-replicate}
use Rattle.cedr_base.proofs.Bags.{same_row_exact, count_of-append}
use Rattle.cedr_table.specs.Counted.{copies, spread, IsCounted, EachIsThere}

-- a map's update finds the row that a count finds
pub test_is : (row q : Row) → is_at (row_cmp row) q ≡ same_row q row
test_is row q = sym (same_row_is row q) ∙ same_row_equiv.symm row q

-- the new map has w for the row, and for each other row what the old map has
abbrev pub IsUpdate : Row → Option ℕ → List (Row × ℕ) → List (Row × ℕ) → Type 0
IsUpdate row w old new = (q : Row) → lookup (is_at (row_cmp q)) new ≡ cond (is_at (row_cmp row) q) w (lookup (is_at (row_cmp q)) old)

added_at : (row q : Row) (old new : List (Row × ℕ)) (b : Bool) → same_row q row ≡ b → lookup (is_at (row_cmp q)) new ≡ cond b (Some (copies old row + 1)) (lookup (is_at (row_cmp q)) old) → copies new q ≡ copies old q + cond b 1 0
added_at row q old new true h e = ap (λ o. unwrap_or o 0) e ∙ ap (λ (r : Row). copies old r + 1) (sym (same_row_exact q row h))
added_at row q old new false h e = ap (λ o. unwrap_or o 0) e ∙ omega arith

-- one copy more counts one more of its row
pub added : (row : Row) (old new : List (Row × ℕ)) → IsUpdate row (Some (copies old row + 1)) old new → (q : Row) → copies new q ≡ copies old q + one_if_same q row
added row old new h q = added_at row q old new (same_row q row) refl (h q ∙ ap (λ b. cond b (Some (copies old row + 1)) (lookup (is_at (row_cmp q)) old)) (test_is row q))

taken_at : (row q : Row) (w : Option ℕ) (old new : List (Row × ℕ)) (b : Bool) → unwrap_or w 0 + 1 ≡ copies old row → same_row q row ≡ b → lookup (is_at (row_cmp q)) new ≡ cond b w (lookup (is_at (row_cmp q)) old) → copies new q + cond b 1 0 ≡ copies old q
taken_at row q w old new true n h e = ap (λ o. unwrap_or o 0 + 1) e ∙ (n ∙ ap (copies old) (sym (same_row_exact q row h)))
taken_at row q w old new false n h e = omega (arith, ap (λ o. unwrap_or o 0) e)

-- one copy less counts one less of its row
pub taken : (row : Row) (w : Option ℕ) (old new : List (Row × ℕ)) → unwrap_or w 0 + 1 ≡ copies old row → IsUpdate row w old new → (q : Row) → copies new q + one_if_same q row ≡ copies old q
taken row w old new n h q = taken_at row q w old new (same_row q row) n refl (h q ∙ ap (λ b. cond b w (lookup (is_at (row_cmp q)) old)) (test_is row q))

there_at : (w o : Option ℕ) (b : Bool) → w ≢ Some 0 → o ≢ Some 0 → cond b w o ≢ Some 0
there_at w o true h k = h
there_at w o false h k = k

-- a map that keeps no row without a copy does so after an update to something else than no copy
pub still_there : (row : Row) (w : Option ℕ) (old new : List (Row × ℕ)) → w ≢ Some 0 → EachIsThere old → IsUpdate row w old new → EachIsThere new
still_there row w old new h k u q e = there_at w (lookup (is_at (row_cmp q)) old) (is_at (row_cmp row) q) h (k q) (sym (u q) ∙ e)

-- so many copies and one more are something
pub one_more : (n : ℕ) → Some (n + 1) ≢ Some 0
one_more n e = let same : n + 1 ≡ 0 = ap (λ o. unwrap_or o 0) e in absurd (omega arith)

-- what a map that keeps no row without a copy has of a row is something
pub there_before : (row : Row) (n : ℕ) (es : List (Row × ℕ)) → EachIsThere es → lookup (is_at (row_cmp row)) es ≡ Some n → 0 < n
there_before row zero es h e = absurd (h row e)
there_before row (suc n) es h e = omega arith

-- where one of two or more goes some stay, and one alone stays
pub some_left : (was left : ℕ) → 0 < was → (1 < was → left + 1 ≡ was) → (was < 2 → left ≡ was) → Some left ≢ Some 0
some_left zero left some lowered others e = absurd (omega (arith, some))
some_left (suc zero) left some lowered others e = let same = others (omega arith) in let none : left ≡ 0 = ap (λ o. unwrap_or o 0) e in absurd (omega arith)
some_left (suc (suc n)) left some lowered others e = let less = lowered (omega arith) in let none : left ≡ 0 = ap (λ o. unwrap_or o 0) e in absurd (omega arith)

beyond : (x : Row) (es : List (Row × ℕ)) → AllByRecursion (λ y. row_cmp x y ≡ Less) (keys_of es) → copies es x ≡ 0
beyond x [] h = refl
beyond x (e ∷ es) h = ap (λ o. unwrap_or (cond (is_eq o) (Some e.1) (lookup (is_at (row_cmp x)) es)) 0) h.0 ∙ beyond x es h.1

seen_at : (r : Row) (e : Row × ℕ) (es : List (Row × ℕ)) (b : Bool) → same_row r e.0 ≡ b → (e.0 ≡ r → copies es r ≡ 0) → count_of r (spread es) ≡ copies es r
    → e.1 * cond b 1 0 + count_of r (spread es) ≡ unwrap_or (cond b (Some e.1) (lookup (is_at (row_cmp r)) es)) 0
seen_at r e es true h last rest = let none = last (sym (same_row_exact r e.0 h)) in omega (arith, none, rest)
seen_at r e es false h last rest = omega (arith, rest)

-- the bag has what the map counts
pub count_spread : (es : List (Row × ℕ)) → IsStrictlySortedBy row_cmp (keys_of es) → (r : Row) → count_of r (spread es) ≡ copies es r
unfolding IsStrictlySortedBy
count_spread [] h r = refl
count_spread (e ∷ es) h r =
    count_of-append r (replicate e.1 e.0) (spread es)
    ∙ (ap (λ n. n + count_of r (spread es)) (sum_by-replicate (one_if_same r) e.1 e.0)
    ∙ (seen_at r e es (same_row r e.0) refl (λ same. subst (λ (x : Row). copies es x ≡ 0) same (beyond e.0 es h.0)) (count_spread es h.1 r)
    ∙ ap (λ b. unwrap_or (cond b (Some e.1) (lookup (is_at (row_cmp r)) es)) 0) (same_row_is r e.0)))

length_is : (xs : List Row) → sum_by (λ _. 1) xs ≡ length xs
length_is [] = refl
length_is (x ∷ xs) = omega (arith, sum_by-cons (λ (_ : Row). 1) x xs, length_is xs)

taken_all_at : (row q : Row) (old new : List (Row × ℕ)) (b : Bool) → same_row q row ≡ b → lookup (is_at (row_cmp q)) new ≡ cond b None (lookup (is_at (row_cmp q)) old) → copies new q + copies old row * cond b 1 0 ≡ copies old q
taken_all_at row q old new true h e = let none : copies new q ≡ 0 = ap (λ o. unwrap_or o 0) e in omega (arith, none, ap (copies old) (same_row_exact q row h))
taken_all_at row q old new false h e = omega (arith, ap (λ o. unwrap_or o 0) e)

-- no copy counts none of its row
pub taken_all : (row : Row) (old new : List (Row × ℕ)) → IsUpdate row None old new → (q : Row) → copies new q + copies old row * one_if_same q row ≡ copies old q
taken_all row old new u q = taken_all_at row q old new (same_row q row) refl (u q ∙ ap (λ b. cond b None (lookup (is_at (row_cmp q)) old)) (test_is row q))

-- the same bags have the same length
pub same_length : (xs ys : List Row) → SameRows xs ys → length xs ≡ length ys
same_length xs ys h = sym (length_is xs) ∙ (sum_by-same (λ _. 1) xs ys h ∙ length_is ys)

-- one copy more
pub inserted_is : (row : Row) (old new : List (Row × ℕ)) → IsStrictlySortedBy row_cmp (keys_of old) → IsStrictlySortedBy row_cmp (keys_of new)
    → ((q : Row) → copies new q ≡ copies old q + one_if_same q row) → SameRows (spread new) (row ∷ spread old)
inserted_is row old new o n h = record { each = λ q. omega (arith, count_of-cons q row (spread old), count_spread new n q, count_spread old o q, h q) }

-- with one copy more, a map that is in order and keeps no row without a copy counts one row more
pub counted_inserted : (row : Row) (old new : List (Row × ℕ)) (len : ℕ) → IsCounted old len → IsStrictlySortedBy row_cmp (keys_of new) → EachIsThere new → SameRows (spread new) (row ∷ spread old) → IsCounted new (len + 1)
counted_inserted row old new len h ordered there same = record {
  ordered = ordered;
  there = there;
  len_is = let e = h.len_is in omega (arith, same_length (spread new) (row ∷ spread old) same);
}

-- all copies less
pub removed_is : (row : Row) (n : ℕ) (old new : List (Row × ℕ)) → IsStrictlySortedBy row_cmp (keys_of old) → IsStrictlySortedBy row_cmp (keys_of new)
    → ((q : Row) → copies new q + n * one_if_same q row ≡ copies old q) → SameRows (replicate n row ++ spread new) (spread old)
removed_is row n old new o k h = record { each = λ q. omega (arith, count_of-append q (replicate n row) (spread new), sum_by-replicate (one_if_same q) n row, count_spread new k q, count_spread old o q, h q) }

-- copies of a row in front of a list make it longer by their number
pub replicated : (n : ℕ) (row : Row) (rows : List Row) → length (replicate n row ++ rows) ≡ n + length rows
replicated zero row rows = omega arith
replicated (suc n) row rows = omega (arith, replicated n row rows)

-- what is left of a counted bag and the copies that were taken out are together as many as it had
pub removed_length : (row : Row) (n len : ℕ) (old new : List (Row × ℕ)) → IsCounted old len → SameRows (replicate n row ++ spread new) (spread old) → length (spread new) + n ≡ len
removed_length row n len old new h same = let e = h.len_is in omega (arith, replicated n row (spread new), same_length (replicate n row ++ spread new) (spread old) same)

-- without some copies, a map that is in order and keeps no row without a copy counts that many rows less
pub counted_removed : (row : Row) (n len : ℕ) (old new : List (Row × ℕ)) → IsCounted old len → IsStrictlySortedBy row_cmp (keys_of new) → EachIsThere new → SameRows (replicate n row ++ spread new) (spread old) → IsCounted new (len - n)
counted_removed row n len old new h ordered there same = record {
  ordered = ordered;
  there = there;
  len_is = let e = removed_length row n len old new h same in omega arith;
}

-- one copy less
pub taken_is : (row : Row) (old new : List (Row × ℕ)) → IsStrictlySortedBy row_cmp (keys_of old) → IsStrictlySortedBy row_cmp (keys_of new)
    → ((q : Row) → copies new q + one_if_same q row ≡ copies old q) → SameRows (row ∷ spread new) (spread old)
taken_is row old new o n h = record { each = λ q. omega (arith, count_of-cons q row (spread new), count_spread old o q, count_spread new n q, h q) }

-- with one copy less, a map that is in order and keeps no row without a copy counts one row less
pub counted_taken : (row : Row) (len : ℕ) (old new : List (Row × ℕ)) → IsCounted old len → IsStrictlySortedBy row_cmp (keys_of new) → EachIsThere new → SameRows (row ∷ spread new) (spread old) → IsCounted new (len - 1)
counted_taken row len old new h ordered there same = record {
  ordered = ordered;
  there = there;
  len_is = let e = h.len_is in omega (arith, same_length (row ∷ spread new) (spread old) same);
}

-- a counted bag of which a copy was taken out had one row at least
pub some_length : (row : Row) (len : ℕ) (old new : List (Row × ℕ)) → IsCounted old len → SameRows (row ∷ spread new) (spread old) → 1 ≤ len
some_length row len old new h same = let e = h.len_is in omega (arith, same_length (row ∷ spread new) (spread old) same)

one_at_most : (b : Bool) → cond {A = ℕ} b 1 0 ≤ 1
one_at_most true = omega arith
one_at_most false = omega arith

count_at_most : (r : Row) (rows : List Row) → count_of r rows ≤ length rows
count_at_most r [] = omega arith
count_at_most r (x ∷ xs) = omega (arith, count_of-cons r x xs, one_at_most (same_row r x), count_at_most r xs)

-- of no row there are more copies than rows in the bag
pub copies_at_most : (row : Row) (len : ℕ) (es : List (Row × ℕ)) → IsCounted es len → copies es row ≤ len
copies_at_most row len es h = let e = h.len_is in omega (arith, count_spread es h.ordered row, count_at_most row (spread es))
