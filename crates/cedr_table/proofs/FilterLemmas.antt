-- Counts of rows that pass a test, and rows that leave a bag one after the other.
use Rattle.std.proofs.Common.{◌≡◌, ℕ, ◌*◌, ◌<◌, ◌≤◌, inl, inr, List, [], ◌∷◌, ◌++◌, Bool, true, false, cond, not, refl, ap, sym, ◌∙◌, arith, length}
use Rattle.std.specs.Prelude.{filter, replicate, sum_by, Some}
use Rattle.std.specs.declared.cmp.Ordering.TheVariants.{Greater}
use Rattle.std.specs.Ordering.{is_le, nat_cmp, ordering_then}
use Rattle.std.specs.Cmp.{nat_cmp_is}
use Rattle.cedr_base.specs.Order.{payload_cmp}
use Rattle.std.proofs.lemmas.Bool.{cases_lt, lt-ltb, ltb-true}
use Rattle.std.proofs.lemmas.List.Sums.{sum_by-cons}
use Rattle.std.proofs.lemmas.List.Folds.{sum_by-replicate}
use Rattle.cedr_base.specs.declared.row.Row.{Row}
use Rattle.cedr_base.specs.declared.change.Change.{Change}
use Rattle.cedr_base.specs.Rows.{row_cmp, same_row, one_if_same, count_of, SameRows}
use Rattle.cedr_base.specs.Changes.{puts, takes, MayFollow}
use Rattle.cedr_base.proofs.Bags.{same_row_exact, count_of-append, count_of-cons}
use Rattle.change_laws.proofs.BagSums.{sum_by-same}
use Rattle.change_laws.specs.Repairs.{IsMoved}
use Rattle.change_laws.proofs.Moves.{applied, applied_moves}
use Rattle.cedr_table.specs.Counted.{ends_after, IsTakenOut, SameAmong}
use Rattle.cedr_table.proofs.CountLemmas.{same_length, replicated}

filter_at : (r x : Row) (p : Row → Bool) (xs : List Row) (b d : Bool) → p x ≡ b → same_row r x ≡ d → count_of r (filter p xs) ≡ cond (p r) (count_of r xs) 0
    → count_of r (cond b (x ∷ filter p xs) (filter p xs)) ≡ cond (p r) (count_of r (x ∷ xs)) 0
filter_at r x p xs true false h k rest =
    let none = ap {B = ℕ} (λ b. cond b 1 0) k in
    let same : count_of r (x ∷ xs) ≡ count_of r xs = omega (arith, count_of-cons r x xs, none) in
    omega (arith, count_of-cons r x (filter p xs), none, rest, ap (λ n. cond (p r) n 0) same)
filter_at r x p xs false false h k rest =
    let none = ap {B = ℕ} (λ b. cond b 1 0) k in
    let same : count_of r (x ∷ xs) ≡ count_of r xs = omega (arith, count_of-cons r x xs, none) in
    omega (arith, rest, ap (λ n. cond (p r) n 0) same)
filter_at r x p xs true true h k rest =
    let t : p r ≡ true = ap p (same_row_exact r x k) ∙ h in
    let one = ap (λ b. cond b (count_of r xs) 0) t in
    let two = ap (λ b. cond b (count_of r (x ∷ xs)) 0) t in
    omega (arith, count_of-cons r x (filter p xs), count_of-cons r x xs, rest, one, two)
filter_at r x p xs false true h k rest =
    let t : p r ≡ false = ap p (same_row_exact r x k) ∙ h in
    let one = ap (λ b. cond b (count_of r xs) 0) t in
    let two = ap (λ b. cond b (count_of r (x ∷ xs)) 0) t in
    omega (arith, rest, one, two)

-- a test that reads the row keeps all copies of it or none
pub count-filter : (r : Row) (p : Row → Bool) (xs : List Row) → count_of r (filter p xs) ≡ cond (p r) (count_of r xs) 0
count-filter r p [] = none (p r) where
  none : (b : Bool) → 0 ≡ cond {A = ℕ} b 0 0
  none true = refl
  none false = refl
count-filter r p (x ∷ xs) = filter_at r x p xs (p x) (same_row r x) refl refl (count-filter r p xs)

not_cond : (b : Bool) (n : ℕ) → cond (not b) n 0 ≡ cond b 0 n
not_cond true n = refl
not_cond false n = refl

-- without the rows that pass, a bag has no copy of a row that does, and all copies of any other row
pub count-rest : (r : Row) (p : Row → Bool) (rows : List Row) → count_of r (filter (λ x. not (p x)) rows) ≡ cond (p r) 0 (count_of r rows)
count-rest r p rows = count-filter r (λ x. not (p x)) rows ∙ not_cond (p r) (count_of r rows)

-- of two rows in canonical order the first ends no later
pub ends_first : (a b : Row) → is_le (row_cmp a b) ≡ true → a.end ≤ b.end
ends_first a b h = elim (cases_lt b.end a.end) [
  | inl behind ↦ (let e = sym (nat_cmp_is a.end b.end Greater behind) in let k : ordering_then (nat_cmp a.end b.end) (ordering_then (nat_cmp a.begin b.begin) (payload_cmp a.payload b.payload)) ≡ Greater = ap (λ o. ordering_then o (ordering_then (nat_cmp a.begin b.begin) (payload_cmp a.payload b.payload))) e in absurd (let z = ap is_le k in cc))
  | inr upto ↦ upto
]

other_count : (goes : Row → Bool) (r row : Row) (b : Bool) → same_row r row ≡ b → goes row ≡ true → goes r ≡ false → cond {A = ℕ} b 1 0 ≡ 0
other_count goes r row false h passes fails = refl
other_count goes r row true h passes fails = let e = ap goes (same_row_exact r row h) in cc

-- what passes isn't what doesn't
pub none_of_these : (goes : Row → Bool) (row r : Row) (n : ℕ) → goes row ≡ true → goes r ≡ false → count_of r (replicate n row) ≡ 0
none_of_these goes row r n passes fails =
    let none = other_count goes r row (same_row r row) refl passes fails in
    omega (arith, sum_by-replicate (one_if_same r) n row, ap (λ k. n * k) none)

-- a bag has the same rows as itself among those that pass
pub among_itself : (p : Row → Bool) (xs : List Row) → SameAmong p xs xs
among_itself p xs = record { each = λ r h. refl }

-- two bags that have the same rows as one between them, among those that pass, have the same ones there
pub among_along : (p : Row → Bool) (xs ys zs : List Row) → SameAmong p xs ys → SameAmong p ys zs → SameAmong p xs zs
among_along p xs ys zs h k = record { each = λ r passes. h.each r passes ∙ k.each r passes }

-- the same rows are the same among some
pub among_same : (p : Row → Bool) (xs ys : List Row) → SameRows xs ys → SameAmong p xs ys
among_same p xs ys same = record { each = λ r passes. same.each r }

-- and among fewer
pub among_fewer : (p q : Row → Bool) (xs ys : List Row) → ((r : Row) → q r ≡ true → p r ≡ true) → SameAmong p xs ys → SameAmong q xs ys
among_fewer p q xs ys stricter same = record { each = λ r passes. same.each r (stricter r passes) }

-- one row goes that doesn't pass
pub one_goes : (stays : Row → Bool) (all left left' : List Row) (p : Row × ℕ) → IsTakenOut (λ r. not (stays r)) left left' (Some p) → SameAmong stays left all → SameAmong stays left' all
one_goes stays all left left' p out same = record {
  each = λ r h. omega (arith, same.each r h, out.3.each r, count_of-append r (replicate p.1 p.0) left', none_of_these (λ x. not (stays x)) p.0 r p.1 out.0 (ap not h));
}

filtered_at : (stays : Row → Bool) (all left : List Row) (r : Row) (b : Bool) → stays r ≡ b → SameAmong stays left all → (0 < count_of r left → not (stays r) ≡ false) → count_of r left ≡ cond b (count_of r all) 0
filtered_at stays all left r true h same none = same.each r h
filtered_at stays all left r false h same none = elim (cases_lt 0 (count_of r left)) [ inl some ↦ absurd (let e = none some in let k = ap not h in cc) | inr nothing ↦ omega arith ]

-- where no row is left that may go, those are left that stay
pub none_goes : (stays : Row → Bool) (all left : List Row) → ((r : Row) → 0 < count_of r left → not (stays r) ≡ false) → SameAmong stays left all → SameRows left (filter stays all)
none_goes stays all left none same = record { each = λ r. filtered_at stays all left r (stays r) refl same (none r) ∙ sym (count-filter r stays all) }

-- a filtered bag has the same rows among those that pass
pub among_filter : (p : Row → Bool) (xs ys : List Row) → SameRows xs (filter p ys) → SameAmong p xs ys
among_filter p xs ys same = record { each = λ r passes. same.each r ∙ (count-filter r p ys ∙ ap (λ b. cond b (count_of r ys) 0) passes) }

-- bags that have the same rows among some go through a change alike
pub among_moved : (p : Row → Bool) (c : Change) (xs ys after : List Row) → SameAmong p xs ys → MayFollow xs [] c → IsMoved c ys after → SameAmong p (applied c xs) after
among_moved p c xs ys after same may moved =
    let goes = applied_moves c xs may in
    record {
      each = λ r passes. omega (
        arith,
        same.each r passes,
        goes.sums.each r,
        count_of-append r (applied c xs) (takes c),
        count_of-append r xs (puts c),
        moved.sums.each r,
        count_of-append r after (takes c),
        count_of-append r ys (puts c),
      );
    }

-- what ends after a later time ends after an earlier one
pub ends_earlier : (time later : ℕ) (r : Row) → time ≤ later → ends_after later r ≡ true → ends_after time r ≡ true
ends_earlier time later r rise h = let ends = ltb-true later r.end h in lt-ltb time r.end (omega arith)

passing_at : (p : Row → Bool) (w : Row → ℕ) (x : Row) (rest all : List Row) (b : Bool) → p x ≡ b → (p x ≡ false → w x ≡ 0) → sum_by w rest ≡ sum_by w all → sum_by w (cond b (x ∷ rest) rest) ≡ sum_by w (x ∷ all)
passing_at p w x rest all true h failing k = omega (arith, sum_by-cons w x rest, sum_by-cons w x all, k)
passing_at p w x rest all false h failing k = let nothing = failing h in omega (arith, sum_by-cons w x all, nothing, k)

sum_by-passing : (p : Row → Bool) (w : Row → ℕ) (xs : List Row) → ((x : Row) → p x ≡ false → w x ≡ 0) → sum_by w (filter p xs) ≡ sum_by w xs
sum_by-passing p w [] failing = refl
sum_by-passing p w (x ∷ xs) failing = passing_at p w x (filter p xs) xs (p x) refl (failing x) (sum_by-passing p w xs failing)

counted_at : (p : Row → Bool) (xs ys : List Row) (r : Row) (b : Bool) → p r ≡ b → (p r ≡ true → count_of r xs ≡ count_of r ys) → cond b (count_of r xs) 0 ≡ cond b (count_of r ys) 0
counted_at p xs ys r true h same = same h
counted_at p xs ys r false h same = refl

-- bags that have the same rows among those that pass are the same without the others
pub filtered_same : (p : Row → Bool) (xs ys : List Row) → SameAmong p xs ys → SameRows (filter p xs) (filter p ys)
filtered_same p xs ys same = record { each = λ r. count-filter r p xs ∙ (counted_at p xs ys r (p r) refl (same.each r) ∙ sym (count-filter r p ys)) }

-- they give the same sum, where the others add nothing
pub sum_by-among : (p : Row → Bool) (w : Row → ℕ) (xs ys : List Row) → SameAmong p xs ys → ((o : Row) → p o ≡ false → w o ≡ 0) → sum_by w xs ≡ sum_by w ys
sum_by-among p w xs ys same failing =
    sym (sum_by-passing p w xs failing)
    ∙ (sum_by-same w (filter p xs) (filter p ys) (filtered_same p xs ys same) ∙ sum_by-passing p w ys failing)

-- a bag from which rows were taken is shorter
pub fewer_left : (row : Row) (n : ℕ) (left left' : List Row) → 0 < n → SameRows (replicate n row ++ left') left → length left' < length left
fewer_left row n left left' some out = omega (arith, same_length (replicate n row ++ left') left out, replicated n row left')
