-- Bags of rows that live, where one row more comes or one ends earlier.
use Rattle.std.proofs.Common.{◌≡◌, ℕ, zero, suc, ◌+◌, ◌<◌, List, [], ◌∷◌, ◌++◌, Bool, true, false, cond, length, get_or, set, filter, ap, sym, ◌∙◌, arith}
use Rattle.std.specs.Prelude.{nat_lt}
use Rattle.std.specs.List.{flat_map}
use Rattle.std.proofs.lemmas.Bool.{lt-ltb}
use Rattle.std.proofs.lemmas.Grind.{flat_map-append}
use Rattle.std.proofs.lemmas.List.{append-nil}
use Rattle.std.proofs.lemmas.List.Elements.{filter-append}
use Rattle.cedr_base.specs.declared.row.Row.{Row}
use Rattle.cedr_base.specs.Rows.{one_if_same, count_of, in_order}
use Rattle.cedr_base.specs.Changes.{remnant}
use Rattle.cedr_guard.specs.Judging.{row_lives}
use Rattle.cedr_guard.proofs.EventLemmas.{cut_at}
use Rattle.cedr_base.proofs.Bags.{count_of-append, count_of-cons, one_of_itself}
use Rattle.cedr_base.proofs.Sorting.{in_order_counts}

-- ---- counts

-- what one more change puts in or takes out is added
pub count_of-push : {X : Type 0} (r : Row) (f : X → List Row) (xs : List X) (x : X) → count_of r (flat_map f (xs ++ x ∷ [])) ≡ count_of r (flat_map f xs) + count_of r (f x)
count_of-push r f xs x =
    ap (count_of r) (flat_map-append f xs (x ∷ []) ∙ ap (λ rows. flat_map f xs ++ rows) (append-nil (f x))) ∙ count_of-append r (flat_map f xs) (f x)

-- the canonical order has as many copies
pub in_order_count : (r : Row) (xs : List Row) → count_of r (in_order xs) ≡ count_of r xs
in_order_count r xs = sym ((in_order_counts xs).each r)

-- ---- rows that live

-- one more row that lives
pub living_push : (r x : Row) (xs : List Row) → x.begin < x.end → count_of r (filter row_lives (xs ++ x ∷ [])) ≡ count_of r (filter row_lives xs) + one_if_same r x
living_push r x xs alive =
    ap (count_of r) (filter-append row_lives xs (x ∷ []) ∙ ap (λ test. filter row_lives xs ++ cond test (x ∷ []) []) (lt-ltb x.begin x.end alive))
    ∙ (count_of-append r (filter row_lives xs) (x ∷ []) ∙ omega (arith, count_of-cons r x []))

living_first : (x : Row) (rest : List Row) (test : Bool) → test ≡ true → 0 < count_of x (cond test (x ∷ rest) rest)
living_first x rest true h = omega (arith, count_of-cons x x rest, one_of_itself x)
living_first x rest false h = cc

living_later : (r x : Row) (rest : List Row) (test : Bool) → 0 < count_of r rest → 0 < count_of r (cond test (x ∷ rest) rest)
living_later r x rest true h = omega (arith, h, count_of-cons r x rest)
living_later r x rest false h = h

-- a row that lives is counted
pub living_at : (xs : List Row) (p : ℕ) (d : Row) → p < length xs → (get_or xs p d).begin < (get_or xs p d).end → 0 < count_of (get_or xs p d) (filter row_lives xs)
living_at [] p d within alive = absurd (omega arith)
living_at (x ∷ xs) zero d within alive = living_first x (filter row_lives xs) (row_lives x) (lt-ltb x.begin x.end alive)
living_at (x ∷ xs) (suc p) d within alive = living_later (get_or xs p d) x (filter row_lives xs) (row_lives x) (living_at xs p d (omega arith) alive)

cut_first_at : (r x y : Row) (rest : List Row) (old new : Bool) → old ≡ true
    → count_of r (cond new (y ∷ rest) rest) + one_if_same r x ≡ count_of r (cond old (x ∷ rest) rest) + count_of r (cond new (y ∷ []) [])
cut_first_at r x y rest true true h = omega (arith, count_of-cons r x rest, count_of-cons r y rest, count_of-cons r y [])
cut_first_at r x y rest true false h = omega (arith, count_of-cons r x rest)
cut_first_at r x y rest false new h = cc

cut_later_at : (r x : Row) (news olds : List Row) (gone come : ℕ) (test : Bool) → count_of r news + gone ≡ count_of r olds + come
    → count_of r (cond test (x ∷ news) news) + gone ≡ count_of r (cond test (x ∷ olds) olds) + come
cut_later_at r x news olds gone come true h = omega (arith, h, count_of-cons r x news, count_of-cons r x olds)
cut_later_at r x news olds gone come false h = h

-- a row that ends earlier leaves what a retraction of it leaves
pub living_cut : (r : Row) (xs : List Row) (p : ℕ) (d : Row) (end : ℕ) → p < length xs → (get_or xs p d).begin < (get_or xs p d).end
    → count_of r (filter row_lives (cut_at p d end xs)) + one_if_same r (get_or xs p d) ≡ count_of r (filter row_lives xs) + count_of r (remnant (get_or xs p d) end)
living_cut r [] p d end within alive = absurd (omega arith)
living_cut r (x ∷ xs) zero d end within alive = cut_first_at r x (record x { end = end }) (filter row_lives xs) (row_lives x) (nat_lt x.begin end) (lt-ltb x.begin x.end alive)
living_cut r (x ∷ xs) (suc p) d end within alive =
    cut_later_at r x (filter row_lives (cut_at p d end xs)) (filter row_lives xs) (one_if_same r (get_or xs p d)) (count_of r (remnant (get_or xs p d) end)) (row_lives x) (living_cut r xs p d end (omega arith) alive)

put_first_at : (r x y : Row) (rest : List Row) (old new : Bool) → old ≡ false → new ≡ true
    → count_of r (cond new (y ∷ rest) rest) ≡ count_of r (cond old (x ∷ rest) rest) + one_if_same r y
put_first_at r x y rest true new gone lives = cc
put_first_at r x y rest false true gone lives = omega (arith, count_of-cons r y rest)
put_first_at r x y rest false false gone lives = cc

put_later_at : (r z : Row) (news olds : List Row) (come : ℕ) (test : Bool) → count_of r news ≡ count_of r olds + come
    → count_of r (cond test (z ∷ news) news) ≡ count_of r (cond test (z ∷ olds) olds) + come
put_later_at r z news olds come true h = omega (arith, h, count_of-cons r z news, count_of-cons r z olds)
put_later_at r z news olds come false h = h

-- a row that lives in place of one that doesn't is one row more
pub living_put : (r : Row) (xs : List Row) (p : ℕ) (x y : Row) → p < length xs → row_lives x ≡ false → y.begin < y.end
    → count_of r (filter row_lives (set xs p y)) ≡ count_of r (filter row_lives (set xs p x)) + one_if_same r y
living_put r [] p x y within gone alive = absurd (omega arith)
living_put r (z ∷ xs) zero x y within gone alive = put_first_at r x y (filter row_lives xs) (row_lives x) (row_lives y) gone (lt-ltb y.begin y.end alive)
living_put r (z ∷ xs) (suc p) x y within gone alive =
    put_later_at r z (filter row_lives (set xs p y)) (filter row_lives (set xs p x)) (one_if_same r y) (row_lives z) (living_put r xs p x y (omega arith) gone alive)
