-- Sums over bags of rows, which the counts determine.
use Rattle.std.proofs.Common.{◌≡◌, ℕ, ◌+◌, ◌<◌, List, [], ◌∷◌, Bool, true, false, cond, refl, ap, sym, ◌∙◌, arith}
use Rattle.std.specs.Prelude.{sum_by}
use Rattle.std.specs.List.{flat_map}
use Rattle.std.specs.Ordering.{is_eq}
use Rattle.std.specs.Cmp.{IsEquivalence, eq_by_cmp_equiv}
use Rattle.std.proofs.lemmas.List.Sums.{sum_by-cons, sum_by-append}
use Rattle.cedr_base.specs.declared.row.Row.{Row}
use Rattle.cedr_base.specs.Rows.{row_cmp, same_row, one_if_same, count_of, SameRows}
use Rattle.cedr_base.specs.RowLaws.{row_total}
use Rattle.cedr_base.proofs.Bags.{same_row_exact, count_of-cons, one_of_itself}
use Rattle.change_laws.specs.Bags.{without}

-- two rows are the same where they compare as equal
pub same_row_is : (a b : Row) → same_row a b ≡ is_eq (row_cmp a b)
unfolding same_row
same_row_is a b = refl

-- to be the same row is an equivalence
pub same_row_equiv : IsEquivalence same_row
unfolding same_row
same_row_equiv = eq_by_cmp_equiv row_total

module _ (w : Row → ℕ) where
  sum_by-without_at : (x y : Row) (ys : List Row) (b : Bool) → same_row x y ≡ b → (b ≡ false → sum_by w (without x ys) + w x ≡ sum_by w ys) → sum_by w (cond b ys (y ∷ without x ys)) + w x ≡ sum_by w (y ∷ ys)
  sum_by-without_at x y ys true h rest = let e = ap w (same_row_exact x y h) in omega (arith, sum_by-cons w y ys, e)
  sum_by-without_at x y ys false h rest = omega (arith, sum_by-cons w y ys, sum_by-cons w y (without x ys), rest refl)

  -- a row that is there adds its part to a sum
  pub sum_by-without : (x : Row) (ys : List Row) → 0 < count_of x ys → sum_by w (without x ys) + w x ≡ sum_by w ys
  sum_by-without x [] h = absurd (omega arith)
  sum_by-without x (y ∷ ys) h = sum_by-without_at x y ys (same_row x y) refl (λ d. sum_by-without x ys (
      let c = ap {B = ℕ} (λ b. cond b 1 0) d in omega (arith, count_of-cons x y ys, c)))

-- a row at a list's head is there
pub count_of-itself : (x : Row) (xs : List Row) → 0 < count_of x (x ∷ xs)
count_of-itself x xs = omega (arith, count_of-cons x x xs, one_of_itself x)

-- a sum over a bag depends on the counts alone
pub sum_by-same : (w : Row → ℕ) (xs ys : List Row) → SameRows xs ys → sum_by w xs ≡ sum_by w ys
sum_by-same w [] [] h = refl
sum_by-same w [] (y ∷ ys) h = absurd (omega (arith, h.each y, count_of-itself y ys))
sum_by-same w (x ∷ xs) ys h =
    let there : 0 < count_of x ys = omega (arith, h.each x, count_of-itself x xs) in
    let rest : SameRows xs (without x ys) = record { each = λ r. omega (arith, h.each r, count_of-cons r x xs, sum_by-without (one_if_same r) x ys there) } in
    omega (arith, sum_by-same w xs (without x ys) rest, sum_by-without w x ys there, sum_by-cons w x xs)

-- weights that are equal at each row that is there have the same sum
pub sum_by-alike_there : (f g : Row → ℕ) (xs : List Row) → ((x : Row) → 0 < count_of x xs → f x ≡ g x) → sum_by f xs ≡ sum_by g xs
sum_by-alike_there f g [] h = refl
sum_by-alike_there f g (x ∷ xs) h =
    omega (arith, sum_by-cons f x xs, sum_by-cons g x xs, h x (count_of-itself x xs), sum_by-alike_there f g xs (λ y there. h y (omega (arith, count_of-cons y x xs))))

-- a sum over joined lists
pub sum_by-flat_map : {X : Type 0} (w : Row → ℕ) (f : X → List Row) (xs : List X) → sum_by w (flat_map f xs) ≡ sum_by (λ x. sum_by w (f x)) xs
sum_by-flat_map w f [] = refl
sum_by-flat_map w f (x ∷ xs) = omega (arith, sum_by-append w (f x) (flat_map f xs), sum_by-cons (λ x. sum_by w (f x)) x xs, sum_by-flat_map w f xs)

-- what each row of a bag makes is a bag that depends on the counts alone
pub same_flat_map : (f : Row → List Row) (xs ys : List Row) → SameRows xs ys → SameRows (flat_map f xs) (flat_map f ys)
same_flat_map f xs ys h = record { each = λ r. sum_by-flat_map (one_if_same r) f xs ∙ (sum_by-same (λ x. count_of r (f x)) xs ys h ∙ sym (sum_by-flat_map (one_if_same r) f ys)) }

-- a bag is the same as itself
pub same_itself : (xs : List Row) → SameRows xs xs
same_itself xs = record { each = λ r. refl }

-- where one bag is the same as another, the other is the same as it
pub same_back : (xs ys : List Row) → SameRows xs ys → SameRows ys xs
same_back xs ys h = record { each = λ r. sym (h.each r) }

-- two bags that are the same as one between them are the same
pub same_along : (xs ys zs : List Row) → SameRows xs ys → SameRows ys zs → SameRows xs zs
same_along xs ys zs h k = record { each = λ r. h.each r ∙ k.each r }
