-- Lists of chosen rows, and lists that are made item by item.
use Rattle.std.proofs.Common.{◌≡◌, ℕ, ◌+◌, List, [], ◌∷◌, Bool, true, false, cond, refl, ap, ◌∙◌, arith}
use Rattle.std.specs.Prelude.{map, sum_by}
use Rattle.std.specs.List.{filter}
use Rattle.std.proofs.lemmas.List.Sums.{sum_by-cons}
use Rattle.cedr_base.specs.declared.row.Row.{Row}

sum_filter_at : (f : Row → ℕ) (x : Row) (ys : List Row) (b : Bool) → sum_by f (cond b (x ∷ ys) ys) ≡ cond b (f x) 0 + sum_by f ys
sum_filter_at f x ys true = sum_by-cons f x ys
sum_filter_at f x ys false = omega arith

-- a sum over chosen rows
pub sum_by-filter : (f : Row → ℕ) (p : Row → Bool) (xs : List Row) → sum_by f (filter p xs) ≡ sum_by (λ x. cond (p x) (f x) 0) xs
sum_by-filter f p [] = refl
sum_by-filter f p (x ∷ xs) =
    let rest = sum_by-filter f p xs in
    omega (arith, sum_filter_at f x (filter p xs) (p x), sum_by-cons (λ (y : Row). cond (p y) (f y) 0) x xs, rest)

-- what is the same for each item makes the same list of all
pub map_alike : {X Y : Type 0} (f h : X → Y) (xs : List X) → ((x : X) → f x ≡ h x) → map f xs ≡ map h xs
map_alike f h [] e = refl
map_alike f h (x ∷ xs) e = ap (λ y. y ∷ map f xs) (e x) ∙ ap (λ ys. h x ∷ ys) (map_alike f h xs e)
