-- Sums over lists of any kind.
use Rattle.std.proofs.Common.{◌≡◌, ℕ, ◌+◌, List, [], ◌∷◌, refl, ap, sym, ◌∙◌, arith}
use Rattle.std.specs.Prelude.{sum_by}
use Rattle.std.proofs.lemmas.List.Sums.{sum_by-cons}

-- sums of weights that are alike
pub sum_by-alike : {X : Type 0} (f g : X → ℕ) (xs : List X) → ((x : X) → f x ≡ g x) → sum_by f xs ≡ sum_by g xs
sum_by-alike f g [] h = refl
sum_by-alike f g (x ∷ xs) h = omega (arith, sum_by-cons f x xs, sum_by-cons g x xs, sum_by-alike f g xs h, h x)

-- the sum of two weights
pub sum_by-plus : {X : Type 0} (f g : X → ℕ) (xs : List X) → sum_by (λ x. f x + g x) xs ≡ sum_by f xs + sum_by g xs
sum_by-plus f g [] = refl
sum_by-plus f g (x ∷ xs) = omega (arith, sum_by-cons (λ x. f x + g x) x xs, sum_by-cons f x xs, sum_by-cons g x xs, sum_by-plus f g xs)

-- weights of 0 add up to 0
pub sum_by-zero : {X : Type 0} (f : X → ℕ) (xs : List X) → ((x : X) → f x ≡ 0) → sum_by f xs ≡ 0
sum_by-zero f [] h = refl
sum_by-zero f (x ∷ xs) h = omega (arith, sum_by-cons f x xs, h x, sum_by-zero f xs h)

-- a double sum in the other order
pub sum_by-turned : {X Y : Type 0} (f : X → Y → ℕ) (xs : List X) (ys : List Y) → sum_by (λ x. sum_by (λ y. f x y) ys) xs ≡ sum_by (λ y. sum_by (λ x. f x y) xs) ys
sum_by-turned f [] ys = sym (sum_by-zero (λ y. sum_by (λ x. f x y) []) ys (λ y. refl))
sum_by-turned f (x ∷ xs) ys =
    sum_by-cons (λ x. sum_by (λ y. f x y) ys) x xs
    ∙ (ap (λ n. sum_by (λ y. f x y) ys + n) (sum_by-turned f xs ys)
    ∙ (sym (sum_by-plus (λ y. f x y) (λ y. sum_by (λ x. f x y) xs) ys)
    ∙ sum_by-alike (λ y. f x y + sum_by (λ x. f x y) xs) (λ y. sum_by (λ x. f x y) (x ∷ xs)) ys (λ y. sym (sum_by-cons (λ x. f x y) x xs))))
