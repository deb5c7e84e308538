-- Choices of some things out of many, in one order or in each.
use Rattle.std.specs.Prelude.{ℕ, zero, suc, ◌++◌, List, [], ◌∷◌, map}
use Rattle.std.specs.List.{flat_map}

-- each choice of so many of the things, which stay in their order
abbrev pub some_of : {A : Type 0} → ℕ → List A → List (List A)
some_of zero xs = [] ∷ []
some_of (suc n) [] = []
some_of (suc n) (x ∷ xs) = map (λ ys. x ∷ ys) (some_of n xs) ++ some_of (suc n) xs

-- a thing put at each place among others
abbrev pub placed : {A : Type 0} → A → List A → List (List A)
placed x [] = (x ∷ []) ∷ []
placed x (y ∷ ys) = (x ∷ y ∷ ys) ∷ map (λ zs. y ∷ zs) (placed x ys)

-- each choice of so many of the things, in each order
abbrev pub arranged : {A : Type 0} → ℕ → List A → List (List A)
arranged zero xs = [] ∷ []
arranged (suc n) [] = []
arranged (suc n) (x ∷ xs) = flat_map (placed x) (arranged n xs) ++ arranged (suc n) xs

-- so many ports from one on, in their order
abbrev pub ports_from : ℕ → ℕ → List ℕ
ports_from first zero = []
ports_from first (suc n) = first ∷ ports_from (suc first) n
