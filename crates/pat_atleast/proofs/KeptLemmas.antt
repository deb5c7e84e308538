-- The orders suit what is kept.
use Rattle.std.proofs.Common.{◌≡◌, ℕ, zero, suc, List, [], ◌∷◌, ◌++◌, ◌+◌, ◌<◌, length, take, get_or, refl, ap, sym, ◌∙◌, subst, arith}
use Rattle.std.specs.Prelude.{map}
use Rattle.std.specs.List.{flat_map, All}
use Rattle.std.proofs.lemmas.List.{take_more, append-nil}
use Rattle.std.proofs.lemmas.List.Concat.{flat_map-append}
use Rattle.std.proofs.lemmas.List.Elements.{All-nil, All-cons, All-head, All-tail, All-append, All-map, All-weaker}
use Rattle.cedr_base.specs.declared.row.Row.{Row}
use Rattle.cedr_base.specs.Rows.{count_of, SameRows}
use Rattle.cedr_base.proofs.Bags.{count_of-append}
use Rattle.pat_state.specs.Steps.{AreAmongPorts}
use Rattle.pat_atleast.specs.declared.kept.Kept.{Kept}
use Rattle.pat_atleast.specs.Arrangements.{placed, arranged, ports_from}
use Rattle.pat_atleast.specs.Keeping.{bags_in, SuitsNumber, IsOrderFor}
use Rattle.pat_atleast.proofs.PlaceLemmas.{all_made, orders_are_ports}

placed_length : (x : ℕ) (ys : List ℕ) → All (λ zs. length zs ≡ suc (length ys)) (placed x ys)
placed_length x [] = All-cons (λ zs. length zs ≡ 1) (x ∷ []) [] refl (All-nil (λ zs. length zs ≡ 1))
placed_length x (y ∷ ys) =
    let holds = λ (zs : List ℕ). length zs ≡ suc (suc (length ys)) in
    All-cons holds (x ∷ y ∷ ys) (map (λ zs. y ∷ zs) (placed x ys)) refl
    (All-map holds (λ zs. y ∷ zs) (placed x ys) (All-weaker (λ zs. length zs ≡ suc (length ys)) (λ zs. holds (y ∷ zs)) (λ zs same. ap (λ n. suc n) same) (placed x ys) (placed_length x ys)))

-- an order of so many has as many ports
arranged_length : (n : ℕ) (xs : List ℕ) → All (λ order. length order ≡ n) (arranged n xs)
arranged_length zero xs = All-cons (λ order. length order ≡ 0) [] [] refl (All-nil (λ order. length order ≡ 0))
arranged_length (suc n) [] = All-nil (λ order. length order ≡ suc n)
arranged_length (suc n) (x ∷ xs) =
    let holds = λ (order : List ℕ). length order ≡ suc n in
    All-append holds (flat_map (placed x) (arranged n xs)) (arranged (suc n) xs)
    (all_made holds (placed x) (arranged n xs)
    (All-weaker (λ order. length order ≡ n) (λ order. All holds (placed x order))
    (λ order same. subst (λ (k : ℕ). All (λ zs. length zs ≡ suc k) (placed x order)) same (placed_length x order))
    (arranged n xs) (arranged_length n xs)))
    (arranged_length (suc n) xs)

all_both : {X : Type 0} (p q : X → Type 0) (xs : List X) → All p xs → All q xs → All (λ x. p x × q x) xs
all_both p q [] ps qs = All-nil (λ x. p x × q x)
all_both p q (x ∷ xs) ps qs = All-cons (λ x. p x × q x) x xs (All-head p x xs ps, All-head q x xs qs) (all_both p q xs (All-tail p x xs ps) (All-tail q x xs qs))

-- all orders of so many ports suit what is kept for as many
pub orders_fit : (number : ℕ) (orders : List (List ℕ)) (kept : Kept) → SuitsNumber number kept → orders ≡ arranged number (ports_from 0 (length (bags_in kept))) → All (IsOrderFor kept) orders
orders_fit number orders kept suits are =
    let all = arranged number (ports_from 0 (length (bags_in kept))) in
    subst (λ (os : List (List ℕ)). All (IsOrderFor kept) os) (sym are)
    (all_both (AreAmongPorts (length (bags_in kept))) (λ order. SuitsNumber (length order) kept) all (orders_are_ports number (length (bags_in kept)))
    (All-weaker (λ order. length order ≡ number) (λ order. SuitsNumber (length order) kept) (λ order same. subst (λ (n : ℕ). SuitsNumber n kept) (sym same) suits) all (arranged_length number (ports_from 0 (length (bags_in kept))))))

-- what is found in one order more
pub found_more : (f : List ℕ → List Row) (orders : List (List ℕ)) (i : ℕ) (order : List ℕ) (found more after : List Row) → i < length orders → order ≡ get_or orders i order → after ≡ found ++ more → SameRows found (flat_map f (take i orders)) → SameRows more (f order)
    → SameRows after (flat_map f (take (i + 1) orders))
found_more f orders i order found more after within is appended were are =
    let all : flat_map f (take (i + 1) orders) ≡ flat_map f (take i orders) ++ f order =
    ap (flat_map f) (take_more orders i order within)
    ∙ (flat_map-append f (take i orders) (get_or orders i order ∷ [])
    ∙ ap (λ rest. flat_map f (take i orders) ++ rest) (append-nil (f (get_or orders i order)) ∙ ap f (sym is))) in
    record { each = λ r. omega (arith, were.each r, are.each r, ap (count_of r) appended, ap (count_of r) all, count_of-append r found more, count_of-append r (flat_map f (take i orders)) (f order)) }
