-- Lists that are made of lists.
use Rattle.std.proofs.Common.{◌≡◌, ℕ, zero, suc, List, [], ◌∷◌, ◌++◌, Bool, true, false, cond, refl, ap, sym, ◌∙◌}
use Rattle.std.specs.Prelude.{map, replicate}
use Rattle.std.specs.List.{flat_map, filter}
use Rattle.std.proofs.lemmas.List.{append_assoc}
use Rattle.std.proofs.lemmas.List.Concat.{flat_map-append}
use Rattle.cedr_base.specs.declared.row.Row.{Row}
use Rattle.cedr_table.specs.Counted.{spread}

-- two functions that make the same of each element make the same list
pub flat_map-like : {X Y : Type 0} (f g : X → List Y) (xs : List X) → ((x : X) → f x ≡ g x) → flat_map f xs ≡ flat_map g xs
flat_map-like f g [] h = refl
flat_map-like f g (x ∷ xs) h = λ i. h x i ++ flat_map-like f g xs h i

-- what is made of mapped elements is made of each element by one function after the other
pub flat_map-map : {X Y Z : Type 0} (f : Y → List Z) (g : X → Y) (xs : List X) → flat_map f (map g xs) ≡ flat_map (λ x. f (g x)) xs
flat_map-map f g [] = refl
flat_map-map f g (x ∷ xs) = ap (λ ys. f (g x) ++ ys) (flat_map-map f g xs)

-- what is made of made elements is made of each element in one go
pub flat_map-twice : {X Y Z : Type 0} (f : Y → List Z) (g : X → List Y) (xs : List X) → flat_map f (flat_map g xs) ≡ flat_map (λ x. flat_map f (g x)) xs
flat_map-twice f g [] = refl
flat_map-twice f g (x ∷ xs) = flat_map-append f (g x) (flat_map g xs) ∙ ap (λ ys. flat_map f (g x) ++ ys) (flat_map-twice f g xs)

-- where nothing is made of each element, nothing is made of the list
pub flat_map-none : {X Y : Type 0} (f : X → List Y) (xs : List X) → ((x : X) → f x ≡ []) → flat_map f xs ≡ []
flat_map-none f [] h = refl
flat_map-none f (x ∷ xs) h = λ i. h x i ++ flat_map-none f xs h i

filtered_one : {X Y : Type 0} (f g : X → List Y) (x : X) (xs : List X) (b : Bool) → (b ≡ true → f x ≡ g x) → (b ≡ false → [] ≡ g x) → flat_map f (cond b (x ∷ xs) xs) ≡ g x ++ flat_map f xs
filtered_one f g x xs true pass fail = ap (λ ys. ys ++ flat_map f xs) (pass refl)
filtered_one f g x xs false pass fail = ap (λ ys. ys ++ flat_map f xs) (fail refl)

-- what doesn't pass makes nothing
pub flat_map-filter : {X Y : Type 0} (f g : X → List Y) (p : X → Bool) (xs : List X) → ((x : X) → p x ≡ true → f x ≡ g x) → ((x : X) → p x ≡ false → [] ≡ g x) → flat_map f (filter p xs) ≡ flat_map g xs
flat_map-filter f g p [] pass fail = refl
flat_map-filter f g p (x ∷ xs) pass fail = filtered_one f g x (filter p xs) (p x) (pass x) (fail x) ∙ ap (λ ys. g x ++ ys) (flat_map-filter f g p xs pass fail)

-- copies of what makes the same
pub same_copies : {X Y : Type 0} (f g : X → List Y) (count : ℕ) (x : X) → f x ≡ g x → flat_map f (replicate count x) ≡ flat_map g (replicate count x)
same_copies f g zero x same = refl
same_copies f g (suc count) x same = λ i. same i ++ same_copies f g count x same i

-- copies of what makes nothing
pub no_copies : {X Y : Type 0} (f : X → List Y) (count : ℕ) (x : X) → f x ≡ [] → flat_map f (replicate count x) ≡ []
no_copies f zero x none = refl
no_copies f (suc count) x none = λ i. none i ++ no_copies f count x none i

-- what is made of the copies of one entry more
pub spread_more : {Y : Type 0} (f : Row → List Y) (x : Row) (count : ℕ) (so_far : List Y) (entries entries' : List (Row × ℕ)) (all : List Y) → entries ≡ (x, count) ∷ entries'
    → so_far ++ flat_map f (spread entries) ≡ all → (so_far ++ flat_map f (replicate count x)) ++ flat_map f (spread entries') ≡ all
spread_more f x count so_far entries entries' all is was =
    append_assoc so_far (flat_map f (replicate count x)) (flat_map f (spread entries'))
    ∙ (ap (λ rows. so_far ++ rows) (sym (flat_map-append f (replicate count x) (spread entries')))
    ∙ (ap (λ es. so_far ++ flat_map f (spread es)) (sym is) ∙ was))
