-- What a test that is true or false says, over plain values.
use Rattle.std.proofs.Common.{◌≡◌, ℕ, suc, ◌+◌, ◌≤◌, Bool, true, false, not, ◌||◌, cond, List, [], ◌∷◌, length, Option, Some, None, is_some, refl, true≢false, arith, sym}
use Rattle.std.specs.List.{list_any, filter_map, cons_option, position, prefix_len}
use Rattle.std.proofs.lemmas.Bool.{ltb-false}

-- a test whose opposite is false is true
pub not_false : (b : Bool) → not b ≡ false → b ≡ true
not_false true h = refl
not_false false h = sym h

-- where it is false that there is a value, there is none
pub none_there : {X : Type 0} (o : Option X) → is_some o ≡ false → o ≡ None
none_there None h = refl
none_there (Some x) h = absurd (true≢false h)

-- no more is kept than there was
pub length-filter_map : {X Y : Type 0} (f : X → Option Y) (xs : List X) → length (filter_map f xs) ≤ length xs
length-filter_map f [] = omega arith
length-filter_map f (x ∷ xs) = kept_or_not (f x) (filter_map f xs) (length xs) (length-filter_map f xs) where
  kept_or_not : {Y : Type 0} (o : Option Y) (rest : List Y) (n : ℕ) → length rest ≤ n → length (cons_option o rest) ≤ suc n
  kept_or_not None rest n h = omega arith
  kept_or_not (Some y) rest n h = omega arith

passed : (b rest : Bool) (n len : ℕ) → suc len ≤ cond (not b) (1 + n) 0 → (len ≤ n → rest ≡ false) → (b || rest) ≡ false
passed true rest n len h g = absurd (omega arith)
passed false rest n len h g = g (omega arith)

none_in_front : {X : Type 0} (p : X → Bool) (xs : List X) → length xs ≤ prefix_len (λ x. not (p x)) xs → list_any p xs ≡ false
none_in_front p [] h = refl
none_in_front p (x ∷ xs) h = passed (p x) (list_any p xs) (prefix_len (λ x. not (p x)) xs) (length xs) h (none_in_front p xs)

no_place : (t : Bool) (n : ℕ) → is_some (cond t (Some n) None) ≡ false → t ≡ false
no_place true n h = absurd (true≢false h)
no_place false n h = refl

-- what is found at no place is nowhere
pub nowhere : {X : Type 0} (p : X → Bool) (xs : List X) → is_some (position p xs) ≡ false → list_any p xs ≡ false
nowhere p xs h = none_in_front p xs (ltb-false (prefix_len (λ x. not (p x)) xs) (length xs) (no_place _ _ h))
