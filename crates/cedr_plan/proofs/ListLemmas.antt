-- Searches, filters and counts of a list, beside those of the list that a function makes of it.
use Rattle.std.proofs.Common.{◌≡◌, ◌+◌, Bool, not, ◌||◌, cond, List, [], ◌∷◌, length, Option, map, refl, ap}
use Rattle.std.specs.List.{list_any, list_all, position, prefix_len, filter_map}
use Rattle.std.proofs.lemmas.List.{length-map}
use Rattle.std.proofs.lemmas.List.Folds.{list_all-map}

-- a test of each value that a function makes of a list, asked of the list's own values
pub all_of_map : {X : Type 0} (p : X → Bool) → {Y : Type 0} (h : Y → X) (ys : List Y) → list_all p (map h ys) ≡ list_all (λ y. p (h y)) ys
all_of_map p h ys = list_all-map p h ys

-- a test of some value that a function makes of a list, asked of the list's own values
pub any_of_map : {X : Type 0} (p : X → Bool) → {Y : Type 0} (h : Y → X) (ys : List Y) → list_any p (map h ys) ≡ list_any (λ y. p (h y)) ys
any_of_map p h [] = refl
any_of_map p h (y ∷ ys) = ap (λ b. p (h y) || b) (any_of_map p h ys)

-- a function makes as many values of a list as the list has
pub length_of_map : {X Y : Type 0} (h : Y → X) (ys : List Y) → length (map h ys) ≡ length ys
length_of_map h ys = length-map ys h

front_of_map : {X : Type 0} (p : X → Bool) → {Y : Type 0} (h : Y → X) (ys : List Y) → prefix_len p (map h ys) ≡ prefix_len (λ y. p (h y)) ys
front_of_map p h [] = refl
front_of_map p h (y ∷ ys) = ap (λ n. cond (p (h y)) (1 + n) 0) (front_of_map p h ys)

-- the place of the first value that passes, among those that a function makes of a list, asked of the list's
-- own values
pub place_in_map : {X : Type 0} (p : X → Bool) → {Y : Type 0} (h : Y → X) (ys : List Y) → position p (map h ys) ≡ position (λ y. p (h y)) ys
place_in_map p h ys = rw (front_of_map (λ x. not (p x)) h ys, length-map ys h)

-- what is picked from the values that a function makes of a list, asked of the list's own values
pub filter_of_map : {X Z : Type 0} (p : X → Option Z) → {Y : Type 0} (h : Y → X) (ys : List Y) → filter_map p (map h ys) ≡ filter_map (λ y. p (h y)) ys
filter_of_map p h [] = refl
filter_of_map p h (y ∷ ys) = rw (filter_of_map p h ys)
