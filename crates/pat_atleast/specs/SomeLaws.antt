-- Sums over the choices of so many of some tables and of one row of each.
use Rattle.std.proofs.Common.{◌≡◌, ℕ, zero, suc, ◌+◌, List, [], ◌∷◌, refl, ap, sym, ◌∙◌, arith}
use Rattle.std.specs.Prelude.{sum_by, map, replicate}
use Rattle.std.specs.List.{flat_map}
use Rattle.std.proofs.lemmas.List.Sums.{sum_by-cons, sum_by-append}
use Rattle.cedr_base.specs.declared.row.Row.{Row}
use Rattle.cedr_base.specs.declared.change.Change.{Change}
use Rattle.cedr_base.specs.Rows.{count_of, one_if_same}
use Rattle.cedr_base.specs.Changes.{puts, takes}
use Rattle.change_laws.specs.Repairs.{IsMoved}
use Rattle.change_laws.proofs.BagSums.{sum_by-same, sum_by-flat_map}
use Rattle.change_laws.proofs.Moves.{sum_by-moved}
use Rattle.cedr_table.specs.Operators.{Tables, table_at, with_table, SameTables}
use Rattle.cedr_table.specs.Choices.{choices, chosen}
use Rattle.cedr_table.proofs.ChoiceLemmas.{sum_chosen, sum_chosen-cons, sum_by-like, count_chosen}
use Rattle.pat_atleast.specs.Arrangements.{some_of}
use Rattle.pat_atleast.specs.Sums.{sum_some}

-- weights of 0 add up to 0
pub sum_by-zero : {X : Type 0} (f : X → ℕ) (xs : List X) → ((x : X) → f x ≡ 0) → sum_by f xs ≡ 0
sum_by-zero f [] h = refl
sum_by-zero f (x ∷ xs) h = omega (arith, sum_by-cons f x xs, h x, sum_by-zero f xs h)

-- the sum of two weights
pub sum_by-plus : {X : Type 0} (f g : X → ℕ) (xs : List X) → sum_by (λ x. f x + g x) xs ≡ sum_by f xs + sum_by g xs
sum_by-plus f g [] = refl
sum_by-plus f g (x ∷ xs) = omega (arith, sum_by-cons (λ x. f x + g x) x xs, sum_by-cons f x xs, sum_by-cons g x xs, sum_by-plus f g xs)

-- a double sum in the other order
pub sum_by-turned : {X Y : Type 0} (f : X → Y → ℕ) (xs : List X) (ys : List Y) → sum_by (λ x. sum_by (λ y. f x y) ys) xs ≡ sum_by (λ y. sum_by (λ x. f x y) xs) ys
sum_by-turned f [] ys = sym (sum_by-zero (λ y. sum_by (λ x. f x y) []) ys (λ y. refl))
sum_by-turned f (x ∷ xs) ys =
    sum_by-cons (λ x. sum_by (λ y. f x y) ys) x xs
    ∙ (ap (λ n. sum_by (λ y. f x y) ys + n) (sum_by-turned f xs ys)
    ∙ (sym (sum_by-plus (λ y. f x y) (λ y. sum_by (λ x. f x y) xs) ys)
    ∙ sum_by-like (λ y. f x y + sum_by (λ x. f x y) xs) (λ y. sum_by (λ x. f x y) (x ∷ xs)) ys (λ y. sym (sum_by-cons (λ x. f x y) x xs))))

-- the sum over mapped things
pub sum_by-mapped : {X Y : Type 0} (w : Y → ℕ) (f : X → Y) (xs : List X) → sum_by w (map f xs) ≡ sum_by (λ x. w (f x)) xs
sum_by-mapped w f [] = refl
sum_by-mapped w f (x ∷ xs) = omega (arith, sum_by-cons w (f x) (map f xs), sum_by-cons (λ x. w (f x)) x xs, sum_by-mapped w f xs)

-- the sum over things that are made of others
pub sum_by-made : {X Y : Type 0} (w : Y → ℕ) (f : X → List Y) (xs : List X) → sum_by w (flat_map f xs) ≡ sum_by (λ x. sum_by w (f x)) xs
sum_by-made w f [] = refl
sum_by-made w f (x ∷ xs) = omega (arith, sum_by-append w (f x) (flat_map f xs), sum_by-cons (λ x. sum_by w (f x)) x xs, sum_by-made w f xs)

-- the choices with the first table, by its row, and those without it
pub sum_some-more : (w : List Row → ℕ) (n : ℕ) (t : List Row) (ts : Tables) → sum_some w (suc n) (t ∷ ts) ≡ sum_by (λ r. sum_some (λ rs. w (r ∷ rs)) n ts) t + sum_some w (suc n) ts
sum_some-more w n t ts = omega (
  arith,
  sum_by-append (λ some. sum_chosen w some) (map (λ some. t ∷ some) (some_of n ts)) (some_of (suc n) ts),
  sum_by-mapped (λ some. sum_chosen w some) (λ some. t ∷ some) (some_of n ts),
  sum_by-like (λ some. sum_chosen w (t ∷ some)) (λ some. sum_by (λ r. sum_chosen (λ rs. w (r ∷ rs)) some) t) (some_of n ts) (λ some. sum_chosen-cons w t some),
  sum_by-turned (λ some r. sum_chosen (λ rs. w (r ∷ rs)) some) (some_of n ts) t,
)

-- equal weights have the same sum
pub sum_some-like : (f g : List Row → ℕ) (n : ℕ) (ts : Tables) → ((rs : List Row) → f rs ≡ g rs) → sum_some f n ts ≡ sum_some g n ts
sum_some-like f g n ts same = sum_by-like (λ some. sum_chosen f some) (λ some. sum_chosen g some) (some_of n ts) (λ some. sum_by-like f g (choices some) same)

-- the sum depends on bags alone
pub sum_some-same : (w : List Row → ℕ) (n : ℕ) (ts us : Tables) → SameTables ts us → sum_some w n ts ≡ sum_some w n us
sum_some-same w zero ts us h = refl
sum_some-same w (suc n) [] [] h = refl
sum_some-same w (suc n) [] (u ∷ us) h = absurd h
sum_some-same w (suc n) (t ∷ ts) [] h = absurd h
sum_some-same w (suc n) (t ∷ ts) (u ∷ us) h = omega (
  arith,
  sum_some-more w n t ts,
  sum_some-more w n u us,
  sum_by-same (λ r. sum_some (λ rs. w (r ∷ rs)) n ts) t u h.0,
  sum_by-like (λ r. sum_some (λ rs. w (r ∷ rs)) n ts) (λ r. sum_some (λ rs. w (r ∷ rs)) n us) u (λ r. sum_some-same (λ rs. w (r ∷ rs)) n ts us h.1),
  sum_some-same w (suc n) ts us h.1,
)

-- of empty tables there is no choice but that of none
pub sum_some-none : (w : List Row → ℕ) → w [] ≡ 0 → (n ports : ℕ) → sum_some w n (replicate ports []) ≡ 0
sum_some-none w none zero ports = omega (arith, none, sum_by-cons w [] [], sum_by-cons (λ some. sum_chosen w some) [] [])
sum_some-none w none (suc n) zero = refl
sum_some-none w none (suc n) (suc ports) = omega (arith, sum_some-more w n [] (replicate ports []), sum_some-none w none (suc n) ports)

-- a changed row of one table is one summand
pub sum_some-moved : (w : List Row → ℕ) (n : ℕ) (tables : Tables) (port : ℕ) (c : Change) (after : List Row) → IsMoved c (table_at tables port) after
    → sum_some w n (with_table tables port after) + sum_some w n (with_table tables port (takes c)) ≡ sum_some w n tables + sum_some w n (with_table tables port (puts c))
sum_some-moved w zero tables port c after moved = refl
sum_some-moved w (suc n) [] port c after moved = refl
sum_some-moved w (suc n) (t ∷ ts) zero c after moved = omega (
  arith,
  sum_some-more w n after ts,
  sum_some-more w n (takes c) ts,
  sum_some-more w n t ts,
  sum_some-more w n (puts c) ts,
  sum_by-moved (λ r. sum_some (λ rs. w (r ∷ rs)) n ts) c t after moved.sums,
)
sum_some-moved w (suc n) (t ∷ ts) (suc port) c after moved =
    let part = λ (us : Tables) (r : Row). sum_some (λ rs. w (r ∷ rs)) n us in
    omega (
      arith,
      sum_some-more w n t (with_table ts port after),
      sum_some-more w n t (with_table ts port (takes c)),
      sum_some-more w n t ts,
      sum_some-more w n t (with_table ts port (puts c)),
      sum_by-plus (part (with_table ts port after)) (part (with_table ts port (takes c))) t,
      sum_by-plus (part ts) (part (with_table ts port (puts c))) t,
      sum_by-like (λ r. part (with_table ts port after) r + part (with_table ts port (takes c)) r) (λ r. part ts r + part (with_table ts port (puts c)) r) t (λ r. sum_some-moved (λ rs. w (r ∷ rs)) n ts port c after moved),
      sum_some-moved w (suc n) ts port c after moved,
    )

-- how often a row is given by the choices
pub count_some : (r : Row) (image : List Row → List Row) (n : ℕ) (tables : Tables) → count_of r (flat_map (chosen image) (some_of n tables)) ≡ sum_some (λ rs. count_of r (image rs)) n tables
count_some r image n tables =
    sum_by-flat_map (one_if_same r) (chosen image) (some_of n tables)
    ∙ sum_by-like (λ some. count_of r (chosen image some)) (λ some. sum_chosen (λ rs. count_of r (image rs)) some) (some_of n tables) (λ some. count_chosen r image some)
