-- Sums over the choices of one row of each port: each port's table is one factor.
use Rattle.std.proofs.Common.{◌≡◌, ℕ, zero, suc, ◌+◌, ◌<◌, ◌≤◌, List, [], ◌∷◌, length, refl, sym, ◌∙◌, arith}
use Rattle.std.specs.Prelude.{sum_by, map, replicate}
use Rattle.std.specs.List.{flat_map}
use Rattle.std.proofs.lemmas.List.Sums.{sum_by-cons, sum_by-append}
use Rattle.cedr_base.specs.declared.row.Row.{Row}
use Rattle.cedr_base.specs.declared.change.Change.{Change}
use Rattle.cedr_base.specs.Rows.{count_of, one_if_same, SameRows}
use Rattle.cedr_base.specs.Changes.{puts, takes, MayFollow}
use Rattle.change_laws.specs.Repairs.{IsMoved, Repair}
use Rattle.change_laws.proofs.BagSums.{sum_by-same}
use Rattle.change_laws.proofs.Moves.{sum_by-moved, sum_by-there}
use Rattle.change_laws.proofs.RepairLemmas.{Turns, repair_by_turns}
use Rattle.cedr_table.specs.Operators.{Tables, table_at, with_table, SameTables}
use Rattle.cedr_table.specs.Choices.{choices, chosen}

-- what the choices add up to
abbrev pub sum_chosen : (List Row → ℕ) → Tables → ℕ
sum_chosen w tables = sum_by w (choices tables)

sum_by-mapped : {X Y : Type 0} (w : Y → ℕ) (f : X → Y) (xs : List X) → sum_by w (map f xs) ≡ sum_by (λ x. w (f x)) xs
sum_by-mapped w f [] = refl
sum_by-mapped w f (x ∷ xs) = omega (arith, sum_by-cons w (f x) (map f xs), sum_by-cons (λ x. w (f x)) x xs, sum_by-mapped w f xs)

sum_by-each : {X Y : Type 0} (w : Y → ℕ) (f : X → List Y) (xs : List X) → sum_by w (flat_map f xs) ≡ sum_by (λ x. sum_by w (f x)) xs
sum_by-each w f [] = refl
sum_by-each w f (x ∷ xs) = omega (arith, sum_by-append w (f x) (flat_map f xs), sum_by-cons (λ x. sum_by w (f x)) x xs, sum_by-each w f xs)

-- equal weights have the same sum
pub sum_by-like : {X : Type 0} (f g : X → ℕ) (xs : List X) → ((x : X) → f x ≡ g x) → sum_by f xs ≡ sum_by g xs
sum_by-like f g [] h = refl
sum_by-like f g (x ∷ xs) h = omega (arith, sum_by-cons f x xs, sum_by-cons g x xs, sum_by-like f g xs h, h x)

-- the choices of the first port's row, and of the others
pub sum_chosen-cons : (w : List Row → ℕ) (t : List Row) (ts : Tables) → sum_chosen w (t ∷ ts) ≡ sum_by (λ r. sum_chosen (λ rs. w (r ∷ rs)) ts) t
sum_chosen-cons w t ts = sum_by-each w (λ r. map (λ rs. r ∷ rs) (choices ts)) t ∙ sum_by-like _ _ t (λ r. sum_by-mapped w (λ rs. r ∷ rs) (choices ts))

-- the sum depends on bags alone
pub sum_chosen-same : (w : List Row → ℕ) (ts us : Tables) → SameTables ts us → sum_chosen w ts ≡ sum_chosen w us
sum_chosen-same w [] [] h = refl
sum_chosen-same w [] (u ∷ us) h = absurd h
sum_chosen-same w (t ∷ ts) [] h = absurd h
sum_chosen-same w (t ∷ ts) (u ∷ us) h =
    sum_chosen-cons w t ts
    ∙ (sum_by-same (λ r. sum_chosen (λ rs. w (r ∷ rs)) ts) t u h.0
    ∙ (sum_by-like _ _ u (λ r. sum_chosen-same (λ rs. w (r ∷ rs)) ts us h.1)
    ∙ sym (sum_chosen-cons w u us)))

sum_by-plus : {X : Type 0} (f g : X → ℕ) (xs : List X) → sum_by (λ x. f x + g x) xs ≡ sum_by f xs + sum_by g xs
sum_by-plus f g [] = refl
sum_by-plus f g (x ∷ xs) = omega (arith, sum_by-cons (λ x. f x + g x) x xs, sum_by-cons f x xs, sum_by-cons g x xs, sum_by-plus f g xs)

-- a changed row of one port is one summand
pub sum_chosen-moved : (w : List Row → ℕ) (tables : Tables) (port : ℕ) (c : Change) (after : List Row) → port < length tables → IsMoved c (table_at tables port) after
    → sum_chosen w (with_table tables port after) + sum_chosen w (with_table tables port (takes c)) ≡ sum_chosen w tables + sum_chosen w (with_table tables port (puts c))
sum_chosen-moved w [] port c after h moved = absurd (omega arith)
sum_chosen-moved w (t ∷ ts) zero c after h moved = omega (
  arith,
  sum_chosen-cons w after ts,
  sum_chosen-cons w (takes c) ts,
  sum_chosen-cons w t ts,
  sum_chosen-cons w (puts c) ts,
  sum_by-moved (λ r. sum_chosen (λ rs. w (r ∷ rs)) ts) c t after moved.sums,
)
sum_chosen-moved w (t ∷ ts) (suc port) c after h moved =
    let each = λ (r : Row). sum_chosen-moved (λ rs. w (r ∷ rs)) ts port c after (omega arith) moved in
    let share = λ (us : Tables) (r : Row). sum_chosen (λ rs. w (r ∷ rs)) us in
    omega (
      arith,
      sum_chosen-cons w t (with_table ts port after),
      sum_chosen-cons w t (with_table ts port (takes c)),
      sum_chosen-cons w t ts,
      sum_chosen-cons w t (with_table ts port (puts c)),
      sum_by-plus (share (with_table ts port after)) (share (with_table ts port (takes c))) t,
      sum_by-plus (share ts) (share (with_table ts port (puts c))) t,
      sum_by-like (λ r. share (with_table ts port after) r + share (with_table ts port (takes c)) r) (λ r. share ts r + share (with_table ts port (puts c)) r) t each,
    )

sum_by-most : {X : Type 0} (f g : X → ℕ) (xs : List X) → ((x : X) → f x ≤ g x) → sum_by f xs ≤ sum_by g xs
sum_by-most f g [] h = omega arith
sum_by-most f g (x ∷ xs) h = let here = h x in let rest = sum_by-most f g xs h in omega (arith, sum_by-cons f x xs, sum_by-cons g x xs)

-- the choices with a row that a change takes are among all
pub sum_chosen-there : (w : List Row → ℕ) (tables : Tables) (port : ℕ) (c : Change) → MayFollow (table_at tables port) [] c → sum_chosen w (with_table tables port (takes c)) ≤ sum_chosen w tables
sum_chosen-there w [] port c may = omega arith
sum_chosen-there w (t ∷ ts) zero c may = let part = sum_by-there (λ r. sum_chosen (λ rs. w (r ∷ rs)) ts) c t may in omega (arith, sum_chosen-cons w (takes c) ts, sum_chosen-cons w t ts)
sum_chosen-there w (t ∷ ts) (suc port) c may =
    let part = sum_by-most (λ r. sum_chosen (λ rs. w (r ∷ rs)) (with_table ts port (takes c))) (λ r. sum_chosen (λ rs. w (r ∷ rs)) ts) t (λ r. sum_chosen-there (λ rs. w (r ∷ rs)) ts port c may) in
    omega (arith, sum_chosen-cons w t (with_table ts port (takes c)), sum_chosen-cons w t ts)

-- how often a row is given by the choices
pub count_chosen : (r : Row) (image : List Row → List Row) (tables : Tables) → count_of r (chosen image tables) ≡ sum_chosen (λ rs. count_of r (image rs)) tables
count_chosen r image tables = sum_by-each (one_if_same r) image (choices tables)

-- what the choices give depends on bags alone
pub same_chosen : (image : List Row → List Row) (ts us : Tables) → SameTables ts us → SameRows (chosen image ts) (chosen image us)
same_chosen image ts us h = record { each = λ r. count_chosen r image ts ∙ (sum_chosen-same (λ rs. count_of r (image rs)) ts us h ∙ sym (count_chosen r image us)) }

-- of empty tables there is no choice
pub nothing_chosen : (image : List Row → List Row) (n : ℕ) → SameRows (chosen image (replicate (suc n) [])) []
nothing_chosen image n = record { each = λ r. refl }

-- changes that turn the choices with the old row into those with the new one repair the result
pub chosen_repairs : (image : List Row → List Row) (tables : Tables) (port : ℕ) (c : Change) (after : List Row) (t : ℕ) (cs : List Change) → port < length tables → MayFollow (table_at tables port) [] c → IsMoved c (table_at tables port) after
    → Turns t (chosen image (with_table tables port (takes c))) (chosen image (with_table tables port (puts c))) cs
    → Repair (chosen image tables) (chosen image (with_table tables port after)) t cs
chosen_repairs image tables port c after t cs within may moved turns =
    repair_by_turns (chosen image tables) (chosen image (with_table tables port after)) (chosen image (with_table tables port (takes c))) (chosen image (with_table tables port (puts c))) t cs turns
    (λ r. omega (
      arith,
      count_chosen r image tables,
      count_chosen r image (with_table tables port after),
      count_chosen r image (with_table tables port (takes c)),
      count_chosen r image (with_table tables port (puts c)),
      sum_chosen-moved (λ rs. count_of r (image rs)) tables port c after within moved,
    ))
    (λ r. omega (arith, count_chosen r image tables, count_chosen r image (with_table tables port (takes c)), sum_chosen-there (λ rs. count_of r (image rs)) tables port c may))
