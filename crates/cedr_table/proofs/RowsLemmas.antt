-- Bags that have rows only.
use Rattle.std.proofs.Common.{◌≡◌, ℕ, suc, ◌<◌, ◌≤◌, inl, inr, List, [], ◌∷◌, ◌++◌, Bool, true, false, cond, refl, subst, sym, arith}
use Rattle.std.specs.Prelude.{All, Some, map, nat_lt}
use Rattle.std.specs.List.{flat_map}
use Rattle.std.proofs.lemmas.Bool.{ltb-true, cases_lt}
use Rattle.std.proofs.lemmas.List.Elements.{All-nil, All-cons, All-head, All-tail, All-append, All-map, All-weaker}
use Rattle.cedr_base.specs.declared.time.TheConstants.{FOREVER}
use Rattle.cedr_base.specs.declared.field.Field.{Field}
use Rattle.cedr_base.specs.declared.interval.Interval.{Interval}
use Rattle.cedr_base.specs.declared.row.Row.{Row}
use Rattle.cedr_base.specs.declared.change.Change.{Change}
use Rattle.cedr_base.specs.Rows.{count_of, IsRow, AreRows, SameRows}
use Rattle.cedr_base.specs.Changes.{IsChange}
use Rattle.cedr_base.proofs.Bags.{count_of-append, count_of-cons, one_if_same_exact}
use Rattle.change_laws.specs.Repairs.{IsMoved}
use Rattle.change_laws.proofs.BagSums.{count_of-itself}
use Rattle.change_laws.proofs.Moves.{row_came, puts_are_rows}
use Rattle.cedr_table.specs.Operators.{Tables, HaveRows, table_at}
use Rattle.cedr_table.specs.Choices.{choices, chosen}
use Rattle.cedr_table.specs.RowWise.{made, row_during}

-- a bag with no more copies has rows only
pub fewer_are : (xs ys : List Row) → ((r : Row) → 0 < count_of r xs → 0 < count_of r ys) → AreRows ys → AreRows xs
fewer_are xs ys fewer are = record { each = λ r there. are.each r (fewer r there) }

-- so has the same bag
pub same_are : (xs ys : List Row) → SameRows xs ys → AreRows ys → AreRows xs
same_are xs ys same are = fewer_are xs ys (λ r there. let e = same.each r in omega arith) are

-- and what a change makes of the bag
pub moved_are : (c : Change) (old new : List Row) → IsChange c → IsMoved c old new → AreRows old → AreRows new
moved_are c old new is moved are = record { each = λ r there. elim (row_came c old new r moved there) [ inl was ↦ are.each r was | inr put ↦ puts_are_rows c r is put ] }

-- the first of some rows is one
pub first_is : (x : Row) (xs : List Row) → AreRows (x ∷ xs) → IsRow x
first_is x xs are = are.each x (count_of-itself x xs)

-- and the others have rows only
pub others_are : (x : Row) (xs : List Row) → AreRows (x ∷ xs) → AreRows xs
others_are x xs are = fewer_are xs (x ∷ xs) (λ r there. omega (arith, count_of-cons r x xs)) are

-- the empty bag has rows only
pub none_are : AreRows []
none_are = record { each = λ r there. absurd (omega arith) }

-- one row more
pub more_are : (x : Row) (xs : List Row) → IsRow x → AreRows xs → AreRows (x ∷ xs)
more_are x xs is are = record {
  each = λ r there. elim (cases_lt 0 (count_of r xs)) [
    | inl in_rest ↦ are.each r in_rest
    | inr not_in_rest ↦ subst IsRow (sym (one_if_same_exact r x (omega (arith, count_of-cons r x xs)))) is
  ];
}

-- one row or none
pub one_are : (b : Bool) (x : Row) → (b ≡ true → IsRow x) → AreRows (cond b (x ∷ []) [])
one_are true x is = more_are x [] (is refl) none_are
one_are false x is = none_are

-- two bags together
pub both_are : (xs ys : List Row) → AreRows xs → AreRows ys → AreRows (xs ++ ys)
both_are xs ys are others = record {
  each = λ r there. elim (cases_lt 0 (count_of r xs)) [
    | inl here ↦ are.each r here
    | inr none ↦ others.each r (omega (arith, count_of-append r xs ys))
  ];
}

-- the row of an interval that a row may end with, where that isn't empty
pub made_are : (life : Interval) (payload : List Field) → life.end ≤ FOREVER → AreRows (made life (Some payload))
made_are life payload time = one_are (nat_lt life.begin life.end) (row_during life payload) (λ lives.
    let order = ltb-true life.begin life.end lives in
    record { lives = order; begins = omega arith; ends = time })

-- what each of some things makes, where each makes rows
pub each_are : {X : Type 0} (image : X → List Row) (xs : List X) → All (λ x. AreRows (image x)) xs → AreRows (flat_map image xs)
each_are image [] all = none_are
each_are image (x ∷ xs) all = both_are (image x) (flat_map image xs) (All-head (λ x. AreRows (image x)) x xs all) (each_are image xs (All-tail (λ x. AreRows (image x)) x xs all))

all_are : (xs : List Row) → AreRows xs → All IsRow xs
all_are [] are = All-nil IsRow
all_are (x ∷ xs) are = All-cons IsRow x xs (first_is x xs are) (all_are xs (others_are x xs are))

-- what rows make, where each row makes rows
pub images_are : (image : Row → List Row) (xs : List Row) → ((x : Row) → IsRow x → AreRows (image x)) → AreRows xs → AreRows (flat_map image xs)
images_are image xs each are = each_are image xs (All-weaker IsRow (λ x. AreRows (image x)) each xs (all_are xs are))

all_joined : (css : List (List Row)) (xs : List Row) → All AreRows css → All IsRow xs → All AreRows (flat_map (λ (x : Row). map (λ rs. x ∷ rs) css) xs)
all_joined css [] each all = All-nil AreRows
all_joined css (x ∷ xs) each all =
    let here = All-weaker AreRows (λ rs. AreRows (x ∷ rs)) (λ rs are. more_are x rs (All-head IsRow x xs all) are) css each in
    All-append AreRows (map (λ rs. x ∷ rs) css) (flat_map (λ (y : Row). map (λ rs. y ∷ rs) css) xs) (All-map AreRows (λ rs. x ∷ rs) css here) (all_joined css xs each (All-tail IsRow x xs all))

choices_are : (tables : Tables) → ((port : ℕ) → AreRows (table_at tables port)) → All AreRows (choices tables)
choices_are [] have = All-cons AreRows [] [] none_are (All-nil AreRows)
choices_are (t ∷ ts) have = all_joined (choices ts) t (choices_are ts (λ port. have (suc port))) (all_are t (have 0))

-- what choices make, where each choice makes rows
pub chosen_are : (image : List Row → List Row) (tables : Tables) → ((rs : List Row) → AreRows rs → AreRows (image rs)) → HaveRows tables → AreRows (chosen image tables)
chosen_are image tables each have = each_are image (choices tables) (All-weaker AreRows (λ rs. AreRows (image rs)) each (choices tables) (choices_are tables have.each))
