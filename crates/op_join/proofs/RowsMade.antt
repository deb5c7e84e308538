-- Of tables that have rows only, so has their join.
use Rattle.std.proofs.Common.{List, [], ◌∷◌, arith, min, max}
use Rattle.std.specs.Prelude.{nat_lt}
use Rattle.std.proofs.lemmas.Bool.{ltb-true, and_parts}
use Rattle.cedr_base.specs.declared.row.Row.{Row}
use Rattle.cedr_base.specs.Rows.{IsRow, AreRows}
use Rattle.cedr_expr.specs.declared.test.Test.{Test}
use Rattle.cedr_expr.specs.Tests.{passes}
use Rattle.cedr_table.specs.Operators.{Tables, HaveRows}
use Rattle.cedr_table.specs.Choices.{chosen}
use Rattle.cedr_table.proofs.RowsLemmas.{none_are, one_are, first_is, others_are, chosen_are}
use Rattle.op_join.specs.Joins.{PairTest, rows_joined, joined_rows}

pair_are : (pass : PairTest) (a b : Row) → IsRow a → IsRow b → AreRows (rows_joined pass a b)
pair_are pass a b left right = one_are _ _ (λ both.
    let begin = max a.begin b.begin in
    let end = min a.end b.end in
    let order = ltb-true begin end (and_parts (pass a.payload b.payload) (nat_lt begin end) both).1 in
    let is_time = left.ends in
    record { lives = order; begins = omega arith; ends = omega arith })

choice_are : (pass : PairTest) (rs : List Row) → AreRows rs → AreRows (joined_rows pass rs)
choice_are pass [] are = none_are
choice_are pass (a ∷ []) are = none_are
choice_are pass (a ∷ (b ∷ [])) are = pair_are pass a b (first_is a (b ∷ []) are) (first_is b [] (others_are a (b ∷ []) are))
choice_are pass (a ∷ (b ∷ (c ∷ rs))) are = none_are

-- each choice of rows makes a row or none
pub join_rows : (tests : List Test) (tables : Tables) → HaveRows tables → AreRows (chosen (joined_rows (passes tests)) tables)
join_rows tests tables have = chosen_are (joined_rows (passes tests)) tables (choice_are (passes tests)) have
