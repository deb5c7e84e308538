-- The choices give rows only.
use Rattle.std.proofs.Common.{ℕ, List, [], ◌∷◌}
use Rattle.std.specs.List.{flat_map}
use Rattle.cedr_base.specs.declared.row.Row.{Row}
use Rattle.cedr_base.specs.Rows.{AreRows}
use Rattle.cedr_table.specs.Operators.{Tables, HaveRows}
use Rattle.cedr_table.specs.Choices.{choices, chosen}
use Rattle.cedr_table.proofs.RowsLemmas.{none_are, both_are}
use Rattle.cedr_expr.specs.declared.test.Test.{Test}
use Rattle.pat_state.proofs.SeenLemmas.{sequence_are}
use Rattle.pat_atleast.specs.Arrangements.{some_of}
use Rattle.pat_atleast.specs.AtLeasts.{by_begin, together, at_least}

made_are : {X : Type 0} (image : X → List Row) (xs : List X) → ((x : X) → AreRows (image x)) → AreRows (flat_map image xs)
made_are image [] each = none_are
made_are image (x ∷ xs) each = both_are (image x) (flat_map image xs) (each x) (made_are image xs each)

-- each choice makes a row or none
pub at_least_rows : (number scope : ℕ) (tests : List Test) (tables : Tables) → HaveRows tables → AreRows (at_least number scope tests tables)
at_least_rows number scope tests tables have =
    made_are (chosen (together scope tests)) (some_of number tables) (λ some. made_are (together scope tests) (choices some) (λ rs. sequence_are scope tests (by_begin rs)))
