-- Of tables that have rows only, so have their sequences.
use Rattle.std.proofs.Common.{ℕ, List}
use Rattle.cedr_base.specs.Rows.{AreRows}
use Rattle.cedr_expr.specs.declared.test.Test.{Test}
use Rattle.cedr_table.specs.Operators.{Tables, HaveRows}
use Rattle.cedr_table.specs.Choices.{chosen}
use Rattle.cedr_table.proofs.RowsLemmas.{chosen_are}
use Rattle.pat_state.specs.Ascending.{sequence}
use Rattle.pat_state.proofs.SeenLemmas.{sequence_are}

-- each choice of rows makes a row or none
pub sequence_rows : (scope : ℕ) (tests : List Test) (tables : Tables) → HaveRows tables → AreRows (chosen (sequence scope tests) tables)
sequence_rows scope tests tables have = chosen_are (sequence scope tests) tables (λ rs are. sequence_are scope tests rs) have
