-- Sequences.
use Rattle.std.specs.Prelude.{ℕ, ◌≤◌, List, false}
use Rattle.cedr_table.specs.Operators.{Meaning, least_of}
use Rattle.cedr_table.specs.Choices.{chosen}
use Rattle.pat_state.specs.Starts.{scope_reaches}
use Rattle.cedr_expr.specs.declared.test.Test.{Test}
use Rattle.change_laws.specs.Times.{IsWhile}
pub use Rattle.pat_state.specs.Ascending.{sequence}

-- One row for each such choice of one row of each port. A row may be held whose scope ends after the least mark.
abbrev pub sequence_of : ℕ → ℕ → List Test → Meaning
sequence_of ports scope tests = record {
  ports = ports;
  result = chosen (sequence scope tests);
  bound = λ _ marks. least_of marks;
  may_hold = λ _ marks _ r. scope_reaches scope (least_of marks) r;
  echoes = false;
  stateless = false;
}

-- a sequence has 2 to 4 ports, and its scope is a while
pub record IsSequence (ports scope : ℕ) : Type 0 where
  pub least : 2 ≤ ports
  pub most : ports ≤ 4
  pub scope_is : IsWhile scope
