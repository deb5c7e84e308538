-- Patterns that some number of different inputs have rows within a scope, in any order.
use Rattle.std.specs.Prelude.{ℕ, ◌≤◌, List, [], ◌∷◌, nat_lt, if◌then◌else◌, false}
use Rattle.std.specs.List.{flat_map}
use Rattle.cedr_base.specs.declared.row.Row.{Row}
use Rattle.change_laws.specs.Times.{IsWhile}
use Rattle.cedr_table.specs.Operators.{Tables, Meaning, least_of}
use Rattle.cedr_table.specs.Choices.{chosen}
use Rattle.cedr_expr.specs.declared.test.Test.{Test}
use Rattle.pat_state.specs.Starts.{scope_reaches}
use Rattle.pat_state.specs.Ascending.{sequence}
use Rattle.pat_atleast.specs.Arrangements.{some_of}

-- a row put among rows, before the first one that begins later
abbrev pub put_in : Row → List Row → List Row
put_in r [] = r ∷ []
put_in r (e ∷ es) = if nat_lt r.begin e.begin then r ∷ e ∷ es else e ∷ put_in r es

-- the rows in ascending order of begin
abbrev pub by_begin : List Row → List Row
by_begin [] = []
by_begin (r ∷ rs) = put_in r (by_begin rs)

-- The row of some rows, whichever their order: in ascending order of begin they begin one after the other within the scope of
-- the first one, so that no two begin together, and their payloads joined in this order pass the tests. It begins with
-- the last of them and ends when the scope of the first one does.
abbrev pub together : ℕ → List Test → List Row → List Row
together scope tests rows = sequence scope tests (by_begin rows)

-- the rows for each choice of so many different ports and one row of each of them
abbrev pub at_least : ℕ → ℕ → List Test → Tables → List Row
at_least number scope tests tables = flat_map (chosen (together scope tests)) (some_of number tables)

-- One row for each such choice. A row may be held whose scope ends after the least mark.
abbrev pub at_least_of : ℕ → ℕ → ℕ → List Test → Meaning
at_least_of ports number scope tests = record {
  ports = ports;
  result = at_least number scope tests;
  bound = λ _ marks. least_of marks;
  may_hold = λ _ marks _ r. scope_reaches scope (least_of marks) r;
  echoes = false;
  stateless = false;
}

-- there are 2 to 4 ports, a number from 1 to as many, and a scope that is a while
pub record IsAtLeast (ports number scope : ℕ) : Type 0 where
  pub least : 2 ≤ ports
  pub most : ports ≤ 4
  pub some : 1 ≤ number
  pub enough : number ≤ ports
  pub scope_is : IsWhile scope
