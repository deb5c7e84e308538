-- Unless: rows that no other row blocks.
use Rattle.std.specs.Prelude.{ℕ, List, [], Some, Bool, false, ◌&&◌, nat_lt, if◌then◌else◌}
use Rattle.std.specs.List.{flat_map, list_any}
use Rattle.cedr_base.specs.declared.row.Row.{Row}
use Rattle.change_laws.specs.Times.{later}
use Rattle.cedr_table.specs.Operators.{Tables, Meaning, table_at, least_of}
use Rattle.cedr_table.specs.RowWise.{made}
use Rattle.pat_state.specs.Starts.{scope_reaches}
use Rattle.cedr_expr.specs.declared.test.Test.{Test}
use Rattle.cedr_expr.specs.Tests.{passes}
use Rattle.change_laws.specs.Times.{IsWhile}

-- b blocks a: a.begin < b.begin < later(a.begin, scope), and a and b pass the tests
abbrev pub blocks : ℕ → List Test → Row → Row → Bool
blocks scope tests a b = nat_lt a.begin b.begin && (nat_lt b.begin (later a.begin scope) && passes tests a.payload b.payload)

-- a row blocks a
abbrev pub is_blocked_by : ℕ → List Test → List Row → Row → Bool
is_blocked_by scope tests blockers a = list_any (blocks scope tests a) blockers

-- the row that a gives where nothing blocks it: from the end of its scope on, for as long as it is held
abbrev pub waited : ℕ → ℕ → Row → List Row
waited scope hold a = made (record { begin = later a.begin scope; end = later (later a.begin scope) hold }) (Some a.payload)

-- the row that a gives: none where a row blocks it
abbrev pub unblocked : ℕ → ℕ → List Test → List Row → Row → List Row
unblocked scope hold tests blockers a = if is_blocked_by scope tests blockers a then [] else waited scope hold a

-- the rows of port 0 that no row of port 1 blocks
abbrev pub all_unblocked : ℕ → ℕ → List Test → Tables → List Row
all_unblocked scope hold tests tables = flat_map (unblocked scope hold tests (table_at tables 1)) (table_at tables 0)

-- A row may be held whose scope ends after the least mark.
abbrev pub unless_of : ℕ → ℕ → List Test → Meaning
unless_of scope hold tests = record {
  ports = 2;
  result = all_unblocked scope hold tests;
  bound = λ _ marks. least_of marks;
  may_hold = λ _ marks _ r. scope_reaches scope (least_of marks) r;
  echoes = false;
  stateless = false;
}

-- the scope and the hold are whiles
pub record AreWhiles (scope hold : ℕ) : Type 0 where
  pub scope_is : IsWhile scope
  pub hold_is : IsWhile hold
