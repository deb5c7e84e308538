-- Rows that begin one after the other within a scope.
use Rattle.std.specs.Prelude.{ℕ, List, [], ◌∷◌, Bool, ◌&&◌, nat_lt, if◌then◌else◌}
use Rattle.std.specs.List.{flat_map}
use Rattle.cedr_base.specs.declared.field.Field.{Field}
use Rattle.cedr_base.specs.declared.row.Row.{Row}
use Rattle.change_laws.specs.Times.{later}
use Rattle.cedr_expr.specs.declared.test.Test.{Test}
use Rattle.cedr_expr.specs.Tests.{passes}

-- after < e1.begin < e2.begin < .. < ek.begin < limit
abbrev pub ascends : ℕ → ℕ → List Row → Bool
ascends after limit [] = nat_lt after limit
ascends after limit (e ∷ es) = nat_lt after e.begin && ascends e.begin limit es

-- the begin of the last row, and the time itself where there is none
abbrev pub last_begin : ℕ → List Row → ℕ
last_begin after [] = after
last_begin after (e ∷ es) = last_begin e.begin es

-- the payloads of the rows, one after the other
abbrev pub payloads_joined : List Row → List Field
payloads_joined rows = flat_map (λ r. r.payload) rows

-- the row of a choice: it begins with the last row, and ends when the scope of the first one does
abbrev pub choice_row : ℕ → Row → List Row → Row
choice_row scope e es = record { end = later e.begin scope; begin = last_begin e.begin es; payload = payloads_joined (e ∷ es) }

-- the choice's row, where its rows begin one after the other within the scope of the first one and their payloads
-- pass the tests
abbrev pub sequence : ℕ → List Test → List Row → List Row
sequence scope tests [] = []
sequence scope tests (e ∷ es) = if ascends e.begin (later e.begin scope) es && passes tests (payloads_joined (e ∷ es)) [] then choice_row scope e es ∷ [] else []
