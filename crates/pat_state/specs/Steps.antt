-- How the choices with one changed row are found, port by port.
use Rattle.std.specs.Prelude.{ℕ, zero, suc, ◌<◌, ◌++◌, ◌+◌, ◌-◌, List, [], ◌∷◌, Bool, ◌&&◌, nat_lt, nat_eq, drop, if◌then◌else◌, map, length, slice_index}
use Rattle.std.specs.List.{flat_map, filter}
use Rattle.cedr_base.specs.declared.field.Field.{Field}
use Rattle.cedr_base.specs.declared.row.Row.{Row}
use Rattle.change_laws.specs.Times.{later}
use Rattle.cedr_table.specs.Operators.{Tables, table_at}
use Rattle.cedr_expr.specs.declared.test.Test.{Test}
use Rattle.cedr_expr.specs.Tests.{passes, may_pass}
use Rattle.pat_state.specs.declared.matches.Stage.{Stage}
use Rattle.pat_state.specs.declared.matches.Stage.TheVariants.{Before, Last}
use Rattle.pat_state.specs.Starts.{begins_within}

-- the row so far of a choice that begins with this row
abbrev pub begun : ℕ → Row → Row
begun scope e = record { end = later e.begin scope; begin = e.begin; payload = e.payload }

-- the row so far with one row more, where that begins later and within the scope
abbrev pub next : Row → Row → List Row
next so_far e = if nat_lt so_far.begin e.begin && nat_lt e.begin so_far.end then record { end = so_far.end; begin = e.begin; payload = so_far.payload ++ e.payload } ∷ [] else []

-- the rows so far with one row more of a table
abbrev pub grown : List Row → List Row → List Row
grown so_far rows = flat_map (λ p. flat_map (next p) rows) so_far

-- What payloads have to pass: with the last row all tests, and before it those of which they have the columns.
abbrev pub stage_tests : Stage → List Test → List Field → List Field → Bool
stage_tests Before tests left right = may_pass tests left right
stage_tests Last tests left right = passes tests left right

-- the row may be the next one: it begins later and within the scope, and with the row so far it passes a test
abbrev pub follows : (List Field → List Field → Bool) → Row → Row → Bool
follows test so_far e = (nat_lt so_far.begin e.begin && nat_lt e.begin so_far.end) && test so_far.payload e.payload

-- the row so far with one row more, where that may be the next one
abbrev pub next_passing : (List Field → List Field → Bool) → Row → Row → List Row
next_passing test so_far e = if follows test so_far e then record { end = so_far.end; begin = e.begin; payload = so_far.payload ++ e.payload } ∷ [] else []

-- the rows so far with one row more of a table that may be the next one
abbrev pub grown_passing : (List Field → List Field → Bool) → List Row → List Row → List Row
grown_passing test so_far rows = flat_map (λ p. flat_map (next_passing test p) rows) so_far

-- the rows so far with one row more of each of some tables
abbrev pub grown_all : List Row → Tables → List Row
grown_all so_far [] = so_far
grown_all so_far (t ∷ ts) = grown_all (grown so_far t) ts

-- the row so far is a row of the result
abbrev pub is_match : List Test → Row → Bool
is_match tests p = nat_lt p.begin p.end && passes tests p.payload []

-- the tables with a changed row alone on its port, and on the ports before it the rows that begin before that row
abbrev pub near : Row → ℕ → Tables → Tables
near x port [] = []
near x zero (t ∷ ts) = (x ∷ []) ∷ ts
near x (suc port) (t ∷ ts) = filter (λ r. nat_lt r.begin x.begin) t ∷ near x port ts

-- the same of one table, at its place among them
abbrev pub near_at : Row → ℕ → ℕ → List Row → List Row
near_at x changed place rows = if nat_eq place changed then x ∷ [] else if nat_lt place changed then filter (λ r. nat_lt r.begin x.begin) rows else rows

-- the tables of some ports, in their order
abbrev pub picked : List ℕ → Tables → Tables
picked order tables = map (λ port. table_at tables port) order

-- each is one of so many ports
abbrev pub AreAmongPorts : ℕ → List ℕ → Type 0
AreAmongPorts ports order = (place : ℕ) → place < length order → slice_index order place < ports

-- the rows of the first port of which the changed one may be in the scope
abbrev pub firsts : ℕ → Row → ℕ → List Row → List Row
firsts scope x port rows = if nat_eq port 0 then x ∷ [] else filter (begins_within (x.begin + 1 - scope) x.begin) rows

-- the rows of the result of the choices with a changed row on its port
abbrev pub matches : ℕ → List Test → Row → ℕ → Tables → List Row
matches scope tests x port tables = filter (is_match tests) (grown_all (map (begun scope) (firsts scope x port (table_at tables 0))) (drop 1 (near x port tables)))
