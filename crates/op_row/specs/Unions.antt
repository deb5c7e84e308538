-- Union.
use Rattle.std.specs.Prelude.{ℕ, ◌≡◌, List, length, true, false}
use Rattle.std.specs.List.{flat_map}
use Rattle.cedr_base.specs.declared.row.Row.{Row}
use Rattle.cedr_table.specs.Operators.{Tables, Meaning, least_of}

-- each row of each port
abbrev pub united : Tables → List Row
united tables = flat_map (λ rows. rows) tables

-- the meaning of a union: each row of each port, and the least mark as the bound
abbrev pub union_of : ℕ → Meaning
union_of ports = record {
  ports = ports;
  result = united;
  bound = λ _ marks. least_of marks;
  may_hold = λ _ _ _ _. false;
  echoes = false;
  stateless = true;
}

-- so many ports
pub record StandsOnPorts (ports : ℕ) (tables : Tables) (marks : List ℕ) : Type 0 where
  pub table : length tables ≡ ports
  pub mark : length marks ≡ ports
