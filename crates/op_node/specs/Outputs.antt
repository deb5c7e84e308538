-- The output of a plan.
use Rattle.std.specs.Prelude.{ℕ, ◌≡◌, List, length, true, false}
use Rattle.cedr_table.specs.Operators.{Tables, Meaning, table_at, mark_at}

-- One port. All its rows as they are, each change handed on by itself, and the bound is the port's mark.
abbrev pub handed_on : Meaning
handed_on = record {
  ports = 1;
  result = λ tables. table_at tables 0;
  bound = λ _ marks. mark_at marks 0;
  may_hold = λ _ _ _ _. false;
  echoes = true;
  stateless = true;
}

-- one table and one mark
pub record StandsForOne (tables : Tables) (marks : List ℕ) : Type 0 where
  pub table : length tables ≡ 1
  pub mark : length marks ≡ 1
