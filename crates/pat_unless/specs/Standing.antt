-- What the state of an unless stands for.
use Rattle.std.specs.Prelude.{ℕ, List, [], ◌∷◌}
use Rattle.cedr_table.specs.Operators.{Tables}
use Rattle.pat_state.specs.Answers.{StandsByBegin}
use Rattle.pat_state.specs.Tied.{left_rows, right_rows, AreTied}
use Rattle.pat_state.specs.declared.tied.Tied.{Tied}
use Rattle.pat_unless.specs.declared.terms.Terms.{Terms}
use Rattle.pat_unless.specs.Blocking.{AreWhiles}

-- the rows that are kept stand for the tables, and each has its tag
pub record UnlessStands (terms : Terms) (tied : Tied) (tables : Tables) (marks : List ℕ) : Type 0 where
  pub kept : StandsByBegin (AreWhiles terms.scope terms.hold) terms.scope (left_rows tied ∷ right_rows tied ∷ []) tables marks
  pub tags : AreTied terms.tests tied
