-- What is kept of the ports of a sequence.
use Rattle.std.specs.Prelude.{ℕ, List, [], ◌∷◌, length}
use Rattle.cedr_expr.specs.declared.test.Test.{Test}
use Rattle.cedr_table.specs.Operators.{Tables}
use Rattle.pat_state.specs.Answers.{StandsByBegin}
use Rattle.pat_state.specs.Groups.{grouped_rows, AreGrouped}
use Rattle.pat_state.specs.Tied.{left_rows, right_rows, left_held, right_held, AreTied}
use Rattle.pat_seq.specs.declared.kept.Kept.{Kept}
use Rattle.pat_seq.specs.declared.kept.Kept.TheVariants.{Two, More}
use Rattle.pat_seq.specs.Sequences.{IsSequence}

-- the rows of the ports
abbrev pub rows_in : Kept → Tables
rows_in (Two tied) = left_rows tied ∷ right_rows tied ∷ []
rows_in (More grouped) = grouped_rows grouped

-- all rows that are held of the ports: of two ports also those that are noted to be due
abbrev pub ports_held : Kept → Tables
ports_held (Two tied) = left_held tied ∷ right_held tied ∷ []
ports_held (More grouped) = grouped_rows grouped

-- the rows have their tags
abbrev pub AreKept : List Test → Kept → Type 0
AreKept tests (Two tied) = AreTied tests tied
AreKept tests (More grouped) = AreGrouped tests grouped

-- the rows that are kept stand for the tables, and have their tags
pub record SequenceStands (scope : ℕ) (tests : List Test) (kept : Kept) (tables : Tables) (marks : List ℕ) : Type 0 where
  pub kept_stand : StandsByBegin (IsSequence (length (rows_in kept)) scope) scope (rows_in kept) tables marks
  pub tags : AreKept tests kept
