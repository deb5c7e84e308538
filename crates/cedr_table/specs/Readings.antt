-- How the states of an operator are read.
use Rattle.std.specs.Prelude.{ℕ, List, []}
use Rattle.cedr_base.specs.declared.row.Row.{Row}
use Rattle.cedr_table.specs.Operators.{Tables, Meaning}
use Rattle.cedr_table.specs.RowWise.{row_wise, StandsOnOne}
use Rattle.cedr_table.specs.declared.either.Either.{Either}
use Rattle.cedr_table.specs.Eithers.{either_meaning, EitherStands, either_held}

-- what the states of an operator mean, what they stand for and which rows they hold
pub record Reading (A : Type 0) : Type 1 where
  pub meaning : A → Meaning
  pub stands : A → Tables → List ℕ → Type 0
  pub held : A → Tables

-- of an operator that makes its rows of each row by itself, whose parameters are in range
abbrev pub row_wise_reading : {A : Type 0} → (A → Type 0) → (A → Row → List Row) → (A → ℕ → ℕ) → Reading A
row_wise_reading in_range image mark = record {
  meaning = λ op. row_wise (image op) (mark op);
  stands = λ op. StandsOnOne (in_range op);
  held = λ op. [];
}

-- one of two operators is read as that operator is
abbrev pub either_reading : {A B : Type 0} → Reading A → Reading B → Reading (Either A B)
either_reading first second = record {
  meaning = either_meaning first.meaning second.meaning;
  stands = EitherStands first.stands second.stands;
  held = either_held first.held second.held;
}
