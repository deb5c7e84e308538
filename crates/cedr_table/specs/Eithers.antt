-- What one of two operators means, what its state stands for and what it holds.
use Rattle.std.specs.Prelude.{ℕ, List}
use Rattle.cedr_table.specs.Operators.{Tables, Meaning}
use Rattle.cedr_table.specs.declared.either.Either.{Either}
use Rattle.cedr_table.specs.declared.either.Either.TheVariants.{First, Second}

-- it means what that operator does
abbrev pub either_meaning : {A B : Type 0} → (A → Meaning) → (B → Meaning) → Either A B → Meaning
either_meaning first second (First op) = first op
either_meaning first second (Second op) = second op

-- its state stands for what that operator's does
abbrev pub EitherStands : {A B : Type 0} → (A → Tables → List ℕ → Type 0) → (B → Tables → List ℕ → Type 0) → Either A B → Tables → List ℕ → Type 0
EitherStands first second (First op) = first op
EitherStands first second (Second op) = second op

-- it holds what that operator does
abbrev pub either_held : {A B : Type 0} → (A → Tables) → (B → Tables) → Either A B → Tables
either_held first second (First op) = first op
either_held first second (Second op) = second op
