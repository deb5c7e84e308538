-- One of two operators keeps the laws, as that operator does.
use Rattle.std.specs.Prelude.{ℕ, List}
use Rattle.cedr_table.specs.Operators.{Tables, Meaning}
use Rattle.cedr_table.specs.OperatorLaws.{OperatorLaws}
use Rattle.cedr_table.specs.declared.either.Either.{Either}
use Rattle.cedr_table.specs.declared.either.Either.TheVariants.{First, Second}
use Rattle.cedr_table.specs.Eithers.{either_meaning, EitherStands}

pub either_laws : {A B : Type 0} (first : A → Meaning) (stands : A → Tables → List ℕ → Type 0) (laws : (s : A) → OperatorLaws (first s) (stands s))
    (second : B → Meaning) (holds : B → Tables → List ℕ → Type 0) (others : (s : B) → OperatorLaws (second s) (holds s))
    (s : Either A B) → OperatorLaws (either_meaning first second s) (EitherStands stands holds s)
either_laws first stands laws second holds others (First op) = laws op
either_laws first stands laws second holds others (Second op) = others op
