-- What was read of a file.
use Rattle.std.specs.Prelude.{ℕ, ◌≡◌, ◌≤◌, List, ◌++◌, [], ◌∷◌, length, Result, Ok, Err}
use Rattle.plan_answer.specs.Sources.{AsksFirst}

-- the front of the bytes, and all of them unless it passes the limit
pub record IsFileFront (limit : ℕ) (all front : List ℕ) : Type 0 where
  pub rest : List ℕ
  pub begins : all ≡ front ++ rest
  pub whole : length front ≤ limit → rest ≡ []

-- the name is asked for, unless memory ran out before
abbrev pub AsksFile : {T E : Type 0} → Result T E → List (List ℕ) → List (List ℕ) → List ℕ → Type 0
AsksFile (Ok done) old new name = new ≡ old ++ name ∷ []
AsksFile (Err fault) old new name = AsksFirst old new (name ∷ [])
