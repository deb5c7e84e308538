-- The rule of the book, and what its steps say.
use Rattle.std.specs.Prelude.{ℕ, ◌≡◌, ◌==◌, true, List, [], ◌∷◌, ◌++◌, length, MatchBool}
use Rattle.logbook.specs.Pages.{Cell, Step as Exchange, View, Book, Named}
use Rattle.cedr_history.specs.declared.step.Step.{Step}

-- the first word is the length of the history. A book has two words, of which this one leaves the second at 0
pub record IsKept (cells : List Cell) (log : List Step) : Type 0 where
  pub words : cells ≡ (length log, true) ∷ (0, true) ∷ []

-- the first word of a book, which the book tracks
abbrev pub head_of : Book → Named
head_of b = record { tracked = true; key = 0; book = b }

-- the step was added to all that had been seen; or the history was longer, and was seen
abbrev pub Adds : Exchange Step → View Step ℕ → ℕ → View Step ℕ → Type 0
Adds s v found w = MatchBool (found == s.old) (w.0 ≡ v.0 ++ s.ask ∷ []) (length w.0 ≡ found)
