-- A beginning of one history's steps, with the book that says which history it is.
use Rattle.std.specs.Prelude.{◌≡◌, List}
use mathlib.Core.List.{IsPrefix}
use Rattle.logbook.specs.Pages.{Book}
use Rattle.cedr_history.specs.declared.step.Step.{Step}

-- a beginning: which history it is of, and the first of that history's steps
pub record Sight : Type 0 where
  pub book : Book
  pub steps : List Step

-- the second goes on from the first, in one history
abbrev pub SightBegins : Sight → Sight → Type 0
SightBegins a b = (a.book ≡ b.book) × IsPrefix a.steps b.steps
