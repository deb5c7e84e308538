-- What a judge has to know of the lines that it accepted.
use Rattle.std.specs.Prelude.{ℕ, ◌≡◌, List, [], Option, option_map, if◌then◌else◌}
use Rattle.cedr_base.specs.declared.row.Row.{Row}
use Rattle.cedr_text.specs.declared.event_line.EventLine.{EventLine}
use Rattle.cedr_guard.specs.Judging.{guarantee_of, event_with, row_lives}

-- an event as it is: where it is withdrawn, without its fields
abbrev pub as_it_is : Row → Row
as_it_is row = if row_lives row then row else record row { payload = [] }

-- the event of an id, as it is after the lines
abbrev pub known_of : ℕ → List EventLine → Option Row
known_of id lines = option_map as_it_is (event_with id lines)

-- the same guarantee, and the same events as they are
pub record SameState (xs ys : List EventLine) : Type 0 where
  pub mark : guarantee_of xs ≡ guarantee_of ys
  pub events : (id : ℕ) → known_of id xs ≡ known_of id ys
