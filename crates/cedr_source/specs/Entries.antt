-- Entries that are kept as their messages, one after the other, and how many each has.
use Rattle.std.specs.Prelude.{ℕ, List, [], ◌∷◌, take, drop}
use Rattle.cedr_base.specs.declared.change.Message.{Message}

-- the entries whose messages these are, where each has so many
abbrev pub entries_by : List ℕ → List Message → List (List Message)
entries_by [] messages = []
entries_by (count ∷ counts) messages = take count messages ∷ entries_by counts (drop count messages)
