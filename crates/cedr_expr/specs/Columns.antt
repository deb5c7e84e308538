-- Columns by their places, of payloads and of their types alike.
use Rattle.std.specs.Prelude.{ℕ, List, ◌++◌, Option}
use Rattle.std.specs.List.{slice_get, filter_map}

-- what stands at a place that counts through a left list and on through a right one
abbrev pub column : {X : Type 0} → List X → List X → ℕ → Option X
column left right place = slice_get (left ++ right) place

-- what stands at these places, in their order, and nothing for a place past the end
abbrev pub kept_columns : {X : Type 0} → List ℕ → List X → List X
kept_columns places xs = filter_map (slice_get xs) places
