-- What stands between separators: the lines of a file, and the fields of a line.
use Rattle.std.specs.Prelude.{ℕ, ◌≡◌, ◌≢◌, ◌==◌, ◌<◌, List, [], ◌∷◌, Option, None, Some}
use Rattle.std.specs.List.{slice_split}
use Rattle.cedr_base.specs.Bytes.{comma}

-- the parts between the separators, of which there is one more than of these
abbrev pub parts_of : ℕ → List ℕ → List (List ℕ)
parts_of separator bytes = slice_split (λ b. b == separator) bytes

-- the parts of what is left of some bytes, which is nothing after the last part
abbrev pub parts_left : ℕ → Option (List ℕ) → List (List ℕ)
parts_left separator None = []
parts_left separator (Some bytes) = parts_of separator bytes

-- a byte that may stand between the fields of a line, as a comma or a carriage return: no digit, and no `+`, `-`, `=` or `~`
abbrev pub IsSeparator : ℕ → Type 0
IsSeparator byte = (byte < 45) × (byte ≢ 43)

-- the parts of a line between its commas, whatever quotes it has
abbrev pub fields_of : List ℕ → List (List ℕ)
fields_of line = parts_of comma line

-- of some parts the first one, of which this holds, was taken
pub record CutsField (parts rest : List (List ℕ)) (Holds : List ℕ → Type 0) : Type 0 where
  pub field : List ℕ
  pub parts_are : parts ≡ field ∷ rest
  pub holds : Holds field
