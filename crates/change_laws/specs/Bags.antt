-- A bag with a row less.
use Rattle.std.specs.Prelude.{List, [], ◌∷◌, cond}
use Rattle.cedr_base.specs.declared.row.Row.{Row}
use Rattle.cedr_base.specs.Rows.{same_row}

-- a bag with one copy of a row less
abbrev pub without : Row → List Row → List Row
without x [] = []
without x (y ∷ ys) = cond (same_row x y) ys (y ∷ without x ys)
