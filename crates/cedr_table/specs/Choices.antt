-- One row of each port.
use Rattle.std.specs.Prelude.{List, [], ◌∷◌, map}
use Rattle.std.specs.List.{flat_map}
use Rattle.cedr_base.specs.declared.row.Row.{Row}
use Rattle.cedr_table.specs.Operators.{Tables}

-- each choice of one row of each port, in the order of the ports
abbrev pub choices : Tables → List (List Row)
choices [] = [] ∷ []
choices (t ∷ ts) = flat_map (λ r. map (λ rs. r ∷ rs) (choices ts)) t

-- the rows that the choices give
abbrev pub chosen : (List Row → List Row) → Tables → List Row
chosen image tables = flat_map image (choices tables)
