-- The rows of events are their valid intervals with their payloads.
use Rattle.std.proofs.Common.{◌≡◌, List, [], ◌∷◌, cond, filter, map, refl, ap}
use Rattle.std.specs.Prelude.{nat_lt}
use Rattle.cedr_base.specs.declared.row.Row.{Row}
use Rattle.cedr_guard.specs.Judging.{row_lives}
use Rattle.cedr_guard.specs.Standing.{interval_of, row_payload}
use Rattle.cedr_commands.specs.Events.{living_rows}

-- intervals and payloads are the rows
pub rows_from : (rows : List Row) → living_rows (map interval_of rows) (map row_payload rows) ≡ filter row_lives rows
rows_from [] = refl
rows_from (row ∷ rows) = ap (λ rest. cond (nat_lt row.begin row.end) (row ∷ rest) rest) (rows_from rows)
