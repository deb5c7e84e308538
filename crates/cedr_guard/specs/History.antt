-- The canonical history of accepted lines.
use Rattle.std.specs.Prelude.{List, [], ◌∷◌, filter, unwrap_or}
use Rattle.cedr_base.specs.declared.row.Row.{Row}
use Rattle.cedr_base.specs.Rows.{in_order}
use Rattle.cedr_text.specs.declared.event_line.EventLine.{EventLine}
use Rattle.cedr_text.specs.declared.event_line.EventLine.TheVariants.{Insert, Retract, Revise, Promise}
use Rattle.cedr_guard.specs.Judging.{event_with, row_after, row_lives}

-- for each insertion the row of its event: the begin and payload of its id's last version, with the least end among its
-- own and those of the retractions since
abbrev pub rows_among : List EventLine → List Row
rows_among [] = []
rows_among (Insert id row ∷ lines) = unwrap_or (event_with id lines) (row_after id row lines) ∷ rows_among lines
rows_among (Retract id end ∷ lines) = rows_among lines
rows_among (Revise id row ∷ lines) = rows_among lines
rows_among (Promise time ∷ lines) = rows_among lines

-- the canonical history: those rows, without the empty ones, in canonical order
abbrev pub history_of : List EventLine → List Row
history_of lines = in_order (filter row_lives (rows_among lines))
