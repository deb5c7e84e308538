-- Rows of events under their ids.
use Rattle.std.specs.Prelude.{ℕ, Option}
use Rattle.std.specs.BTreeMap.{get}
use Rattle.std.specs.Ordering.{nat_cmp}
use Rattle.cedr_base.specs.declared.row.Row.{Row}
use Rattle.open_events.specs.declared.events.OpenEvents.{OpenEvents}

-- the row that an id has
abbrev pub open_row : OpenEvents → ℕ → Option Row
open_row events id = get nat_cmp events.rows id
