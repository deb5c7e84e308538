-- The ends of rows that are filed under tags.
use Rattle.std.specs.Prelude.{ℕ, ◌<◌, List}
use Rattle.std.specs.List.{Contains}
use Rattle.cedr_base.specs.declared.time.TheConstants.{FOREVER}
use Rattle.cedr_base.specs.declared.row.Row.{Row}
use Rattle.cedr_base.specs.Rows.{count_of}
use Rattle.filed_rows.specs.Filed.{FiledRows, under, IsInUse}

-- The end of each row that ends is among these, with the row's tag, and others may be. No tag stands there without a row.
pub record AreEnds (filed : FiledRows) (ends : List (ℕ × ℕ)) : Type 0 where
  pub each : (tag : ℕ) (r : Row) → 0 < count_of r (under filed tag) → r.end < FOREVER → Contains ends (r.end, tag)
  pub in_use : (tag : ℕ) → IsInUse filed tag
