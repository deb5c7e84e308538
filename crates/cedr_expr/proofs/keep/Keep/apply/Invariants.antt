use Rattle.std.proofs.Common.{◌≡◌, take}
use Rattle.cedr_expr.specs.Columns.{kept_columns}
use Rattle.cedr_expr.proofs.keep.Keep.apply.Given as goal

abbrev pub invariant-loop-column : goal.invariant-loop-column
invariant-loop-column l = l.chosen ≡ kept_columns (take l.column-index l.self) l.payload
