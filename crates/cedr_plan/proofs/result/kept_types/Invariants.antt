use Rattle.std.proofs.Common.{◌≡◌, ◌++◌, drop}
use Rattle.cedr_expr.specs.Columns.{kept_columns}
use Rattle.cedr_plan.proofs.result.kept_types.Given as goal

abbrev pub invariant-loop-column : goal.invariant-loop-column
invariant-loop-column l = l.chosen.items ++ kept_columns (drop l.column-index l.columns) l.types ≡ kept_columns l.columns l.types
