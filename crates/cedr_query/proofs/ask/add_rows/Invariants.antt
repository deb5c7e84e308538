use Rattle.std.proofs.Common.{◌≡◌}
use Rattle.cedr_table.specs.Operators.{Tables}
use Rattle.cedr_query.specs.Asked.{MadeOfTables}
use Rattle.cedr_query.proofs.Feeding.{with_first}
use Rattle.cedr_query.proofs.ask.add_rows.Given as goal

abbrev pub invariant-loop-row : goal.invariant-loop-row
invariant-loop-row g l = record {
  works : (tables : Tables) → MadeOfTables (g.O.Operator.meaning l.fn.op) (g.O.Operator.stands l.fn.op) tables l.fn.made
      → MadeOfTables (g.O.Operator.meaning l.op) (g.O.Operator.stands l.op) (with_first tables l.port l.row-index l.rows) l.made;
  meaning : g.O.Operator.meaning l.op ≡ g.O.Operator.meaning l.fn.op;
}
