use Rattle.std.proofs.Common.{◌≡◌}
use Rattle.cedr_table.specs.Operators.{Tables}
use Rattle.cedr_query.specs.Asked.{MadeOfTables}
use Rattle.cedr_query.proofs.Feeding.{FedTo}
use Rattle.cedr_query.proofs.ask.add_tables.Given as goal

abbrev pub invariant-loop-port : goal.invariant-loop-port
invariant-loop-port g l = record {
  fed : (fed : Tables) × (MadeOfTables (g.O.Operator.meaning l.op) (g.O.Operator.stands l.op) fed l.made × FedTo l.tables l.inputs l.port fed);
  meaning : g.O.Operator.meaning l.op ≡ g.O.Operator.meaning l.fn.op;
}
