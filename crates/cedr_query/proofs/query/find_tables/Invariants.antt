use Rattle.std.proofs.Common.{◌≡◌, [], length, take}
use Rattle.cedr_table.specs.Operators.{SameTables, HaveRows}
use Rattle.cedr_query.specs.Queries.{each_node, node_table}
use Rattle.cedr_query.proofs.query.find_tables.Given as goal

abbrev pub invariant-loop-place : goal.invariant-loop-place
invariant-loop-place l = record {
  same : SameTables l.tables.items (each_node (node_table l.sources) [] [] (take l.place l.nodes));
  rows : HaveRows l.tables.items;
  len : length l.tables.items ≡ l.place;
}
