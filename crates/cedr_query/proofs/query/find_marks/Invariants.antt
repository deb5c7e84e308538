use Rattle.std.proofs.Common.{◌≡◌, [], length, take}
use Rattle.cedr_table.specs.Operators.{Tables, SameTables, AreTimes}
use Rattle.cedr_query.specs.Queries.{each_node, node_mark}
use Rattle.cedr_query.proofs.query.find_marks.Given as goal

abbrev pub invariant-loop-place : goal.invariant-loop-place
invariant-loop-place l = record {
  is : (others : Tables) → SameTables l.tables others → l.marks.items ≡ each_node (node_mark others l.sources) [] [] (take l.place l.nodes);
  times : AreTimes l.marks.items;
  len : length l.marks.items ≡ l.place;
}
