-- How the states of a join are read.
use Rattle.std.specs.Prelude.{[], ◌∷◌}
use Rattle.cedr_table.specs.Readings.{Reading}
use Rattle.op_join.specs.declared.join.Join.{Join}
use Rattle.filed_rows.specs.Filed.{all_under}
use Rattle.op_join.specs.Joins.{join_of, StandsOnTwo}

abbrev pub join_reading : Reading Join
join_reading = record {
  meaning = λ op. join_of op.tests;
  stands = λ op. StandsOnTwo op.tests op.width op.left op.right;
  held = λ op. all_under op.left.by_tag.entries ∷ all_under op.right.by_tag.entries ∷ [];
}
