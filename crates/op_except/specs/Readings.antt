-- How the states of an except are read. Behind the rows of both ports it holds the lives of its result.
use Rattle.std.specs.Prelude.{[], ◌∷◌}
use Rattle.cedr_table.specs.Readings.{Reading}
use Rattle.filed_rows.specs.Filed.{all_under}
use Rattle.op_except.specs.declared.except.Except.{Except}
use Rattle.op_except.specs.Parts.{except_of}
use Rattle.op_except.specs.Standing.{ExceptStands}

abbrev pub except_reading : Reading Except
except_reading = record {
  meaning = λ op. except_of op.tests;
  stands = ExceptStands;
  held = λ op. all_under op.left.by_tag.entries ∷ all_under op.right.by_tag.entries ∷ op.parts.by_end ∷ [];
}
