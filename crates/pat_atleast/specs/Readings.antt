-- How the states are read.
use Rattle.std.specs.Prelude.{length}
use Rattle.cedr_table.specs.Readings.{Reading}
use Rattle.pat_atleast.specs.declared.at_least.AtLeast.{AtLeast}
use Rattle.pat_atleast.specs.AtLeasts.{at_least_of}
use Rattle.pat_atleast.specs.Keeping.{bags_in, AtLeastStands}

abbrev pub at_least_reading : Reading AtLeast
at_least_reading = record {
  meaning = λ op. at_least_of (length (bags_in op.kept)) op.number op.scope op.tests;
  stands = λ op. AtLeastStands op.number op.scope op.tests op.orders.items op.kept;
  held = λ op. bags_in op.kept;
}
