-- How the states of a sequence are read.
use Rattle.std.specs.Prelude.{length}
use Rattle.cedr_table.specs.Readings.{Reading}
use Rattle.pat_seq.specs.declared.sequence.Sequence.{Sequence}
use Rattle.pat_seq.specs.Keeping.{rows_in, ports_held, SequenceStands}
use Rattle.pat_seq.specs.Sequences.{sequence_of}

abbrev pub sequence_reading : Reading Sequence
sequence_reading = record {
  meaning = λ op. sequence_of (length (rows_in op.kept)) op.scope op.tests;
  stands = λ op. SequenceStands op.scope op.tests op.kept;
  held = λ op. ports_held op.kept;
}
