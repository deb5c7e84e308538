use Rattle.std.proofs.Common.{◌≡◌, ◌++◌}
use Rattle.cedr_text.specs.Texts.{payload_text}
use Rattle.cedr_text.specs.RowWriters.{text_of, IsInRow}
use Rattle.cedr_text.proofs.write.put_payload.Given as goal

abbrev pub invariant-loop-field : goal.invariant-loop-field
invariant-loop-field l = record {
  can_next : (goal.iterator-loop-field).can_next l.field-iterator;
  is_finite : (goal.iterator-loop-field).is_finite l.field-iterator;
  in_row : IsInRow l.writer;
  rest : text_of l.writer ++ payload_text l.field-iterator ≡ text_of l.fn.writer ++ payload_text l.payload;
}
