use Rattle.std.proofs.Common.{◌≡◌, ◌++◌, map}
use Rattle.cedr_base.specs.declared.field.Field.TheVariants.{Bytes}
use Rattle.cedr_text.specs.Texts.{payload_text}
use Rattle.cedr_text.specs.TextRows.{texts_of}
use Rattle.cedr_text.specs.RowWriters.{text_of, IsInRow}
use Rattle.cedr_text.proofs.payload_text.put_parts.Given as goal

abbrev pub invariant-loop-part : goal.invariant-loop-part
invariant-loop-part l = record {
  can_next : (goal.iterator-loop-part).can_next l.part-iterator;
  is_finite : (goal.iterator-loop-part).is_finite l.part-iterator;
  in_row : IsInRow l.writer;
  rest : text_of l.writer ++ payload_text (map (λ part. Bytes part) l.part-iterator) ≡ text_of l.fn.writer ++ payload_text (texts_of l.text);
}
