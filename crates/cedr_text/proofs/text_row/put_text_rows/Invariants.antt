use Rattle.std.proofs.Common.{◌≡◌, ◌++◌, take}
use Rattle.cedr_text.specs.Texts.{rows_text}
use Rattle.cedr_text.specs.RowWriters.{text_of, IsAtRow}
use Rattle.cedr_text.proofs.text_row.put_text_rows.Given as goal

abbrev pub invariant-loop-row : goal.invariant-loop-row
invariant-loop-row l = IsAtRow l.writer × (text_of l.writer ≡ text_of l.fn.writer ++ rows_text (take l.row-index l.rows))
