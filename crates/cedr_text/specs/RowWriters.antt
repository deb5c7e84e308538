-- A csv writer that writes rows: how it is set up, what it has written, and where in a row it stands.
use Rattle.std.specs.Prelude.{◌≡◌, ◌<◌, ℕ, List, ◌++◌, true, Vec}
use Rattle.std.specs.declared.alloc.Global.{Global}
use Rattle.csv.specs.Writing.{default_writer, with_flexible, writer_setup, writer_under, writer_pending, fields_written}
use Rattle.csv.specs.declared.writer.Writer.{Writer}
use Rattle.csv.specs.declared.writer.WriterBuilder.{WriterBuilder}

-- as csv is by itself, with rows that may differ in how many fields they have
abbrev pub row_setup : WriterBuilder
row_setup = with_flexible default_writer true

-- the bytes that went on, and those that wait in the buffer
abbrev pub text_of : Writer (Vec ℕ Global) → List ℕ
text_of writer = (writer_under writer).items ++ writer_pending writer

-- the next field is the first of a row
pub record IsAtRow (writer : Writer (Vec ℕ Global)) : Type 0 where
  pub setup : writer_setup writer ≡ row_setup
  pub fields : fields_written writer ≡ 0

-- the next field stands after two fields of its row at least
pub record IsInRow (writer : Writer (Vec ℕ Global)) : Type 0 where
  pub setup : writer_setup writer ≡ row_setup
  pub fields : 1 < fields_written writer
