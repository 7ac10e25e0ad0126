-- A writer of `csv` that writes records into memory.
use Rattle.std.specs.Prelude.{ℕ, ◌≡◌, false, List, ◌++◌}
use Rattle.std.specs.declared.alloc.Global.{Global}
use Rattle.std.specs.declared.vec.Vec.{Vec}
use Rattle.csv.specs.Writing.{default_writer, fields_written, has_written, writer_pending, writer_setup, writer_under}
use Rattle.csv.specs.declared.writer.Writer.{Writer}

abbrev pub ByteWriter : Type 0
ByteWriter = Writer (Vec ℕ Global)

-- it has its defaults, and stands behind a record
pub record IsReady (writer : ByteWriter) : Type 0 where
  pub setup : writer_setup writer ≡ default_writer
  pub ended : fields_written writer ≡ 0
  pub clean : has_written writer ≡ false

-- what was written
abbrev pub text_in : ByteWriter → List ℕ
text_in writer = (writer_under writer).items ++ writer_pending writer

-- this was written behind it
pub record Wrote (more : List ℕ) (old new : ByteWriter) : Type 0 where
  pub text : text_in new ≡ text_in old ++ more
  pub ready : IsReady new
