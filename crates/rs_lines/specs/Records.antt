-- The records of a file of comma-separated fields.
use Rattle.std.specs.Prelude.{ℕ, ◌≡◌, ◌+◌, true, List, [], length, Option, Some, None}
use Rattle.std.specs.Borrow.{Bor}
use Rattle.csv.specs.Reading.{Ready, default_config, is_flexible, reader_config, reader_state, reader_trim, records, records_from, source_of, strip_bom}
use Rattle.csv.specs.declared.parser.State.{State}
use Rattle.csv.specs.declared.reader.Reader.{Reader}
use Rattle.csv.specs.declared.reader.Trim.TheVariants as trim

-- a record: its fields in order
abbrev pub Fields : Type 0
Fields = List (List ℕ)

-- the records of a file: those that `csv` reads behind one byte order mark
abbrev pub records_of : List ℕ → List Fields
records_of bytes = records default_config (strip_bom bytes)

-- a reader of bytes in memory
abbrev pub ByteReader : Type 0
ByteReader = Reader (Bor (List ℕ))

-- the bytes that a reader of bytes in memory has left, if it has not failed
abbrev pub bytes_left : ByteReader → Option (List ℕ)
bytes_left reader = source_of (λ (bytes : Bor (List ℕ)). Some bytes.now) reader

-- the records of these bytes, if they are known, from a state of the reader on
abbrev pub records_after : State → Option (List ℕ) → List Fields
records_after state None = []
records_after state (Some bytes) = records_from default_config (length bytes + 1) state bytes

-- the records that a reader has left
abbrev pub records_left : ByteReader → List Fields
records_left reader = records_after (reader_state reader) (bytes_left reader)

-- what holds of a reader that is reading a file
pub record IsReading (reader : ByteReader) : Type 0 where
  pub config : reader_config reader ≡ default_config
  pub untrimmed : reader_trim reader ≡ trim.None
  pub ready : Ready reader
  pub flexible : is_flexible reader ≡ true
  pub bytes : List ℕ
  pub known : bytes_left reader ≡ Some bytes
