-- The rows of a stream: what its records say, one after another.
use Rattle.std.specs.Prelude.{ℕ, ℤ, pos, negsuc, zero, suc, ◌≡◌, ⊤, ◌&&◌, ◌==◌, nat_le, Bool, true, false, List, [], ◌∷◌, codes, length, unwrap_or, option_map, Option, Some, None, Result, Ok, Err, if◌then◌else◌}
use Rattle.csv.specs.Records.{field_at}
use Rattle.std.specs.Str.{bytes_eq, is_utf8}
use Rattle.std.specs.declared.alloc.Global.{Global}
use Rattle.std.specs.declared.vec.Vec.{Vec}
use Rattle.rs_value.specs.Faults.{raised}
use Rattle.rs_value.specs.Number.{int_value}
use Rattle.rs_lines.specs.Records.{Fields, records_of}
use Rattle.rs_feed.specs.declared.feed_row.FeedRow.{FeedRow}
use Rattle.rs_stream.specs.declared.fault.StreamFault.{StreamFault}
use Rattle.rs_stream.specs.declared.fault.StreamFault.TheVariants.{BrokenOff, Failed, Header, Memory, NoRow, Range}

-- the fields of bytes that are one record of CSV
abbrev pub only_one : List Fields → Option Fields
only_one [] = None
only_one (fields ∷ []) = Some fields
only_one (fields ∷ more ∷ rest) = None

abbrev pub fields_in : List ℕ → Option Fields
fields_in bytes = only_one (records_of bytes)

-- a field by its place, from 0
abbrev pub field_of : Fields → ℕ → List ℕ
field_of fields place = unwrap_or (field_at fields place) []

-- these are two fields, of these bytes
abbrev pub are_two : List ℕ → List ℕ → Fields → Bool
are_two first second fields = (length fields == 2) && (bytes_eq (field_of fields 0) first && bytes_eq (field_of fields 1) second)

-- the record with the names of the columns, and the one that ends a stream
abbrev pub is_header : Fields → Bool
is_header fields = are_two (codes "key") (codes "score") fields

abbrev pub is_end : Fields → Bool
is_end fields = are_two (codes "end") (codes "end") fields

-- the greatest score of a row
abbrev pub most_score : ℕ
most_score = 4294967295

-- a row with this key and this score, which the record with this number says
abbrev pub row_with : ℕ → List ℕ → ℤ → Result (Option FeedRow) StreamFault
row_with number key (pos score) = if nat_le score most_score then Ok (Some (record { join = key; score = score })) else Err (Range number (pos score))
row_with number key (negsuc less) = Err (Range number (negsuc less))

abbrev pub scored_row : ℕ → List ℕ → Option ℤ → Result (Option FeedRow) StreamFault
scored_row number key None = Err (NoRow number)
scored_row number key (Some score) = if is_utf8 key then row_with number key score else Err (NoRow number)

-- what the fields of a record with this number say: a row, or the end, or that it is no row
abbrev pub row_of_fields : ℕ → Fields → Result (Option FeedRow) StreamFault
row_of_fields number fields =
    if is_end fields then Ok None
    else if length fields == 2 then scored_row number (field_of fields 0) (int_value (field_of fields 1))
    else Err (NoRow number)

abbrev pub row_if : ℕ → Option Fields → Result (Option FeedRow) StreamFault
row_if number None = Err (NoRow number)
row_if number (Some fields) = row_of_fields number fields

abbrev pub row_in : ℕ → List ℕ → Result (Option FeedRow) StreamFault
row_in number bytes = row_if number (fields_in bytes)

-- whether these bytes are the record with the names of the columns
abbrev pub header_if : Option Fields → Bool
header_if None = false
header_if (Some fields) = is_header fields

abbrev pub is_header_in : List ℕ → Bool
is_header_in bytes = header_if (fields_in bytes)

-- the rows of a stream, and how it ends behind them: well, or with a fault
pub record Stream : Type 0 where
  pub rows : List FeedRow
  pub ending : Result (Unit {0}) StreamFault

abbrev pub ends : Result (Unit {0}) StreamFault → Stream
ends ending = record { rows = []; ending = ending }

abbrev pub gives : FeedRow → Stream → Stream
gives row stream = record { rows = row ∷ stream.rows; ending = stream.ending }

-- a stream that goes on with this record, and behind it with this stream
abbrev pub goes_on : Result (Option FeedRow) StreamFault → Stream → Stream
goes_on (Ok (Some row)) stream = gives row stream
goes_on (Ok None) stream = ends (Ok tt)
goes_on (Err why) stream = ends (Err why)

-- the stream of these records, behind as many as this number
abbrev pub stream_behind : ℕ → List (List ℕ) → Stream
stream_behind number [] = ends (Err BrokenOff)
stream_behind number (bytes ∷ rest) = goes_on (row_in (raised number) bytes) (stream_behind (raised number) rest)

-- the stream of these records, which are all
abbrev pub stream_of : List (List ℕ) → Stream
stream_of [] = ends (Err BrokenOff)
stream_of (bytes ∷ rest) = if is_header_in bytes then stream_behind 1 rest else ends (Err Header)

-- what is left of a stream of which as many records as this number were read, and that ended, where `ended` says so
abbrev pub left_behind : Bool → ℕ → List (List ℕ) → Stream
left_behind true number records = ends (Ok tt)
left_behind false zero records = stream_of records
left_behind false (suc number) records = stream_behind (suc number) records

-- the same, where the records that are left are known
abbrev pub stream_left : Bool → ℕ → Option (List (List ℕ)) → Option Stream
stream_left ended number records = option_map (λ left. left_behind ended number left) records

-- what asking for the next row does to the stream that is left
abbrev pub DrawsRow : Result (Option FeedRow) StreamFault → Stream → Stream → Type 0
DrawsRow (Ok (Some row)) old new = old ≡ gives row new
DrawsRow (Ok None) old new = (old ≡ ends (Ok tt)) × (new ≡ old)
DrawsRow (Err Failed) old new = new ≡ old
DrawsRow (Err BrokenOff) old new = old ≡ ends (Err BrokenOff)
DrawsRow (Err Header) old new = old ≡ ends (Err Header)
DrawsRow (Err (NoRow number)) old new = old ≡ ends (Err (NoRow number))
DrawsRow (Err (Range number got)) old new = old ≡ ends (Err (Range number got))
DrawsRow (Err Memory) old new = ⊤

abbrev pub Draws : Result (Option FeedRow) StreamFault → Option Stream → Option Stream → Type 0
Draws result None new = ⊤
Draws result (Some old) None = ⊥
Draws result (Some old) (Some new) = DrawsRow result old new

-- what reading the record with the names of the columns does to it
abbrev pub ReadsHeader : Result (Unit {0}) StreamFault → Option Stream → Option Stream → Type 0
ReadsHeader (Ok done) old new = Draws (Err Failed) old new
ReadsHeader (Err why) old new = Draws (Err why) old new

-- what reading a record does to the records that are left
abbrev pub ReadsLeft : Result (List ℕ) StreamFault → List (List ℕ) → List (List ℕ) → Type 0
ReadsLeft (Ok bytes) old new = old ≡ bytes ∷ new
ReadsLeft (Err Failed) old new = new ≡ old
ReadsLeft (Err BrokenOff) old new = (old ≡ []) × (new ≡ old)
ReadsLeft (Err Header) old new = ⊥
ReadsLeft (Err (NoRow number)) old new = ⊥
ReadsLeft (Err (Range number got)) old new = ⊥
ReadsLeft (Err Memory) old new = new ≡ old

abbrev pub Reads : Result (List ℕ) StreamFault → Option (List (List ℕ)) → Option (List (List ℕ)) → Type 0
Reads result None new = ⊤
Reads result (Some old) None = ⊥
Reads result (Some old) (Some new) = ReadsLeft result old new

-- the bytes that were read
abbrev pub bytes_of : {E : Type 0} → Result (Vec ℕ Global) E → Result (List ℕ) E
bytes_of (Ok bytes) = Ok bytes.items
bytes_of (Err fault) = Err fault

-- how many records were read
abbrev pub number_after : {A E : Type 0} → Result A E → ℕ → ℕ
number_after (Ok bytes) number = raised number
number_after (Err fault) number = number
