-- With which faults the word over streams ends, and how they are told.
use Rattle.std.specs.Prelude.{ℕ, ℤ, ◌==◌, List, ◌∷◌, [], ◌++◌, codes, Option, Some, None, if◌then◌else◌}
use Rattle.std.specs.Fmt.{decimal, signed_decimal}
use Rattle.rs_feed_join.specs.declared.fault.JoinFault.{JoinFault}
use Rattle.rs_feed_join.specs.declared.fault.JoinFault.TheVariants as join
use Rattle.rs_stream.specs.declared.fault.StreamFault.{StreamFault}
use Rattle.rs_stream.specs.declared.fault.StreamFault.TheVariants as stream
use Rattle.rs_words.specs.declared.fault.PutFault.{PutFault}
use Rattle.rs_words.specs.declared.fault.PutFault.TheVariants as put
use Rattle.rs_stream_word.specs.declared.fault.StreamsFault.{StreamsFault}
use Rattle.rs_stream_word.specs.declared.fault.StreamsFault.TheVariants.{Memory, Order, Stream, TooLong, Write}

-- the fault of a side whose draw failed, for this cause
abbrev pub of_cause : ℕ → Option StreamFault → StreamsFault
of_cause side None = Memory
of_cause side (Some why) = Stream side why

abbrev pub stream_fault : ℕ → Option StreamFault → Option StreamFault → StreamsFault
stream_fault side left right = of_cause side (if side == 1 then left else right)

-- the fault of a join of two streams, with the causes of both
abbrev pub join_fault : JoinFault → Option StreamFault → Option StreamFault → StreamsFault
join_fault (join.OutOfOrder side row before got) left right = Order side row before got
join_fault (join.Failed side) left right = stream_fault side left right
join_fault (join.TooLong side) left right = TooLong side
join_fault join.Memory left right = Memory
join_fault join.Broken left right = Memory

abbrev pub put_fault : PutFault → StreamsFault
put_fault put.Write = Write
put_fault put.Memory = Memory

-- the exit status
abbrev pub stream_status : StreamFault → ℕ
stream_status stream.Failed = 3
stream_status stream.BrokenOff = 3
stream_status stream.Header = 6
stream_status (stream.NoRow number) = 6
stream_status (stream.Range number got) = 7
stream_status stream.Memory = 1

abbrev pub status_of : StreamsFault → ℕ
status_of (Stream side why) = stream_status why
status_of (Order side row before got) = 6
status_of (TooLong side) = 6
status_of Write = 4
status_of Memory = 1

-- the name of a side
abbrev pub name_of : List ℕ → List ℕ → ℕ → List ℕ
name_of left right side = if side == 1 then left else right

-- the lines
abbrev pub read_line : List ℕ → List ℕ → List ℕ
read_line name why = codes "read: " ++ name ++ codes ": " ++ why ++ 10 ∷ []

abbrev pub table_line : List ℕ → List ℕ → List ℕ
table_line name why = codes "table: " ++ name ++ codes ": " ++ why ++ 10 ∷ []

abbrev pub no_row_line : List ℕ → ℕ → List ℕ
no_row_line name number = codes "table: " ++ name ++ codes ": NoRow record " ++ decimal number ++ 10 ∷ []

abbrev pub range_line : List ℕ → ℕ → ℤ → List ℕ
range_line name number got = codes "score: " ++ name ++ codes " record " ++ decimal number ++ codes ": " ++ signed_decimal got ++ codes " is not in 0..4294967295\n"

abbrev pub order_line : List ℕ → ℕ → ℕ → ℕ → List ℕ
order_line name row before got = codes "table: " ++ name ++ codes ": OutOfOrder row " ++ decimal row ++ codes " before " ++ decimal before ++ codes " got " ++ decimal got ++ 10 ∷ []

abbrev pub stream_line : List ℕ → StreamFault → List ℕ
stream_line name stream.Failed = read_line name (codes "failed")
stream_line name stream.BrokenOff = read_line name (codes "broken off")
stream_line name stream.Header = table_line name (codes "Header")
stream_line name (stream.NoRow number) = no_row_line name number
stream_line name (stream.Range number got) = range_line name number got
stream_line name stream.Memory = codes "memory\n"

abbrev pub fault_line : List ℕ → List ℕ → StreamsFault → List ℕ
fault_line left right (Stream side why) = stream_line (name_of left right side) why
fault_line left right (Order side row before got) = order_line (name_of left right side) row before got
fault_line left right (TooLong side) = table_line (name_of left right side) (codes "TooManyRows")
fault_line left right Write = codes "write\n"
fault_line left right Memory = codes "memory\n"
