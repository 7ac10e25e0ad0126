-- The streams of some bytes, computed.
use Rattle.std.proofs.Common.{ℕ, pos, negsuc, ◌≡◌, ◌∷◌, [], List, Ok, Err, codes, refl}
use Rattle.csv.proofs.OnLiterals.{csv_on_literals}
use Rattle.csv.specs.Records.{field_at}
use Rattle.rs_value.proofs.OnLiterals.{values_on_literals}
use Rattle.rs_feed.specs.declared.feed_row.FeedRow.{FeedRow}
use Rattle.rs_stream.specs.declared.fault.StreamFault.TheVariants.{BrokenOff, Header, NoRow, Range}
use Rattle.rs_stream.specs.Records.{records_in}
use Rattle.rs_stream.specs.Rows.{Stream, ends, gives, stream_of}

abbrev of : List ℕ → Stream
of bytes = stream_of (records_in bytes)

abbrev row_of : List ℕ → ℕ → FeedRow
row_of join score = record { join = join; score = score }

-- what stands behind the end is none of the stream's
ended : of (codes "key,score\na,9\n\"b\nc\",8\r\nend,end\nd,7\n") ≡ gives (row_of (codes "a") 9) (gives (row_of (codes "b\nc") 8) (ends (Ok tt)))
unfolding csv_on_literals values_on_literals field_at
ended = refl

-- a stream without its end, and one that breaks off in a record
unended : of (codes "key,score\na,9\n") ≡ gives (row_of (codes "a") 9) (ends (Err BrokenOff))
unfolding csv_on_literals values_on_literals field_at
unended = refl

broken : of (codes "key,score\na,9\nend,end") ≡ gives (row_of (codes "a") 9) (ends (Err BrokenOff))
unfolding csv_on_literals values_on_literals field_at
broken = refl

nothing : of [] ≡ ends (Err BrokenOff)
nothing = refl

-- other columns, a record that is no row, and a number that is no score
header : of (codes "key,points\na,9\nend,end\n") ≡ ends (Err Header)
unfolding csv_on_literals values_on_literals field_at
header = refl

no_row : of (codes "key,score\na\nend,end\n") ≡ ends (Err (NoRow 2))
unfolding csv_on_literals values_on_literals field_at
no_row = refl

negative : of (codes "key,score\na,9\nb,-1\nend,end\n") ≡ gives (row_of (codes "a") 9) (ends (Err (Range 3 (negsuc 0))))
unfolding csv_on_literals values_on_literals field_at
negative = refl

great : of (codes "key,score\na,4294967296\n") ≡ ends (Err (Range 2 (pos 4294967296)))
unfolding csv_on_literals values_on_literals field_at
great = refl
