-- Streams as feeds.
use Rattle.std.specs.Prelude.{ℕ, ◌≡◌, ⊤, drop, option_map, List, Option, Some, None, Result, Ok, Err, false}
use Rattle.rs_feed.specs.declared.feed_row.FeedRow.{FeedRow}
use Rattle.rs_feed.specs.Feeds.{FeedState}
use Rattle.rs_stream.specs.declared.fault.StreamFault.{StreamFault}
use Rattle.rs_stream.specs.declared.fault.StreamFault.TheVariants.{BrokenOff, Failed, Header, Memory, NoRow, Range}
use Rattle.rs_stream.specs.Records.{records_behind, records_in}
use Rattle.rs_stream.specs.Rows.{Stream, stream_of}

-- how many draws were made, how many rows were given, how many draws failed, and why no more rows are given, if one failed or lacked memory
pub record StreamFeedState : Type 0 where
  pub draws : ℕ
  pub given : ℕ
  pub faults : ℕ
  pub why : Option StreamFault

-- nothing is drawn
abbrev pub new_stream_feed : StreamFeedState
new_stream_feed = record { draws = 0; given = 0; faults = 0; why = None }

-- the stream that bytes have, where they are known
abbrev pub stream_in : Option (List ℕ) → Option Stream
stream_in bytes = option_map (λ all. stream_of (records_in all)) bytes

-- the rows of a stream
abbrev pub rows_in : Option Stream → Option (List FeedRow)
rows_in stream = option_map (λ (all : Stream). all.rows) stream

-- what contracts see of a feed over this stream
abbrev pub stream_feed_state : Option Stream → StreamFeedState → FeedState
stream_feed_state stream state = record { outside = record { told = rows_in stream; faults = state.faults; steady = false }; draws = state.draws; given = state.given }

-- so much of a stream was given, and this is left
pub record IsBehind (whole : Stream) (given : ℕ) (left : Stream) : Type 0 where
  pub rows : drop given whole.rows ≡ left.rows
  pub ending : left.ending ≡ whole.ending

abbrev pub IsAt : Option Stream → ℕ → Option Stream → Type 0
IsAt None given left = ⊤
IsAt (Some whole) given None = ⊥
IsAt (Some whole) given (Some left) = IsBehind whole given left

-- a stream ends with this fault behind its rows, where the fault says something of the stream
abbrev pub EndsWith : StreamFault → Stream → Type 0
EndsWith Failed stream = ⊤
EndsWith BrokenOff stream = stream.ending ≡ Err BrokenOff
EndsWith Header stream = stream.ending ≡ Err Header
EndsWith (NoRow number) stream = stream.ending ≡ Err (NoRow number)
EndsWith (Range number got) stream = stream.ending ≡ Err (Range number got)
EndsWith Memory stream = ⊤

abbrev pub EndsAs : Option StreamFault → Option Stream → Type 0
EndsAs None stream = ⊤
EndsAs (Some why) None = ⊤
EndsAs (Some why) (Some stream) = EndsWith why stream
