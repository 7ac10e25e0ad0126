-- What a word reads of a feed's file.
use Rattle.std.specs.Prelude.{ℕ, ◌≡◌, List, [], ◌∷◌, Option, Result, Ok, codes}
use Rattle.rs_value.specs.Results.{◌>>=◌}
use Rattle.rs_value.specs.declared.kind.Kind.TheVariants as kind
use Rattle.rs_table.specs.Column.{Column}
use Rattle.rs_table.specs.Reading.{table_of}
use Rattle.rs_feed.specs.declared.feed_row.FeedRow.{FeedRow}
use Rattle.rs_table_feed.specs.TableFeeds.{TableFeedState, feed_rows, new_feed}
use Rattle.rs_events.specs.Fetching.{fetched_bytes}
use Rattle.rs_words.specs.declared.fault.WordFault.{WordFault}
use Rattle.rs_words.specs.Faults.{or_range, or_read, or_table}

-- the columns of a feed's file: the text by which rows are joined, and the score
abbrev pub feed_columns : List Column
feed_columns = (codes "key", kind.Text) ∷ (codes "score", kind.Int) ∷ []

-- the most bytes of a feed's file
abbrev pub file_limit : ℕ
file_limit = 33554432

-- the rows of the bytes of a file, or why they are no feed. The file is 1 or 2
abbrev pub rows_in : ℕ → List ℕ → Result (List FeedRow) WordFault
rows_in file bytes = do
  table ← or_table file (table_of feed_columns bytes)
  or_range file (feed_rows table)

-- the rows of a file that is there or isn't, or the first thing that refuses it
abbrev pub feed_file : ℕ → Option (List ℕ) → Result (List FeedRow) WordFault
feed_file file there = or_read file (fetched_bytes file_limit there) >>= rows_in file

-- the feed of these rows, of which nothing is drawn
abbrev pub undrawn : Result (List FeedRow) WordFault → Result TableFeedState WordFault
undrawn rows = rows >>= λ rows. Ok (new_feed rows)

-- the result has the rows of the file, and nothing is drawn; or it tells why the file is no feed
abbrev pub IsFeedFile : ℕ → Option (List ℕ) → Result TableFeedState WordFault → Type 0
IsFeedFile file there result = result ≡ undrawn (feed_file file there)
