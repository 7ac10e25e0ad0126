use Rattle.rs_stream.specs.StreamFeeds.{stream_in}
use Rattle.rs_stream_word.proofs.putting.feed_streams.Given as goal

abbrev pub ghosts-feed_over-A-Whole : goal.ghosts-feed_over-A-Whole
ghosts-feed_over-A-Whole g a = record { stream = stream_in (g.L.Read.remaining a.left) }

abbrev pub ghosts-feed_over-B-Whole : goal.ghosts-feed_over-B-Whole
ghosts-feed_over-B-Whole g a = record { stream = stream_in (g.R.Read.remaining a.right) }
