-- The word `feed`: the first pairs of the join of two feeds, and how often both were drawn.
use Rattle.std.specs.Prelude.{ℕ, zero, suc, List, [], ◌∷◌, Option, Some, None, Result, Ok, Err}
use Rattle.rs_feed.specs.declared.feed_row.FeedRow.{FeedRow}
use Rattle.rs_feed_join.specs.declared.fault.JoinFault.{JoinFault}
use Rattle.rs_feed_join.specs.declared.feed_pair.FeedPair.{FeedPair}
use Rattle.rs_feed_join.specs.Answers.{asks_of_cuts, next_answer}
use Rattle.rs_feed_join.specs.Cuts.{cut}
use Rattle.rs_feed_join.specs.Ranked.{asks_of_rows}
use Rattle.rs_order.specs.Schedule.{Left, Right, SideAsk, asked}
use Rattle.rs_events.specs.Events.{Put}
use Rattle.rs_outside.specs.Files.{Finds}
use Rattle.rs_events.specs.Run.{Run, behind, fails, lines_run}
use Rattle.rs_words.specs.declared.fault.WordFault.{WordFault}
use Rattle.rs_words.specs.Joining.{join_fault}
use Rattle.rs_words.specs.Lines.{draws_line, pair_line}
use Rattle.rs_words.specs.TwoFeeds.{FeedWords, IsTwoFeedsRun}

-- the line that tells how often each side was asked
abbrev pub draws_run : List SideAsk → Run WordFault
draws_run asks = lines_run (draws_line (asked Left asks) (asked Right asks) ∷ [])

-- what comes of a call of the join behind n pairs: the next pair is put, and more comes; or there is none; or a row out of order ends the run
abbrev pub call_run : List FeedRow → List FeedRow → ℕ → Result (Option FeedPair) JoinFault → Run WordFault → Run WordFault
call_run lefts rights n (Ok (Some pair)) more = behind (Put (pair_line (suc n) pair) ∷ []) more
call_run lefts rights n (Ok None) more = draws_run (asks_of_cuts lefts rights n)
call_run lefts rights n (Err why) more = fails (join_fault why)

-- what is put behind n pairs, where so many more are wanted. The answers of calls, and the asks that they take, are those of the finished lists of rows
unfoldable pub run_behind : List FeedRow → List FeedRow → ℕ → ℕ → Run WordFault
run_behind lefts rights n zero = draws_run (asks_of_rows (cut lefts) (cut rights) n)
run_behind lefts rights n (suc more) = call_run lefts rights n (next_answer lefts rights n) (run_behind lefts rights (suc n) more)

-- the run over both feeds
abbrev pub pairs_run : List FeedRow → List FeedRow → ℕ → Run WordFault
pairs_run lefts rights count = run_behind lefts rights 0 count

-- the run of the word: both files are fetched, the right one only where the left one is a feed; then come the pairs,
-- and the line of the draws
abbrev pub IsFeedRun : Finds → FeedWords → Run WordFault → Type 0
IsFeedRun finds words run = IsTwoFeedsRun pairs_run finds words run
