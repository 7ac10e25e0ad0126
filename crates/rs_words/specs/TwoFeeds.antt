-- A word over two feeds: the left file is fetched and read, then the right one, and then both are joined.
use Rattle.std.specs.Prelude.{ℕ, ◌≡◌, List, [], ◌∷◌, Option, Result, Ok, Err}
use Rattle.rs_feed.specs.declared.feed_row.FeedRow.{FeedRow}
use Rattle.rs_events.specs.Events.{Fetch}
use Rattle.rs_outside.specs.Files.{Finds}
use Rattle.rs_events.specs.Run.{Run, behind, fails}
use Rattle.rs_words.specs.declared.fault.WordFault.{WordFault}
use Rattle.rs_words.specs.FeedFiles.{feed_file}

-- what `feed LEFT RIGHT K` and `cert LEFT RIGHT K` ask for
pub record FeedWords : Type 0 where
  pub left : List ℕ
  pub right : List ℕ
  pub count : ℕ

-- what a word does with the rows of both feeds, of which so many pairs are wanted
abbrev pub JoinRun : Type 0
JoinRun = List FeedRow → List FeedRow → ℕ → Run WordFault

-- the same, where the right file may be no feed
abbrev pub right_run : JoinRun → List FeedRow → ℕ → Result (List FeedRow) WordFault → Run WordFault
right_run joined lefts count (Err fault) = fails fault
right_run joined lefts count (Ok rights) = joined lefts rights count

-- the run behind the fetch of the left file: the right one is fetched only where the left one is a feed
abbrev pub LeftRun : JoinRun → Finds → FeedWords → Result (List FeedRow) WordFault → Run WordFault → Type 0
LeftRun joined finds words (Err fault) run = run ≡ fails fault
LeftRun joined finds words (Ok lefts) run =
    (there : Option (List ℕ)) × finds words.right there × (run ≡ behind (Fetch words.right ∷ []) (right_run joined lefts words.count (feed_file 2 there)))

-- the run of the word
abbrev pub IsTwoFeedsRun : JoinRun → Finds → FeedWords → Run WordFault → Type 0
IsTwoFeedsRun joined finds words run =
    (there : Option (List ℕ)) × finds words.left there × (more : Run WordFault) × LeftRun joined finds words (feed_file 1 there) more × (run ≡ behind (Fetch words.left ∷ []) more)
