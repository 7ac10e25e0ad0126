-- What a join keeps of a side, and what a draw of the side's feed does to it.
use Rattle.std.specs.Prelude.{ℕ, ◌+◌, ◌≡◌, ◌≤◌, ◌<◌, ◌^◌, ◌⊎◌, Bool, true, false, List, [], ◌∷◌, ◌++◌, length, Option, Some, None, IfSome, slice_get, Result, Ok, Err, if◌then◌else◌}
use Rattle.rs_feed.specs.declared.feed_row.FeedRow.{FeedRow}
use Rattle.rs_feed.specs.Feeds.{FeedState}
use Rattle.rs_feed_join.specs.declared.fault.JoinFault.{JoinFault}
use Rattle.rs_feed_join.specs.declared.fault.JoinFault.TheVariants.{OutOfOrder, TooLong, Failed, Memory, Broken}
use Rattle.rs_feed_join.specs.declared.side.DrawnSide.{DrawnSide}
use Rattle.rs_ripple.specs.Stands.{BeginsWith}
use Rattle.rs_value.specs.Faults.{raised}
use Rattle.rs_feed_join.specs.Cuts.{Falls, HaveScores, most_rows, refusal}

-- the rows that were taken, in the order of drawing; whether a draw said that there are no more; and how many draws were made
pub record FeedSide : Type 0 where
  pub rows : List FeedRow
  pub ended : Bool
  pub draws : ℕ

-- a side of which nothing is drawn
abbrev pub new_side : FeedSide
new_side = record { rows = []; ended = false; draws = 0 }

abbrev pub side_of : DrawnSide → FeedSide
side_of side = record { rows = side.rows.items; ended = side.ended; draws = side.draws }

-- the draws that a side answered: one for each row that was taken, and one that said that there are no more
abbrev pub answered : FeedSide → ℕ
answered side = length side.rows + (if side.ended then 1 else 0)

-- these are all of its draws
abbrev pub IsCounted : FeedSide → Type 0
IsCounted side = side.draws ≡ answered side

-- a side was drawn of a feed: the join made all its draws. Where the rows are told, the side's are the first of them, and all where it
-- ended; and as long as no draw failed, each row that was given was taken
pub record IsDrawnOf (failed : Bool) (feed : FeedState) (side : FeedSide) : Type 0 where
  pub draws : feed.draws ≡ side.draws
  pub given : failed ≡ false → feed.given ≡ length side.rows
  pub rows : IfSome feed.outside.told (λ rows. BeginsWith rows side.rows)
  pub ended : side.ended ≡ true → IfSome feed.outside.told (λ rows. rows ≡ side.rows)

-- what holds of the rows of each side
pub record AreTaken (rows : List FeedRow) : Type 0 where
  pub falls : Falls rows
  pub scores : HaveScores rows
  pub few : length rows ≤ most_rows

-- a feed, where it tells its rows, has this one next
abbrev pub HasNext : Option (List FeedRow) → ℕ → Option FeedRow → Type 0
HasNext told place row = IfSome told (λ rows. slice_get rows place ≡ row)

-- a row was taken
pub record Took (number : ℕ) (told : Option (List FeedRow)) (old new : FeedSide) : Type 0 where
  pub row : FeedRow
  pub next : HasNext told (length old.rows) (Some row)
  pub score : row.score < 2 ^ 32
  pub free : refusal number old.rows row.score ≡ None
  pub after : new ≡ record old { rows = old.rows ++ row ∷ []; draws = raised old.draws }

-- why a row wasn't taken: it was refused, or there was no memory
abbrev pub IsCause : ℕ → List FeedRow → ℕ → JoinFault → Type 0
IsCause number rows score fault = (refusal number rows score ≡ Some fault) ⊎ (fault ≡ Memory)

-- a draw said that there is none
pub record Ended (told : Option (List FeedRow)) (old new : FeedSide) : Type 0 where
  pub next : HasNext told (length old.rows) None
  pub after : new ≡ record old { ended = true; draws = raised old.draws }

-- a row was refused
pub record Refused (number : ℕ) (told : Option (List FeedRow)) (old : FeedSide) (fault : JoinFault) : Type 0 where
  pub row : FeedRow
  pub next : HasNext told (length old.rows) (Some row)
  pub score : row.score < 2 ^ 32
  pub refused : refusal number old.rows row.score ≡ Some fault

abbrev pub HasCause : ℕ → Option (List FeedRow) → FeedSide → JoinFault → Type 0
HasCause number told old (OutOfOrder side row before got) = Refused number told old (OutOfOrder side row before got)
HasCause number told old (TooLong side) = Refused number told old (TooLong side)
HasCause number told old (Failed side) = side ≡ number
HasCause number told old Memory = Unit {0}
HasCause number told old Broken = ⊥

-- what a draw of a side does
abbrev pub Drew : ℕ → Option (List FeedRow) → FeedSide → Result Bool JoinFault → FeedSide → Type 0
Drew number told old (Ok true) new = Took number told old new
Drew number told old (Ok false) new = Ended told old new
Drew number told old (Err fault) new = HasCause number told old fault × (new ≡ record old { draws = raised old.draws })
