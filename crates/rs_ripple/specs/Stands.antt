-- Where the core of a rank join stands, of the rows of its two sides, the asks that were made of them, and the answers that
-- it gives.
use Rattle.std.specs.Prelude.{ℕ, zero, suc, ◌≡◌, ◌≤◌, Bool, false, nat_lt, List, [], ◌∷◌, length, map, take, drop, Option, Some, None, bit_or}
use Rattle.std.specs.List.{AllByRecursion}
use Rattle.rs_order.specs.Asks.{bar_after}
use Rattle.rs_order.specs.Climbing.{Climbs, SameItems}
use Rattle.rs_order.specs.Last.{last_from}
use Rattle.rs_order.specs.Schedule.{Left, Right, SideAsk, asked}
use Rattle.rs_order.specs.Sorting.{sorted}
use Rattle.rs_rank.specs.declared.key.Key.{Key}
use Rattle.rs_rank.specs.declared.row.RankRow.{RankRow}
use Rattle.rs_rank.specs.declared.weights.Weights.{Weights}
use Rattle.rs_rank.specs.Ids.{IsIds}
use Rattle.rs_rank.specs.Keys.{key_cmp}
use Rattle.rs_rank.specs.Merging.{merge_key}
use Rattle.rs_rank.specs.Rows.{HasSum, HaveOtherIds, key_of, merge_row}
use Rattle.rs_rank.specs.Turns.{join_schedule}
use Rattle.rs_ripple.specs.declared.side.Drawn.{Drawn}
use Rattle.rs_ripple.specs.declared.side.Input.{Input}
use Rattle.rs_ripple.specs.declared.side.Side.{Side}
use Rattle.rs_ripple.specs.Pairs.{pairs}
use Rattle.rs_ripple.specs.Ripple.{CanFind, CanJoin, Ripple, found}

-- the block and the two sides that are joined, and which of their rows match
pub record Join : Type 0 where
  pub weights : Weights
  pub block : ℕ
  pub left : Side
  pub right : Side
  pub matches : RankRow → RankRow → Bool

-- the key of a row of a side, by the side's terms
abbrev pub side_key : Join → Side → RankRow → Key
side_key j side row = key_of j.weights side.terms row

-- the keys of the rows of a side
abbrev pub side_keys : Join → Side → List RankRow → List Key
side_keys j side rows = map (side_key j side) rows

-- the key of an answer, by the terms of both sides
abbrev pub answer_key : Join → RankRow → Key
answer_key j row = key_of j.weights (bit_or j.left.terms j.right.terms) row

-- the key of the answer of two rows, of their keys
abbrev pub merged_key : Join → Key → Key → Key
merged_key j left right = merge_key j.weights j.left.terms j.right.terms left right

-- the rows that match, merged, in the order of their keys
abbrev pub answers : Join → List RankRow → List RankRow → List RankRow
answers j lefts rights = sorted key_cmp (answer_key j) (pairs j.matches merge_row lefts rights)

-- a row of a side: it is of the block, has the side's entries, and a sum that the side's terms can give
pub record IsRowOf (j : Join) (side : Side) (row : RankRow) : Type 0 where
  pub ids : IsIds row.ids
  pub entries : row.ids.mask ≡ side.mask
  pub block : row.ids.block ≡ j.block
  pub sum : HasSum j.weights side.terms row

-- rows of a side whose keys rise
pub record AreRowsOf (j : Join) (side : Side) (rows : List RankRow) : Type 0 where
  pub each : AllByRecursion (IsRowOf j side) rows
  pub rising : Climbs key_cmp (side_key j side) rows
  pub others : HaveOtherIds rows

pub record AreSidesOf (j : Join) (lefts rights : List RankRow) : Type 0 where
  pub sides : CanJoin j.weights j.left j.right
  pub left_rows : AreRowsOf j j.left lefts
  pub right_rows : AreRowsOf j j.right rights

-- the asks in their order that this many answers take
abbrev pub schedule_of : Join → List RankRow → List RankRow → ℕ → List SideAsk
schedule_of j lefts rights zero = []
schedule_of j lefts rights (suc n) =
    join_schedule key_cmp (merged_key j) (side_keys j j.left lefts) (side_keys j j.right rights)
    (bar_after (answer_key j) (answers j lefts rights) n)

-- a list begins with another one
abbrev pub BeginsWith : {X : Type 0} → List X → List X → Type 0
BeginsWith xs front = front ≡ take (length front) xs

-- the first and the last of keys
abbrev pub drawn_of : List Key → Option Drawn
drawn_of [] = None
drawn_of (key ∷ keys) = Some (record { first = key; last = last_from key keys })

-- a side after this many asks. The ask behind the last row tells that no more comes
abbrev pub input_after : Side → List Key → ℕ → Input
input_after side keys asks = record { side = side; drawn = drawn_of (take asks keys); ended = nat_lt (length keys) asks }

-- the key of the last of this many answers
abbrev pub taken_after : Join → List RankRow → List RankRow → ℕ → Option Key
taken_after j lefts rights zero = None
taken_after j lefts rights (suc n) = bar_after (answer_key j) (answers j lefts rights) n

-- what the core keeps after a number of asks of each side and of answers
abbrev pub state_after : Join → List RankRow → List RankRow → ℕ → ℕ → ℕ → Ripple
state_after j lefts rights left_asks right_asks count = record {
  weights = j.weights;
  left = input_after j.left (side_keys j j.left lefts) left_asks;
  right = input_after j.right (side_keys j j.right rights) right_asks;
  taken = taken_after j lefts rights count;
  held = map (λ row. (answer_key j row, row)) (drop count (answers j (take left_asks lefts) (take right_asks rights)));
  spent = false;
}

-- the core keeps this, and has made the asks that its answers take, and none that the next one doesn't take
pub record Stands (j : Join) (lefts rights : List RankRow) (made : List SideAsk) (count : ℕ) (ripple : Ripple) : Type 0 where
  pub input : AreSidesOf j lefts rights
  pub state : ripple ≡ state_after j lefts rights (asked Left made) (asked Right made) count
  pub least : BeginsWith made (schedule_of j lefts rights count)
  pub most : BeginsWith (schedule_of j lefts rights (suc count)) made
  pub within : count ≤ length (answers j lefts rights)

-- after pairs that were found, one after another
abbrev pub found_each : List RankRow → Ripple → Ripple
found_each [] ripple = ripple
found_each (row ∷ rows) ripple = found_each rows (found row ripple)

-- each of them can be
abbrev pub CanFindEach : List RankRow → Ripple → Type 0
CanFindEach [] ripple = Unit {0}
CanFindEach (row ∷ rows) ripple = CanFind row ripple × CanFindEach rows (found row ripple)

-- the same pairs, each once, in any order
pub record AreFoundOf (rows pairs : List RankRow) : Type 0 where
  pub same : SameItems rows pairs
  pub others : HaveOtherIds rows
