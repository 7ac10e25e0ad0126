-- A rank join that keeps the rows drawn of its sides: which of their pairs it holds, and what one more row does to it.
use Rattle.std.specs.Prelude.{ℕ, ◌≡◌, Bool, true, List, [], ◌∷◌, ◌++◌, map, take, Option, Some, None}
use Rattle.std.specs.List.{AllByRecursion, filter}
use Rattle.std.specs.Ordering.{is_lt}
use Rattle.rs_order.specs.Schedule.{Left, Right, SideAsk, asked}
use Rattle.rs_order.specs.Sorting.{sorted}
use Rattle.rs_rank.specs.declared.ask.JoinAsk.{JoinAsk}
use Rattle.rs_rank.specs.declared.key.Key.{Key}
use Rattle.rs_rank.specs.declared.row.RankRow.{RankRow}
use Rattle.rs_rank.specs.declared.weights.Weights.{Weights}
use Rattle.rs_rank.specs.Ids.{AreOtherIds}
use Rattle.rs_rank.specs.Keys.{key_cmp}
use Rattle.rs_rank.specs.Rows.{HasSum, key_of, merge_row}
use Rattle.rs_ripple.specs.declared.side.Side.{Side}
use Rattle.rs_ripple.specs.Pairs.{pairs}
use Rattle.rs_ripple.specs.Ripple.{CanDrawLeft, CanDrawRight, HasReached, Ripple, full_key, left_drawn, left_ended, left_for, new_ripple, right_drawn, right_ended}
use Rattle.rs_ripple.specs.Stands.{AreSidesOf, Join, Stands, drawn_of}

-- the core, and the rows drawn of each side in the order in which they came
pub record Joined : Type 0 where
  pub ripple : Ripple
  pub lefts : List RankRow
  pub rights : List RankRow

-- nothing is drawn
abbrev pub new_joined : Weights → Side → Side → Joined
new_joined weights left right = record { ripple = new_ripple weights left right; lefts = []; rights = [] }

-- the key of a left row, and of a right one, by the terms of its side
abbrev pub left_key : Ripple → RankRow → Key
left_key ripple row = key_of ripple.weights ripple.left.side.terms row

abbrev pub right_key : Ripple → RankRow → Key
right_key ripple row = key_of ripple.weights ripple.right.side.terms row

-- whether a key comes behind the one taken last
abbrev pub is_behind : Option Key → Key → Bool
is_behind None key = true
is_behind (Some taken) key = is_lt (key_cmp taken key)

-- of all pairs of its rows that match those that come behind the one taken last, in the order of their keys
abbrev pub pairs_behind : (RankRow → RankRow → Bool) → Joined → List RankRow
pairs_behind matches joined =
    filter (λ row. is_behind joined.ripple.taken (full_key joined.ripple row))
    (sorted key_cmp (full_key joined.ripple) (pairs matches merge_row joined.lefts joined.rights))

-- a join that has found all these pairs
abbrev pub all_found : (RankRow → RankRow → Bool) → Joined → Joined
all_found matches joined = record joined {
  ripple = record joined.ripple { held = map (λ row. (full_key joined.ripple row, row)) (pairs_behind matches joined) };
}

-- a join fits what matches its rows: it holds all these pairs, each once, and nothing else
abbrev pub Fits : (RankRow → RankRow → Bool) → Joined → Type 0
Fits matches joined = joined.ripple.held ≡ map (λ row. (full_key joined.ripple row, row)) (pairs_behind matches joined)

-- after one more row of a side, with all pairs found
abbrev pub fed_left : (RankRow → RankRow → Bool) → RankRow → Joined → Joined
fed_left matches row joined = all_found matches (record {
  ripple = left_drawn (left_key joined.ripple row) joined.ripple;
  lefts = joined.lefts ++ row ∷ [];
  rights = joined.rights;
})

abbrev pub fed_right : (RankRow → RankRow → Bool) → RankRow → Joined → Joined
fed_right matches row joined = all_found matches (record {
  ripple = right_drawn (right_key joined.ripple row) joined.ripple;
  lefts = joined.lefts;
  rights = joined.rights ++ row ∷ [];
})

-- after the end of a side
abbrev pub end_left : Joined → Joined
end_left joined = record joined { ripple = left_ended joined.ripple }

abbrev pub end_right : Joined → Joined
end_right joined = record joined { ripple = right_ended joined.ripple }

-- without the pair that was taken, if one was
abbrev pub rest_for : JoinAsk → Joined → Joined
rest_for ask joined = record joined { ripple = left_for ask joined.ripple }

-- the next row of the side that is asked, whose ids no row of that side has
pub record CanFeedLeft (row : RankRow) (joined : Joined) : Type 0 where
  pub draw : CanDrawLeft (left_key joined.ripple row) joined.ripple
  pub sum : HasSum joined.ripple.weights joined.ripple.left.side.terms row
  pub others : AllByRecursion (λ other. AreOtherIds other.ids row.ids) joined.lefts

pub record CanFeedRight (row : RankRow) (joined : Joined) : Type 0 where
  pub draw : CanDrawRight (right_key joined.ripple row) joined.ripple
  pub sum : HasSum joined.ripple.weights joined.ripple.right.side.terms row
  pub others : AllByRecursion (λ other. AreOtherIds other.ids row.ids) joined.rights

-- the block of all rows, which is that of the first
abbrev pub block_of : List RankRow → List RankRow → ℕ
block_of (left ∷ lefts) rights = left.ids.block
block_of [] (right ∷ rights) = right.ids.block
block_of [] [] = 0

-- the block and the sides of a join, with what matches its rows
abbrev pub join_of : (RankRow → RankRow → Bool) → Joined → Join
join_of matches joined = record {
  weights = joined.ripple.weights;
  block = block_of joined.lefts joined.rights;
  left = joined.ripple.left.side;
  right = joined.ripple.right.side;
  matches = matches;
}

-- what holds of each join: its rows are those of two sides, whose first and last keys the core keeps
pub record IsJoined (joined : Joined) : Type 0 where
  pub rows : (matches : RankRow → RankRow → Bool) → AreSidesOf (join_of matches joined) joined.lefts joined.rights
  pub left_keys : joined.ripple.left.drawn ≡ drawn_of (map (left_key joined.ripple) joined.lefts)
  pub right_keys : joined.ripple.right.drawn ≡ drawn_of (map (right_key joined.ripple) joined.rights)
  pub reached : HasReached joined.ripple

-- a join that keeps its rows stands where its core does, with the rows that were drawn
pub record JoinStands (j : Join) (lefts rights : List RankRow) (made : List SideAsk) (count : ℕ) (joined : Joined) : Type 0 where
  pub core : Stands j lefts rights made count joined.ripple
  pub left_rows : joined.lefts ≡ take (asked Left made) lefts
  pub right_rows : joined.rights ≡ take (asked Right made) rights
