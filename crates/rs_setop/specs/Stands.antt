-- Where a set operator stands, of the rows of its two sides, the asks that were made of them, and the answers that it gave.
use Rattle.std.specs.Prelude.{ℕ, suc, ◌≡◌, ◌≤◌, ◌+◌, ◌-◌, Bool, true, false, not, max, nat_lt, List, [], ◌∷◌, ◌++◌, length, map, take, drop, Option, Some, if◌then◌else◌}
use Rattle.std.specs.List.{AllByRecursion, filter, slice_get}
use Rattle.std.specs.Option.{option_map}
use Rattle.rs_order.specs.Asks.{bar_after, comes_before_bar}
use Rattle.rs_order.specs.Last.{last_of}
use Rattle.rs_order.specs.Merging.{merged}
use Rattle.rs_order.specs.Schedule.{JoinSide, Left, Right, SideAsk, Turn, asked, asks_from, turns_from, turns_of}
use Rattle.rs_rank.specs.declared.key.Key.{Key}
use Rattle.rs_rank.specs.Keys.{key_cmp}
use Rattle.rs_rank.specs.SetTurns.{one_by_one, wanted_for}
use Rattle.rs_value.specs.declared.set_op.SetOp.{SetOp}
use Rattle.rs_value.specs.declared.set_op.SetOp.TheVariants as op
use Rattle.rs_value.specs.declared.value.Value.{Value}
use Rattle.rs_outputs.specs.Seen.{has_list}
use Rattle.rs_setop.specs.declared.heads.Heads.{Heads}
use Rattle.rs_setop.specs.Compared.{Comparison, is_unwanted}
use Rattle.rs_setop.specs.Reached.{Reach}
use Rattle.rs_outputs.specs.Rows.{OutputRow, firsts, lists_of, occurs_in, unseen, values_of}
use Rattle.rs_setop.specs.Sides.{AreSides, Sides, answers, head_after, keys_of, row_key}
use Rattle.rs_setop.specs.Union.{Union, first_was_taken}

-- the ask of a side that is due: its next row isn't known
abbrev pub due : JoinSide → ℕ → ℕ → List SideAsk
due side gone asks = if nat_lt gone asks then [] else record { side = side; number = suc gone } ∷ []

-- the turns of the rows that are left of each side
abbrev pub turns_left : Sides → List OutputRow → List OutputRow → ℕ → ℕ → List (Turn Key)
turns_left s lefts rights left right =
    merged key_cmp (λ turn. turn.key) (turns_from Left (suc (suc left)) (keys_of s (drop left lefts))) (turns_from Right (suc (suc right)) (keys_of s (drop right rights)))

-- this many left and right rows of a union are gone, in the order of the keys, and all of them come before the bar of the next
-- answer. The asks that were made, and those that are due, are the first ones of both sides and those of the rows that are gone
pub record IsMerging (s : Sides) (lefts rights : List OutputRow) (made : List SideAsk) (bar : Option Key) (left right : ℕ) (gone : List (Turn Key)) : Type 0 where
  pub left_least : left ≤ asked Left made
  pub left_most : asked Left made ≤ suc left
  pub right_least : right ≤ asked Right made
  pub right_most : asked Right made ≤ suc right
  pub turns : turns_of key_cmp (keys_of s lefts) (keys_of s rights) ≡ gone ++ turns_left s lefts rights left right
  pub before : AllByRecursion (λ turn. comes_before_bar key_cmp bar turn.key ≡ true) gone
  pub asks : made ++ (due Left left (asked Left made) ++ due Right right (asked Right made))
      ≡ record { side = Left; number = 1 } ∷ record { side = Right; number = 1 } ∷ map (λ turn. turn.ask) gone

-- the next rows of both sides
abbrev pub heads_after : Sides → List OutputRow → List OutputRow → List SideAsk → ℕ → ℕ → Heads
heads_after s lefts rights made left right =
    record { left = head_after s lefts left (asked Left made); right = head_after s rights right (asked Right made) }

-- the rows that are left of both sides, in the order of their keys
abbrev pub rows_left : Sides → List OutputRow → List OutputRow → ℕ → ℕ → List OutputRow
rows_left s lefts rights left right = merged key_cmp (row_key s) (drop left lefts) (drop right rights)

-- UNION gives of the rows with the same output values the first, UNION ALL gives all
abbrev pub union_op : Bool → SetOp
union_op true = op.Union
union_op false = op.UnionAll

-- the answers still to come of the rows that are left, where these values were taken; and the values that are taken of answers
abbrev pub given_of : Bool → List (List Value) → List OutputRow → List OutputRow
given_of true taken rows = unseen taken (firsts rows)
given_of false taken rows = rows

abbrev pub taken_of : Bool → List OutputRow → List (List Value)
taken_of true rows = values_of rows
taken_of false rows = []

-- a union has this many rows of each side left, and knows their heads; these rows tell the answers still to come
pub record UnionAt (s : Sides) (distinct : Bool) (lefts rights : List OutputRow) (made : List SideAsk) (count : ℕ) (u : Union) : Type 0 where
  pub input : AreSides s lefts rights
  pub left : ℕ
  pub right : ℕ
  pub gone : List (Turn Key)
  pub taken : List (List Value)
  pub state : u ≡ record { weights = s.weights; terms = s.terms; distinct = distinct; heads = heads_after s lefts rights made left right; taken = taken; spent = false }
  pub answered : taken ≡ taken_of distinct (take count (answers s (union_op distinct) lefts rights))
  pub merging : IsMerging s lefts rights made (bar_after (row_key s) (answers s (union_op distinct) lefts rights) count) left right gone
  pub rest : drop count (answers s (union_op distinct) lefts rights) ≡ given_of distinct taken (rows_left s lefts rights left right)
  pub within : count ≤ length (answers s (union_op distinct) lefts rights)

-- and UNION holds no row to be dropped
pub record UnionStands (s : Sides) (distinct : Bool) (lefts rights : List OutputRow) (made : List SideAsk) (count : ℕ) (u : Union) : Type 0 where
  pub place : UnionAt s distinct lefts rights made count u
  pub new : first_was_taken u ≡ false

-- the right side after this many asks. The ask behind the last row tells that no more comes
abbrev pub right_after : Sides → List OutputRow → ℕ → Reach
right_after s rights asks = record {
  last = option_map (λ row. (row_key s row).bound) (last_of (take asks rights));
  ended = nat_lt (length rights) asks;
  values = lists_of (take asks rights);
}

-- the asks that the next left row, if it is known, wants of the right side, and then those of this many left rows behind it; that
-- row is the first of these, and the ask behind it has this number
abbrev pub asks_behind : List Key → List Key → ℕ → ℕ → ℕ → List SideAsk
asks_behind rights [] next asks count = []
asks_behind rights (left ∷ lefts) next asks count =
    asks_from Right (suc asks) (wanted_for rights left - asks) ++ one_by_one rights lefts next (max asks (wanted_for rights left)) count

-- INTERSECT has the rows whose output values the right side has, EXCEPT those whose values it hasn't
abbrev pub op_of : Bool → SetOp
op_of true = op.Intersect
op_of false = op.Except

abbrev pub is_kept : Bool → List OutputRow → OutputRow → Bool
is_kept true rights row = occurs_in rights row
is_kept false rights row = not (occurs_in rights row)

-- INTERSECT and EXCEPT have this many left rows behind them, and keep exactly what these and the right rows that came tell. The
-- answers still to come are the first ones of the rows that are left and count, but for values that were seen. The asks that
-- were made go on with what is due, and with what the next left row wants
pub record ComparedAt (s : Sides) (shared : Bool) (lefts rights : List OutputRow) (made : List SideAsk) (count left : ℕ) (c : Comparison) : Type 0 where
  pub input : AreSides s lefts rights
  pub inside : left ≤ length lefts
  pub left_least : left ≤ asked Left made
  pub left_most : asked Left made ≤ suc left
  pub right_most : asked Right made ≤ suc (length rights)
  pub state : c ≡ record {
    weights = s.weights;
    terms = s.terms;
    shared = shared;
    left = head_after s lefts left (asked Left made);
    passed = lists_of (take left lefts);
    right = right_after s rights (asked Right made);
    spent = false;
  }
  pub before : AllByRecursion (λ row. comes_before_bar key_cmp (bar_after (row_key s) (answers s (op_of shared) lefts rights) count) (row_key s row) ≡ true) (take left lefts)
  pub far : AllByRecursion (λ row. wanted_for (keys_of s rights) (row_key s row) ≤ asked Right made) (take left lefts)
  pub rest : drop count (answers s (op_of shared) lefts rights) ≡ unseen (lists_of (take left lefts)) (firsts (filter (is_kept shared rights) (drop left lefts)))
  pub within : count ≤ length (answers s (op_of shared) lefts rights)
  pub asks : (n : ℕ) → one_by_one (keys_of s rights) (keys_of s lefts) 1 0 (left + suc n)
      ≡ made ++ (due Left left (asked Left made) ++ asks_behind (keys_of s rights) (keys_of s (drop left lefts)) (suc (suc left)) (asked Right made) n)

-- the row that is held has values that no left row had before, and isn't one that doesn't count
pub record ComparedStands (s : Sides) (shared : Bool) (lefts rights : List OutputRow) (made : List SideAsk) (count : ℕ) (c : Comparison) : Type 0 where
  pub left : ℕ
  pub place : ComparedAt s shared lefts rights made count left c
  pub new : (row : OutputRow) → asked Left made ≡ suc left → slice_get lefts left ≡ Some row → has_list row.values (lists_of (take left lefts)) ≡ false
  pub wanted : is_unwanted c ≡ false
