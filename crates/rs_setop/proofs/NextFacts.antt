-- The next row of a union, whichever side it is of: where the sides stand once it is known, and once it is gone.
use Rattle.std.proofs.Common.{◌≡◌, ℕ, suc, true, List, [], ◌∷◌, ◌++◌, Option, Some, sym, ◌∙◌, ap, ap₂, subst, inl, inr}
use Rattle.std.specs.List.{slice_get}
use Rattle.rs_order.specs.Asks.{comes_before_bar}
use Rattle.rs_order.specs.Schedule.{JoinSide, Left, Right, SideAsk, Turn, asked}
use Rattle.rs_order.proofs.ScheduleFacts.{asked-left, asked-right}
use Rattle.rs_rank.specs.declared.ask.JoinAsk.{JoinAsk}
use Rattle.rs_rank.specs.declared.ask.JoinAsk.TheVariants.{NeedLeft, NeedRight, Ready}
use Rattle.rs_rank.specs.declared.key.Key.{Key}
use Rattle.rs_rank.specs.Keys.{key_cmp}
use Rattle.rs_setop.specs.declared.heads.Heads.{Heads}
use Rattle.rs_setop.specs.declared.held.Head.{Head}
use Rattle.rs_setop.specs.Heads.{ask_for, ask_of, first_of, without_first}
use Rattle.rs_outputs.specs.Rows.{OutputRow}
use Rattle.rs_setop.specs.Sides.{Sides, head_after, head_of, row_key}
use Rattle.rs_setop.specs.Stands.{IsMerging, heads_after, rows_left}
use Rattle.rs_setop.proofs.HeadFacts.{Shows, as_held, both, heads-show, right-due}
use Rattle.rs_setop.proofs.WalkFacts.{head-known, head-unknown, left-asked, left-first, left-gone, right-asked, right-first, right-gone}

-- what belongs to a side, of what belongs to the left one and to the right one
abbrev pub of_side : {A : Type 0} → JoinSide → A → A → A
of_side Left left right = left
of_side Right left right = right

abbrev pub need_of : JoinSide → JoinAsk
need_of side = of_side side NeedLeft NeedRight

abbrev pub with_head : JoinSide → Head → Heads → Heads
with_head side head heads = record { left = of_side side head heads.left; right = of_side side heads.right head }

-- the asks that were made, and one more of a side
abbrev pub one_more : JoinSide → List SideAsk → List SideAsk
one_more side made = made ++ record { side = side; number = suc (asked side made) } ∷ []

-- the row that comes first; how many rows of each side are gone once it is, and which side is due then
pub record IsFirst (s : Sides) (lefts rights : List OutputRow) (made : List SideAsk) (bar : Option Key) (left right : ℕ) (gone : List (Turn Key)) : Type 0 where
  pub next : OutputRow
  pub left_then : ℕ
  pub right_then : ℕ
  pub turn : Turn Key
  pub side : JoinSide
  pub rows : rows_left s lefts rights left right ≡ next ∷ rows_left s lefts rights left_then right_then
  pub held : first_of (heads_after s lefts rights made left right) ≡ Some (as_held s next)
  pub without : without_first (heads_after s lefts rights made left right) ≡ heads_after s lefts rights made left_then right_then
  pub due : ask_of (heads_after s lefts rights made left_then right_then) ≡ need_of side
  pub merging : (later : Option Key) → ((k : Key) → comes_before_bar key_cmp bar k ≡ true → comes_before_bar key_cmp later k ≡ true) → comes_before_bar key_cmp later (row_key s next) ≡ true
      → IsMerging s lefts rights made later left_then right_then (gone ++ turn ∷ [])

module _ (s : Sides) (lefts rights : List OutputRow) (made : List SideAsk) (bar : Option Key) (left right : ℕ) (gone : List (Turn Key)) (m : IsMerging s lefts rights made bar left right gone) where
  abbrev heads : Heads
  heads = heads_after s lefts rights made left right

  -- what it asks tells
  pub shows : (ask : JoinAsk) → ask_of heads ≡ ask → Shows s lefts rights left right (asked Left made) (asked Right made) heads ask
  shows ask e =
      subst (Shows s lefts rights left right (asked Left made) (asked Right made) heads) e
      (heads-show s lefts rights left right (asked Left made) (asked Right made) m.left_least m.left_most m.right_least m.right_most)

  -- the next row of a side is known, or that there is none
  pub merging-more : (side : JoinSide) → ask_of heads ≡ need_of side → IsMerging s lefts rights (one_more side made) bar left right gone
  merging-more Left need = left-asked s lefts rights made bar left right gone m (shows NeedLeft need)
  merging-more Right need = let due = shows NeedRight need in right-asked s lefts rights made bar left right gone m due.0 due.1

  pub heads-more : (side : JoinSide) → ask_of heads ≡ need_of side → with_head side (head_of s (slice_get (of_side side lefts rights) (asked side made))) heads ≡ heads_after s lefts rights (one_more side made) left right
  heads-more Left need =
      let due = shows NeedLeft need in
      let counts = asked-left made (suc (asked Left made)) in
      ap₂ both (ap (λ n. head_of s (slice_get lefts n)) due ∙ sym (head-known s lefts left (asked Left (one_more Left made)) (counts.0 ∙ ap suc due)))
      (ap (head_after s rights right) (sym counts.1))
  heads-more Right need =
      let due = shows NeedRight need in
      let counts = asked-right made (suc (asked Right made)) in
      ap₂ both (ap (head_after s lefts left) (sym counts.0))
      (ap (λ n. head_of s (slice_get rights n)) due.1 ∙ sym (head-known s rights right (asked Right (one_more Right made)) (counts.1 ∙ ap suc due.1)))

  -- the first row, where the next rows of both sides are known
  pub first-row : ask_of heads ≡ Ready → IsFirst s lefts rights made bar left right gone
  first-row ready =
      let now = shows Ready ready in
      elim now.2 [
        | inl l ↦
            let unknown = head-unknown s lefts (suc left) (asked Left made) now.0 in
            record {
              next = l.next;
              left_then = suc left;
              right_then = right;
              turn = record { ask = record { side = Left; number = suc (suc left) }; key = row_key s l.next };
              side = Left;
              rows = left-first s lefts rights left right l.next l.is l.first;
              held = l.held;
              without = l.without ∙ ap (λ h. both h (head_after s rights right (asked Right made))) (sym unknown);
              due = ap (λ h. ask_for h (head_after s rights right (asked Right made))) unknown;
              merging = λ later keep before. left-gone s lefts rights made bar left right gone m now.0 now.1 later keep l.next l.is l.first before;
            }
        | inr r ↦
            let unknown = head-unknown s rights (suc right) (asked Right made) now.1 in
            record {
              next = r.next;
              left_then = left;
              right_then = suc right;
              turn = record { ask = record { side = Right; number = suc (suc right) }; key = row_key s r.next };
              side = Right;
              rows = right-first s lefts rights left right r.next r.is r.first;
              held = r.held;
              without = r.without ∙ ap (both (head_after s lefts left (asked Left made))) (sym unknown);
              due = ap₂ ask_for (head-known s lefts left (asked Left made) now.0) unknown ∙ right-due s (slice_get lefts left);
              merging = λ later keep before. right-gone s lefts rights made bar left right gone m now.0 now.1 later keep r.next r.is r.first before;
            }
      ]
