-- The asks that a join makes of its sides.
use Rattle.std.proofs.Common.{◌≡◌, ◌∙◌, ℕ, zero, suc, List, length, refl, sym, ap}
use Rattle.std.specs.List.{filter}
use Rattle.std.specs.Prelude.{Option}
use Rattle.rs_order.specs.Asks.{bar_after}
use Rattle.rs_order.specs.Schedule.{JoinSide, Left, Right, SideAsk, asked, is_of_side}
use Rattle.rs_rank.specs.Keys.{key_cmp}
use Rattle.rs_rank.specs.Turns.{join_schedule, left_asks, right_asks}
use Rattle.rs_rank.specs.declared.key.Key.{Key}
use Rattle.rs_rank.specs.declared.row.RankRow.{RankRow}
use Rattle.rs_ripple.specs.Stands.{Join, answer_key, answers, merged_key, schedule_of, side_keys}
use Rattle.rs_ripple.proofs.LawFacts.{left-exact, right-exact}
use Rattle.rs_plan.specs.Asks.{bar_of, child_asks, keys_of}
use Rattle.rs_plan.specs.Counts.{asked_of}
use Rattle.rs_plan.specs.Lists.{World, list_of}
use Rattle.rs_plan.specs.Trees.{JoinKind, JoinOperator, PlanTree}
use Rattle.rs_exec.specs.Joining.{join_for}
use Rattle.rs_exec.proofs.JoinListFacts.{CanJoinParts, join-list, join-sides}
use Rattle.rs_exec.proofs.RankFacts.{bar_after-map}

module _ (w : World) (number : ℕ) (kind : JoinKind) (left right : PlanTree) (parts : CanJoinParts w number left right) where
  abbrev j : Join
  j = join_for w number left right

  abbrev lefts : List RankRow
  lefts = list_of w number left

  abbrev rights : List RankRow
  rights = list_of w number right

  -- the asks of its sides are those of a core
  pub join-schedule : (n : ℕ) → child_asks w number (JoinOperator kind left right) n ≡ schedule_of (join_for w number left right) (list_of w number left) (list_of w number right) n
  join-schedule zero = refl
  join-schedule (suc n) =
      ap (λ (bar : Option Key). join_schedule key_cmp (merged_key j) (side_keys j j.left lefts) (side_keys j j.right rights) bar)
      (bar_after-map (answer_key j) (list_of w number (JoinOperator kind left right)) n
      ∙ ap (λ (rows : List RankRow). bar_after (answer_key j) rows n) (join-list w number left right parts kind))

  pub join-asked : (n : ℕ) (side : JoinSide) → asked_of w number (JoinOperator kind left right) n side ≡ asked side (schedule_of (join_for w number left right) (list_of w number left) (list_of w number right) n)
  join-asked n side = ap (λ (asks : List SideAsk). length (filter (is_of_side side) asks)) (join-schedule n)

  -- this many of each side
  bar-same : (n : ℕ) → bar_after (answer_key j) (answers j lefts rights) n ≡ bar_of w number (JoinOperator kind left right) n
  bar-same n =
      sym (bar_after-map (answer_key j) (list_of w number (JoinOperator kind left right)) n
      ∙ ap (λ (rows : List RankRow). bar_after (answer_key j) rows n) (join-list w number left right parts kind))

  pub join-left_asks : (n : ℕ) → asked_of w number (JoinOperator kind left right) (suc n) Left
      ≡ left_asks key_cmp (merged_key (join_for w number left right)) (keys_of w number left) (keys_of w number right) (bar_of w number (JoinOperator kind left right) n)
  join-left_asks n =
      join-asked (suc n) Left ∙ left-exact j lefts rights n (join-sides w number left right parts)
      ∙ ap (left_asks key_cmp (merged_key j) (side_keys j j.left lefts) (side_keys j j.right rights)) (bar-same n)

  pub join-right_asks : (n : ℕ) → asked_of w number (JoinOperator kind left right) (suc n) Right
      ≡ right_asks key_cmp (merged_key (join_for w number left right)) (keys_of w number left) (keys_of w number right) (bar_of w number (JoinOperator kind left right) n)
  join-right_asks n =
      join-asked (suc n) Right ∙ right-exact j lefts rights n (join-sides w number left right parts)
      ∙ ap (right_asks key_cmp (merged_key j) (side_keys j j.left lefts) (side_keys j j.right rights)) (bar-same n)

-- the asks of a join are the same whichever way it is done
pub kind-asks : (w : World) (number : ℕ) (kind other : JoinKind) (left right : PlanTree) (n : ℕ)
    → child_asks w number (JoinOperator kind left right) n ≡ child_asks w number (JoinOperator other left right) n
kind-asks w number kind other left right zero = refl
kind-asks w number kind other left right (suc n) = refl
