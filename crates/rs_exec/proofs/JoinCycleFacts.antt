-- One ask of a join: where its core stands between two asks of its sides, what each row does, and what is left behind the ask.
use Rattle.std.proofs.Common.{ℕ, suc, ◌≡◌, ◌∙◌, ◌+◌, ◌≤◌, List, true, min, Box, Global, length, take, refl, sym, ap, ap₂, subst, subst₂, arith}
use Rattle.std.specs.Box.{with_value}
use Rattle.std.specs.List.{AllByRecursion}
use Rattle.std.specs.Prelude.{Bool, IfSome, Option, Some, None, Result, Ok, if◌then◌else◌, is_some, slice_get}
use Rattle.std.proofs.lemmas.Option.{slice_get_past}
use Rattle.rs_filter.specs.declared.conditions.JoinConditions.{JoinConditions}
use Rattle.rs_filter.specs.Conditions.{AreConditions, conditions_of}
use Rattle.rs_filter.specs.Matching.{IsView, is_side, joins}
use Rattle.rs_order.specs.Schedule.{JoinSide, Left, Right, SideAsk, asked}
use Rattle.rs_order.proofs.EachFacts.{each-slice_get, each-take, each-weaker}
use Rattle.rs_expr.specs.InOrder.{Inquires}
use Rattle.rs_expr.specs.Scoring.{ScorerState}
use Rattle.rs_rank.specs.Masks.{AreDisjoint}
use Rattle.rs_rank.specs.declared.ask.JoinAsk.TheVariants.{End, Ready}
use Rattle.rs_rank.specs.declared.row.RankRow.{RankRow}
use Rattle.rs_rank.proofs.TurnFacts as turns
use Rattle.rs_catalog.specs.Catalog.{CatalogDef}
use Rattle.rs_query.proofs.QuestionFacts.{AllAsked-none}
use Rattle.rs_query.specs.Blocks.{block_in}
use Rattle.rs_query.specs.Tables.{HasRows, sizes_of}
use Rattle.rs_query.specs.declared.query.Query.{Query}
use Rattle.rs_ripple.specs.After.{joined_after}
use Rattle.rs_ripple.specs.Joined.{Fits, JoinStands as CoreStands, Joined, rest_for}
use Rattle.rs_ripple.specs.Ripple.{Ripple, ask_of, left_ended, left_for, right_ended, taken_for}
use Rattle.rs_ripple.specs.Stands.{BeginsWith, Join, schedule_of}
use Rattle.rs_ripple.proofs.JoinLawFacts.{is-now, left-can-feed, left-end-stands, left-fed-stands, right-can-feed, right-end-stands, right-fed-stands, stands-fits, taken-join-stands}
use Rattle.rs_ripple.proofs.LawFacts.{taken-is}
use Rattle.rs_ripple.proofs.ScheduleFacts.{BeginsWith-itself, schedule_of-more}
use Rattle.rs_ripple.proofs.StandFacts.{stands-tells}
use Rattle.rs_plan.specs.Asks.{child_asks}
use Rattle.rs_plan.specs.Counts.{asked_of, gave_of}
use Rattle.rs_plan.specs.Lists.{World, list_of}
use Rattle.rs_plan.specs.Plans.{IsPart}
use Rattle.rs_plan.specs.Trees.{JoinKind, JoinOperator, PlanTree, entries}
use Rattle.rs_exec.specs.Asked.{Asked, CanAsk, JoinAfter, NodeAfter}
use Rattle.rs_exec.specs.Asking.{next_row, world_of}
use Rattle.rs_exec.specs.Cores.{CanFeed, CanTake, HasValues, core_of, core_with, core_with_row, joined_in, joined_with_row, kind_of}
use Rattle.rs_exec.specs.Joining.{join_for}
use Rattle.rs_exec.specs.Nodes.{asked_in, number_in, tree_in}
use Rattle.rs_exec.specs.Sides.{of_side}
use Rattle.rs_exec.specs.Standing.{JoinStands, Stands, join_node_after, joined_from}
use Rattle.rs_exec.specs.declared.fault.ExecFault.{ExecFault}
use Rattle.rs_exec.specs.declared.fault.ExecFault.TheVariants.{Memory}
use Rattle.rs_exec.specs.declared.join.JoinNode.{JoinNode}
use Rattle.rs_exec.specs.declared.join_core.JoinCore.{JoinCore}
use Rattle.rs_exec.specs.declared.node.PlanNode.{PlanNode}
use Rattle.rs_exec.specs.declared.node.PlanNode.TheViews as view
use Rattle.rs_exec.specs.declared.tally.Tally.{Tally}
use Rattle.rs_exec.proofs.BlockFacts.{block-formed, few-entries, sizes-are}
use Rattle.rs_exec.proofs.CoreFacts.{joined-of, joined-with, kind-of, kind-with, of-joined, of-values, with-values}
use Rattle.rs_exec.proofs.JoinListFacts.{CanJoinParts, join-list, join-sides}
use Rattle.rs_exec.proofs.JoinStepFacts.{join-schedule}
use Rattle.rs_exec.proofs.ListFacts.{IsRow, IsView-itself, list-rows}
use Rattle.rs_exec.proofs.SideFacts.{need_of, on-both}
use Rattle.rs_exec.proofs.TurnFacts.{Below, Turn, both, changed, next_ask, one_more, tells-next, turn-gave, turn-inquires, turn-more, turn-start, turn-there}

-- a join and its sides, held apart, as a node
module _ (w : World) (self : PlanNode) (head after : JoinNode) (left_box right_box : Box PlanNode Global) (left_middle right_middle left right : PlanNode)
    (result : Result (Option RankRow) ExecFault) (old new : ScorerState) where
  pub join-asked-node : self ≡ view.Join head left_box right_box → left_middle ≡ left_box.value → right_middle ≡ right_box.value
      → Asked w head.block (JoinOperator (kind_of head.core) (tree_in left_middle) (tree_in right_middle)) head.tally.asked
      (JoinAfter w head.block (JoinOperator (kind_of head.core) (tree_in left_middle) (tree_in right_middle)) head.tally.asked after left right) result old new
      → Asked w (number_in self) (tree_in self) (asked_in self)
      (NodeAfter w (number_in self) (tree_in self) (asked_in self) (view.Join after (with_value left_box left) (with_value right_box right))) result old new
  join-asked-node is left_value right_value asked =
      let held = subst₂ (λ (l r : PlanNode). Asked w head.block (JoinOperator (kind_of head.core) (tree_in l) (tree_in r)) head.tally.asked
      (JoinAfter w head.block (JoinOperator (kind_of head.core) (tree_in l) (tree_in r)) head.tally.asked after left right) result old new) left_value right_value asked in
      subst (λ (n : PlanNode). Asked w (number_in n) (tree_in n) (asked_in n)
      (NodeAfter w (number_in n) (tree_in n) (asked_in n) (view.Join after (with_value left_box left) (with_value right_box right))) result old new) (sym is)
      (record {
        inquires = held.inquires;
        leaves = λ ok.
            let kept = held.leaves ok in
            record { number_is = kept.number_is; tree_is = kept.tree_is; asked_is = kept.asked_is; stands = (kept.operator, kept.left_side, kept.right_side) };
      })

-- what is kept of a side that has ended
abbrev pub ended_of : JoinSide → Ripple → Ripple
ended_of Left ripple = left_ended ripple
ended_of Right ripple = right_ended ripple

-- a join that can be asked once more joins parts of a plan
pub join-parts : (catalogue : CatalogDef) (query : Query) (number : ℕ) (kind : JoinKind) (left right : PlanTree) (a : ℕ) (old : ScorerState)
    → CanAsk (world_of catalogue old.answer query) number (JoinOperator kind left right) a → CanJoinParts (world_of catalogue old.answer query) number left right
join-parts catalogue query number kind left right a old can = record {
  formed = can.formed;
  bounded = can.bounded number can.number_is;
  weights = can.weights;
  view = subst (λ (sizes : List ℕ). IsView sizes (sizes_of catalogue (block_in query number))) (sym (sizes-are catalogue old.answer query number can.number_is))
      (IsView-itself (sizes_of catalogue (block_in query number)));
  left_part = can.part.0;
  right_part = can.part.1;
  joined = can.part.2;
}

-- during ask a + 1 of a join: its core stands at the asks that were made, and at as many answers as asks before
pub record JoinTurn (catalogue : CatalogDef) (query : Query) (number : ℕ) (kind : JoinKind) (left right : PlanTree) (a : ℕ) (old : ScorerState) (head : JoinNode) (on : JoinSide → Option PlanNode) (now : ScorerState) : Type 0 where
  pub made : List SideAsk
  pub turn : Turn catalogue query number (JoinOperator kind left right) a old head.tally on made now
  pub core : CoreStands (join_for (world_of catalogue old.answer query) number left right) (list_of (world_of catalogue old.answer query) number left) (list_of (world_of catalogue old.answer query) number right)
      made a (joined_in head.core)
  pub block_is : head.block ≡ number
  pub conditions_are : head.conditions ≡ conditions_of catalogue (block_in query number) (entries left) (entries right)
  pub kind_is : kind_of head.core ≡ kind
  pub values : HasValues catalogue (block_in query number) (entries left) (entries right) head.core

-- at its start
pub join-start : (catalogue : CatalogDef) (query : Query) (head : JoinNode) (on_left on_right : PlanNode) (old : ScorerState)
    → CanAsk (world_of catalogue old.answer query) head.block (JoinOperator (kind_of head.core) (tree_in on_left) (tree_in on_right)) head.tally.asked
    → JoinStands (world_of catalogue old.answer query) head.block head (tree_in on_left) (tree_in on_right) (asked_in on_left) (asked_in on_right)
    → Stands (world_of catalogue old.answer query) head.block on_left → Stands (world_of catalogue old.answer query) head.block on_right
    → (tally : Tally) → tally ≡ record head.tally { asked = head.tally.asked + 1 }
    → JoinTurn catalogue query head.block (kind_of head.core) (tree_in on_left) (tree_in on_right) head.tally.asked old (record head { tally = tally }) (both on_left on_right) old
join-start catalogue query head on_left on_right old can stands left right tally asks =
    let w = world_of catalogue old.answer query in
    let kind = kind_of head.core in
    let a = head.tally.asked in
    let l = tree_in on_left in
    let r = tree_in on_right in
    let tree = JoinOperator kind l r in
    let parts = join-parts catalogue query head.block kind l r a old can in
    let j = join_for w head.block l r in
    let lefts = list_of w head.block l in
    let rights = list_of w head.block r in
    let same_asks = sym (join-schedule w head.block kind l r parts a) in
    let sides = join-sides w head.block l r parts in
    let more = can.more in
    let all : min a (length (list_of w head.block tree)) ≡ a = omega arith in
    let kept = joined_from w head.block l r (asked_of w head.block tree a Left) (asked_of w head.block tree a Right) (gave_of w head.block tree a) in
    let core : head.core ≡ core_of kind catalogue (block_in query head.block) (entries l) (entries r) kept = ap (λ (n : JoinNode). n.core) stands.keeps in
    let same : joined_in head.core ≡ joined_after j lefts rights (asked_of w head.block tree a Left) (asked_of w head.block tree a Right) a =
    of-joined catalogue (block_in query head.block) (entries l) (entries r) kind head.core kept core
    ∙ ap (joined_after j lefts rights (asked_of w head.block tree a Left) (asked_of w head.block tree a Right)) all in
    record {
      made = child_asks w head.block tree a;
      turn = turn-start catalogue query head.block tree old head.tally (both on_left on_right) can
          (on-both (λ side. IfSome (both on_left on_right side) (Below w head.block (of_side l r side) (asked_of w head.block tree a side)))
          (record { tree_is = refl; asked_is = stands.left_asked; stands = left }) (record { tree_is = refl; asked_is = stands.right_asked; stands = right }))
          (ap (λ (n : JoinNode). n.tally.gave) stands.keeps) tally asks;
      core = record {
        core = record {
          input = sides;
          state = ap (λ (d : Joined). d.ripple) same;
          least = subst (λ (made : List SideAsk). BeginsWith made (schedule_of j lefts rights a)) same_asks (BeginsWith-itself (schedule_of j lefts rights a));
          most = subst (BeginsWith (schedule_of j lefts rights (suc a))) same_asks (schedule_of-more j lefts rights sides a);
          within = subst (λ (rows : List RankRow). a ≤ length rows) (join-list w head.block l r parts kind) more;
        };
        left_rows = ap (λ (d : Joined). d.lefts) same;
        right_rows = ap (λ (d : Joined). d.rights) same;
      };
      block_is = refl;
      conditions_are = ap (λ (n : JoinNode). n.conditions) stands.keeps;
      kind_is = refl;
      values = of-values catalogue (block_in query head.block) (entries l) (entries r) kind head.core kept core;
    }

module _ {catalogue : CatalogDef} {query : Query} {number : ℕ} {kind : JoinKind} {left right : PlanTree} {a : ℕ} {old : ScorerState} {head : JoinNode} {on : JoinSide → Option PlanNode} {now : ScorerState}
    (during : JoinTurn catalogue query number kind left right a old head on now) (can : CanAsk (world_of catalogue old.answer query) number (JoinOperator kind left right) a) where
  abbrev w : World
  w = world_of catalogue old.answer query

  abbrev tree : PlanTree
  tree = JoinOperator kind left right

  abbrev j : Join
  j = join_for (world_of catalogue old.answer query) number left right

  abbrev lefts : List RankRow
  lefts = list_of (world_of catalogue old.answer query) number left

  abbrev rights : List RankRow
  rights = list_of (world_of catalogue old.answer query) number right

  abbrev made : List SideAsk
  made = during.made

  abbrev joined : Joined
  joined = joined_in head.core

  parts : CanJoinParts w number left right
  parts = join-parts catalogue query number kind left right a old can

  -- what the core tells, of the asks and the list of the plan
  pub join-tells : turns.Tells (child_asks w number tree (suc a)) made a
      (length (list_of w number tree)) (ask_of joined.ripple)
  join-tells =
      subst₂ (λ (asks : List SideAsk) (rows : List RankRow). turns.Tells asks made a (length rows) (ask_of joined.ripple))
      (sym (join-schedule w number kind left right parts (suc a))) (sym (join-list w number left right parts kind))
      (stands-tells j lefts rights made a joined.ripple during.core.core)

  pub join-next : (side : JoinSide) → ask_of joined.ripple ≡ need_of side
      → slice_get (child_asks w number tree (suc a)) (length made) ≡ Some (next_ask side made)
  join-next side need =
      tells-next (child_asks w number tree (suc a)) made a (length (list_of w number tree)) side
      (subst (turns.Tells (child_asks w number tree (suc a)) made a (length (list_of w number tree))) need join-tells)

  -- the masks of its sides
  left-is : head.conditions.left ≡ entries left
  left-is = ap (λ (k : JoinConditions). k.left) during.conditions_are

  right-is : head.conditions.right ≡ entries right
  right-is = ap (λ (k : JoinConditions). k.right) during.conditions_are

  mask-is : (side : JoinSide) → of_side head.conditions.left head.conditions.right side ≡ entries (of_side left right side)
  mask-is Left = left-is
  mask-is Right = right-is

  -- what matches its rows
  matches-is : joins catalogue (block_in query head.block) head.conditions.left head.conditions.right ≡ joins catalogue (block_in query number) (entries left) (entries right)
  matches-is =
      ap (λ b. joins catalogue (block_in query b) head.conditions.left head.conditions.right) during.block_is
      ∙ ap₂ (joins catalogue (block_in query number)) left-is right-is

  fits : Fits (joins catalogue (block_in query head.block) head.conditions.left head.conditions.right) joined
  fits = subst (λ (matches : RankRow → RankRow → Bool). Fits matches joined) (sym matches-is) (stands-fits j lefts rights made a joined during.core)

  values-are : HasValues catalogue (block_in query head.block) head.conditions.left head.conditions.right head.core
  values-are = subst₂ (λ l r. HasValues catalogue (block_in query head.block) l r head.core) (sym left-is) (sym right-is)
      (subst (λ b. HasValues catalogue (block_in query b) (entries left) (entries right) head.core) (sym during.block_is) during.values)

  conditions-are : AreConditions catalogue (block_in query head.block) head.conditions
  conditions-are =
      subst (λ b. AreConditions catalogue (block_in query b) head.conditions) (sym during.block_is)
      (during.conditions_are ∙ sym (ap₂ (conditions_of catalogue (block_in query number)) left-is right-is))

  -- the rows of a side, and those of them that were drawn
  side-rows : (side : JoinSide) → AllByRecursion (IsRow w number (of_side left right side)) (list_of w number (of_side left right side))
  side-rows side =
      list-rows w number (few-entries catalogue query number can.formed) (sizes-are catalogue old.answer query number can.number_is) (of_side left right side)
      (on-both (λ s. IsPart catalogue (block_in query number) (of_side left right s)) can.part.0 can.part.1 side)

  abbrev OnSide : JoinSide → RankRow → Type 0
  OnSide side row = is_side catalogue (block_in query head.block) (of_side head.conditions.left head.conditions.right side) row ≡ true

  row-on : (side : JoinSide) (row : RankRow) → IsRow w number (of_side left right side) row
      → is_side catalogue (block_in query head.block) (of_side head.conditions.left head.conditions.right side) row ≡ true
  row-on side row is = subst₂ (λ b m. is_side catalogue (block_in query b) m row ≡ true) (sym during.block_is) (sym (mask-is side)) is.side

  drawn : (side : JoinSide) (n : ℕ) (rows : List RankRow) → rows ≡ take n (list_of w number (of_side left right side))
      → AllByRecursion (λ (row : RankRow). is_side catalogue (block_in query head.block) (of_side head.conditions.left head.conditions.right side) row ≡ true) rows
  drawn side n rows first =
      let all = list_of w number (of_side left right side) in
      subst (AllByRecursion (OnSide side)) (sym first)
      (each-take (OnSide side) n all (each-weaker (IsRow w number (of_side left right side)) (OnSide side) (row-on side) all (side-rows side)))

  others-drawn : (side : JoinSide) → AllByRecursion (λ (row : RankRow). is_side catalogue (block_in query head.block) (of_side head.conditions.right head.conditions.left side) row ≡ true)
      (of_side joined.rights joined.lefts side)
  others-drawn Left = drawn Right (asked Right made) joined.rights during.core.right_rows
  others-drawn Right = drawn Left (asked Left made) joined.lefts during.core.left_rows

  -- a row of a side that is needed can be fed, and then the core stands one ask further; so it does behind the side's end
  feeds : (side : JoinSide) → ask_of joined.ripple ≡ need_of side → (row : RankRow)
      → slice_get (list_of w number (of_side left right side)) (asked side made) ≡ Some row → CanFeed side row joined
  feeds Left need row there = left-can-feed j lefts rights made a joined during.core need row there
  feeds Right need row there = right-can-feed j lefts rights made a joined during.core need row there

  core-fed : (side : JoinSide) → ask_of joined.ripple ≡ need_of side → (row : RankRow)
      → slice_get (list_of w number (of_side left right side)) (asked side made) ≡ Some row
      → CoreStands j lefts rights (one_more side made) a (joined_with_row side j.matches row joined)
  core-fed Left need row there = left-fed-stands j lefts rights made a joined during.core need row there
  core-fed Right need row there = right-fed-stands j lefts rights made a joined during.core need row there

  core-ended : (side : JoinSide) → ask_of joined.ripple ≡ need_of side
      → slice_get (list_of w number (of_side left right side)) (asked side made) ≡ None
      → CoreStands j lefts rights (one_more side made) a (record joined { ripple = ended_of side joined.ripple })
  core-ended Left need over = (left-end-stands j lefts rights made a joined during.core need over).1
  core-ended Right need over = (right-end-stands j lefts rights made a joined during.core need over).1

  module _ (side : JoinSide) {n : PlanNode} (is : on side ≡ Some n) (need : ask_of joined.ripple ≡ need_of side) (got : Option RankRow) (asked_then : ScorerState)
      (answered : Inquires Memory (next_row (world_of catalogue now.answer query) (number_in n) (tree_in n) (asked_in n)) (Ok got) now asked_then) where
    there : slice_get (list_of w number (of_side left right side)) (asked side made) ≡ got
    there = turn-there during.turn can side is (join-next side need) got asked_then answered

    -- the join behind the ask, with this core
    moved : (core : JoinCore) (fed : JoinNode) (next : PlanNode) → NodeAfter (world_of catalogue now.answer query) (number_in n) (tree_in n) (asked_in n) next
        → fed ≡ record head { core = core } → HasValues catalogue (block_in query number) (entries left) (entries right) core → kind_of core ≡ kind_of head.core
        → CoreStands j lefts rights (one_more side made) a (joined_in core)
        → JoinTurn catalogue query number kind left right a old fed (changed side next on) asked_then
    moved core fed next after fed_is has kind_same stands = record {
      made = one_more side made;
      turn = turn-more during.turn can side is (join-next side need) got asked_then answered fed.tally asked_then next after (AllAsked-none old.answer catalogue asked_then)
          (ap (λ (h : JoinNode). h.tally.asked) fed_is) (ap (λ (h : JoinNode). h.tally.gave) fed_is);
      core = subst (λ (h : JoinNode). CoreStands j lefts rights (one_more side made) a (joined_in h.core)) (sym fed_is) stands;
      block_is = ap (λ (h : JoinNode). h.block) fed_is ∙ during.block_is;
      conditions_are = ap (λ (h : JoinNode). h.conditions) fed_is ∙ during.conditions_are;
      kind_is = ap (λ (h : JoinNode). kind_of h.core) fed_is ∙ kind_same ∙ during.kind_is;
      values = subst (λ (h : JoinNode). HasValues catalogue (block_in query number) (entries left) (entries right) h.core) (sym fed_is) has;
    }

    module _ (row : RankRow) (is_row : got ≡ Some row) where
      pub join-takes : CanTake side catalogue (block_in query head.block) head.conditions row head.core
      join-takes =
          let own = each-slice_get (IsRow w number (of_side left right side)) (list_of w number (of_side left right side)) (asked side made) row (side-rows side) (there ∙ is_row) in
          record {
            block_is = block-formed catalogue query head.block can.formed;
            conditions_are = conditions-are;
            apart = subst₂ AreDisjoint (sym left-is) (sym right-is) can.part.2.apart;
            values = values-are;
            next = feeds side need row (there ∙ is_row);
            rows = subst₂ (λ b m. HasRows catalogue (block_in query b) m row.ids.rows) (sym during.block_is) (sym (mask-is side)) own.rows;
            own = row-on side row own;
            others = others-drawn side;
            fits = fits;
          }

      -- the row is taken
      pub join-fed : (fed : JoinNode) (next : PlanNode) → fed ≡ record head { core = core_with_row side catalogue (block_in query head.block) head.conditions row head.core }
          → NodeAfter (world_of catalogue now.answer query) (number_in n) (tree_in n) (asked_in n) next
          → JoinTurn catalogue query number kind left right a old fed (changed side next on) asked_then
      join-fed fed next fed_is after =
          let b = block_in query number in
          let taken = joined_with_row side (joins catalogue b (entries left) (entries right)) row joined in
          moved (core_of (kind_of head.core) catalogue b (entries left) (entries right) taken) fed next after
          (fed_is ∙ (λ i. record head {
            core = core_of (kind_of head.core) catalogue (block_in query (during.block_is i)) (left-is i) (right-is i)
                (joined_with_row side (joins catalogue (block_in query (during.block_is i)) (left-is i) (right-is i)) row joined);
          }))
          (of-values catalogue b (entries left) (entries right) (kind_of head.core) (core_of (kind_of head.core) catalogue b (entries left) (entries right) taken) taken refl)
          (kind-of catalogue b (entries left) (entries right) (kind_of head.core) taken)
          (subst (CoreStands j lefts rights (one_more side made) a) (sym (joined-of catalogue b (entries left) (entries right) (kind_of head.core) taken)) (core-fed side need row (there ∙ is_row)))

    -- its end is told
    pub join-ended : got ≡ None → (fed : JoinNode) (next : PlanNode) → fed ≡ record head { core = core_with head.core (ended_of side joined.ripple) }
        → NodeAfter (world_of catalogue now.answer query) (number_in n) (tree_in n) (asked_in n) next
        → JoinTurn catalogue query number kind left right a old fed (changed side next on) asked_then
    join-ended none fed next fed_is after =
        let ripple = ended_of side joined.ripple in
        moved (core_with head.core ripple) fed next after fed_is
        (with-values catalogue (block_in query number) (entries left) (entries right) head.core ripple during.values) (kind-with head.core ripple)
        (subst (CoreStands j lefts rights (one_more side made) a) (sym (joined-with head.core ripple)) (core-ended side need (there ∙ none)))

module _ {catalogue : CatalogDef} {query : Query} {number : ℕ} {kind : JoinKind} {left right : PlanTree} {a : ℕ} {old : ScorerState} {head : JoinNode} {on_left on_right : PlanNode} {now : ScorerState}
    (during : JoinTurn catalogue query number kind left right a old head (both on_left on_right) now) (can : CanAsk (world_of catalogue old.answer query) number (JoinOperator kind left right) a) where
  abbrev whole : World
  whole = world_of catalogue old.answer query

  abbrev operator : PlanTree
  operator = JoinOperator kind left right

  -- what is left once a row was given, or none was there
  left-then : (after : JoinNode) (joined : Joined) (row : Option RankRow) (count : ℕ) → during.made ≡ child_asks whole number operator (suc a)
      → row ≡ slice_get (list_of whole number operator) a → count ≡ gave_of whole number operator (suc a)
      → CoreStands (join_for whole number left right) (list_of whole number left) (list_of whole number right) during.made count joined
      → joined_in after.core ≡ joined → HasValues catalogue (block_in query number) (entries left) (entries right) after.core
      → kind_of after.core ≡ kind_of head.core → after.block ≡ head.block → after.conditions ≡ head.conditions → after.tally.asked ≡ head.tally.asked
      → ◌≡◌ {A = ℕ} after.tally.gave (if is_some row then head.tally.gave + 1 else head.tally.gave)
      → Asked whole number operator a
      (JoinAfter whole number operator a after on_left on_right) (Ok row) old now
  left-then after joined row count all value count_is stands joined_is has kind_same block_is conditions_are asked_is gave_is =
      let j = join_for whole number left right in
      let lefts = list_of whole number left in
      let rights = list_of whole number right in
      let kind_now : kind_of after.core ≡ kind = kind_same ∙ during.kind_is in
      let is_asked : after.tally.asked ≡ suc a = asked_is ∙ during.turn.asked_is in
      let gave : after.tally.gave ≡ gave_of whole number operator (suc a) = gave_is ∙ turn-gave during.turn can all row value in
      let rest : joined ≡ joined_after j lefts rights (asked_of whole number operator (suc a) Left) (asked_of whole number operator (suc a) Right) (gave_of whole number operator (suc a)) =
      is-now j lefts rights during.made count joined stands ∙ ap₂ (λ (m : List SideAsk) (k : ℕ). joined_after j lefts rights (asked Left m) (asked Right m) k) all count_is in
      let keeps : after ≡ join_node_after whole number kind left right (suc a) =
      λ i. record {
        core = (has ∙ (λ k. core_of (kind_now k) catalogue (block_in query number) (entries left) (entries right) ((joined_is ∙ rest) k))) i;
        block = (block_is ∙ during.block_is) i;
        conditions = (conditions_are ∙ during.conditions_are) i;
        tally = record { asked = is_asked i; gave = gave i };
      } in
      let on_the_left : Below whole number left (asked Left during.made) on_left = during.turn.below Left in
      let on_the_right : Below whole number right (asked Right during.made) on_right = during.turn.below Right in
      record {
        inquires = turn-inquires during.turn can all row value;
        leaves = λ ok. record {
          number_is = block_is ∙ during.block_is;
          tree_is = λ i. JoinOperator (kind_now i) (on_the_left.tree_is i) (on_the_right.tree_is i);
          asked_is = is_asked;
          operator =
              subst₂ (λ (l r : PlanTree). JoinStands whole number after l r (asked_in on_left) (asked_in on_right)) (sym on_the_left.tree_is) (sym on_the_right.tree_is)
              (record {
                keeps = keeps ∙ ap₂ (λ (k : JoinKind) (n : ℕ). join_node_after whole number k left right n) (sym kind_now) (sym is_asked);
                left_asked = on_the_left.asked_is ∙ ap (asked Left) all ∙ ap₂ (λ (k : JoinKind) (n : ℕ). asked_of whole number (JoinOperator k left right) n Left) (sym kind_now) (sym is_asked);
                right_asked = on_the_right.asked_is ∙ ap (asked Right) all ∙ ap₂ (λ (k : JoinKind) (n : ℕ). asked_of whole number (JoinOperator k left right) n Right) (sym kind_now) (sym is_asked);
              });
          left_side = on_the_left.stands;
          right_side = on_the_right.stands;
        };
      }

  -- the join gives
  pub join-given : ask_of (joined_in head.core).ripple ≡ Ready → (after : JoinNode) (row : Option RankRow) → row ≡ taken_for (ask_of (joined_in head.core).ripple) (joined_in head.core).ripple
      → after ≡ record head { core = core_with head.core (left_for (ask_of (joined_in head.core).ripple) (joined_in head.core).ripple); tally = record head.tally { gave = if is_some row then head.tally.gave + 1 else head.tally.gave } }
      → Asked whole number operator a
      (JoinAfter whole number operator a after on_left on_right) (Ok row) old now
  join-given ready after row is_row is =
      let j = join_for whole number left right in
      let lefts = list_of whole number left in
      let rights = list_of whole number right in
      let joined = joined_in head.core in
      let ripple = left_for (ask_of joined.ripple) joined.ripple in
      let told = subst (turns.Tells (child_asks whole number operator (suc a)) during.made a (length (list_of whole number operator))) ready (join-tells during can) in
      let inside = told.1 in
      let parts = join-parts catalogue query number kind left right a old can in
      left-then after (rest_for (ask_of joined.ripple) joined) row (suc a) told.0
      (is_row ∙ taken-is j lefts rights during.made a joined.ripple during.core.core ready ∙ ap (λ (rows : List RankRow). slice_get rows a) (sym (join-list whole number left right parts kind)))
      (omega arith) (taken-join-stands j lefts rights during.made a joined during.core ready).1
      (ap (λ (n : JoinNode). joined_in n.core) is ∙ joined-with head.core ripple)
      (subst (λ (n : JoinNode). HasValues catalogue (block_in query number) (entries left) (entries right) n.core) (sym is)
      (with-values catalogue (block_in query number) (entries left) (entries right) head.core ripple during.values))
      (ap (λ (n : JoinNode). kind_of n.core) is ∙ kind-with head.core ripple)
      (ap (λ (n : JoinNode). n.block) is) (ap (λ (n : JoinNode). n.conditions) is) (ap (λ (n : JoinNode). n.tally.asked) is) (ap (λ (n : JoinNode). n.tally.gave) is)

  -- or it has ended
  pub join-over : ask_of (joined_in head.core).ripple ≡ End
      → Asked whole number operator a
      (JoinAfter whole number operator a head on_left on_right) (Ok None) old now
  join-over end =
      let told = subst (turns.Tells (child_asks whole number operator (suc a)) during.made a (length (list_of whole number operator))) end (join-tells during can) in
      let past = told.1 in
      left-then head (joined_in head.core) None a told.0 (sym (slice_get_past (list_of whole number operator) a (omega arith))) (omega arith) during.core refl during.values refl refl refl refl refl
