-- One ask of a set operator: where its core stands between two asks of its sides, what each row does, and what is left behind the ask.
use Rattle.std.proofs.Common.{ℕ, suc, ◌≡◌, ◌∙◌, ◌+◌, List, false, min, Box, Global, length, refl, sym, ap, ap₂, subst, subst₂, inl, inr, arith}
use Rattle.std.specs.Box.{with_value}
use Rattle.std.specs.Prelude.{IfSome, Option, Some, None, Result, Ok, if◌then◌else◌, is_some, option_map, slice_get}
use Rattle.std.proofs.lemmas.List.{length-map}
use Rattle.std.proofs.lemmas.Option.{slice_get-map, slice_get_past}
use Rattle.rs_order.specs.Schedule.{JoinSide, Left, Right, SideAsk, asked}
use Rattle.rs_expr.specs.InOrder.{Inquires}
use Rattle.rs_expr.specs.Scoring.{ScorerState}
use Rattle.rs_rank.specs.Rows.{HasSum}
use Rattle.rs_rank.specs.declared.ask.JoinAsk.TheVariants.{End, Ready}
use Rattle.rs_rank.specs.declared.row.RankRow.{RankRow}
use Rattle.rs_rank.proofs.TurnFacts.{Tells}
use Rattle.rs_outputs.specs.Rows.{OutputRow}
use Rattle.rs_setop.specs.Sides.{Sides, answers}
use Rattle.rs_catalog.specs.Catalog.{CatalogDef}
use Rattle.rs_query.proofs.QuestionFacts.{AllAsked-none}
use Rattle.rs_query.specs.Blocks.{block_in}
use Rattle.rs_query.specs.Tables.{all_entries}
use Rattle.rs_query.specs.Views.{all_rows}
use Rattle.rs_query.specs.declared.query.Query.{Query}
use Rattle.rs_plan.specs.Asks.{child_asks}
use Rattle.rs_plan.specs.Counts.{asked_of, gave_of}
use Rattle.rs_plan.specs.Lists.{World, list_of}
use Rattle.rs_plan.specs.Trees.{SetOperator, PlanTree}
use Rattle.rs_exec.specs.Asked.{Asked, CanAsk, NodeAfter, SetAfter}
use Rattle.rs_exec.specs.Asking.{next_row, world_of}
use Rattle.rs_exec.specs.Nodes.{asked_in, number_in, tree_in}
use Rattle.rs_exec.specs.OutputValues.{CanPutOut, output_row, outputs_in, values_for}
use Rattle.rs_exec.specs.SetCores.{CoreStands, core_ask, is_spent, left_in, taken_from, terms_of_core, weights_of_core}
use Rattle.rs_exec.specs.SetNodes.{SetStands, operator_of, sides_for}
use Rattle.rs_exec.specs.Sides.{of_side}
use Rattle.rs_exec.specs.Standing.{Stands}
use Rattle.rs_exec.specs.declared.fault.ExecFault.{ExecFault}
use Rattle.rs_exec.specs.declared.fault.ExecFault.TheVariants.{Memory}
use Rattle.rs_exec.specs.declared.node.PlanNode.{PlanNode}
use Rattle.rs_exec.specs.declared.node.PlanNode.TheViews as view
use Rattle.rs_exec.specs.declared.set.SetNode.{SetNode}
use Rattle.rs_exec.specs.declared.set_core.SetCore.{SetCore}
use Rattle.rs_exec.specs.declared.tally.Tally.{Tally}
use Rattle.rs_exec.proofs.OperatorFacts.{child-held}
use Rattle.rs_exec.proofs.PlacesFacts.{can-put_out, row-placed}
use Rattle.rs_exec.proofs.SetCoreFacts.{core-alive, core-end, core-row, core-taken, core-tells, side_ended, side_fed}
use Rattle.rs_exec.proofs.SetStepFacts.{SetFacts, set-facts}
use Rattle.rs_exec.proofs.SideFacts.{need_of, on-both}
use Rattle.rs_exec.proofs.TurnFacts.{Below, Turn, both, changed, next_ask, one_more, tells-next, turn-gave, turn-inquires, turn-more, turn-start, turn-there}

-- a set operator and its sides, held apart, as a node
module _ (w : World) (self : PlanNode) (head after : SetNode) (left_box right_box : Box PlanNode Global) (left_middle right_middle left right : PlanNode)
    (result : Result (Option RankRow) ExecFault) (old new : ScorerState) where
  pub set-asked-node : self ≡ view.Set head left_box right_box → left_middle ≡ left_box.value → right_middle ≡ right_box.value
      → Asked w 1 (SetOperator (tree_in left_middle) (tree_in right_middle)) head.tally.asked
      (SetAfter w (SetOperator (tree_in left_middle) (tree_in right_middle)) head.tally.asked after left right) result old new
      → Asked w (number_in self) (tree_in self) (asked_in self)
      (NodeAfter w (number_in self) (tree_in self) (asked_in self) (view.Set after (with_value left_box left) (with_value right_box right))) result old new
  set-asked-node is left_value right_value asked =
      let held = subst₂ (λ (l r : PlanNode). Asked w 1 (SetOperator (tree_in l) (tree_in r)) head.tally.asked
      (SetAfter w (SetOperator (tree_in l) (tree_in r)) head.tally.asked after left right) result old new) left_value right_value asked in
      subst (λ (n : PlanNode). Asked w (number_in n) (tree_in n) (asked_in n)
      (NodeAfter w (number_in n) (tree_in n) (asked_in n) (view.Set after (with_value left_box left) (with_value right_box right))) result old new) (sym is)
      (record {
        inquires = held.inquires;
        leaves = λ ok.
            let kept = held.leaves ok in
            record { number_is = refl; tree_is = kept.tree_is; asked_is = kept.asked_is; stands = (refl, kept.operator, kept.left_side, kept.right_side) };
      })

-- during ask a + 1 of a set operator: its core stands at the asks that were made, and at as many answers as asks before
pub record SetTurn (catalogue : CatalogDef) (query : Query) (left right : PlanTree) (a : ℕ) (old : ScorerState) (head : SetNode) (on : JoinSide → Option PlanNode) (now : ScorerState) : Type 0 where
  pub made : List SideAsk
  pub turn : Turn catalogue query 1 (SetOperator left right) a old head.tally on made now
  pub core : CoreStands (sides_for (world_of catalogue old.answer query) left) (operator_of query) (outputs_in (world_of catalogue old.answer query) 1 left) (outputs_in (world_of catalogue old.answer query) 2 right)
      made a head.core

-- at its start
pub set-start : (catalogue : CatalogDef) (query : Query) (head : SetNode) (on_left on_right : PlanNode) (old : ScorerState)
    → CanAsk (world_of catalogue old.answer query) 1 (SetOperator (tree_in on_left) (tree_in on_right)) head.tally.asked
    → SetStands (world_of catalogue old.answer query) head (tree_in on_left) (tree_in on_right) (asked_in on_left) (asked_in on_right)
    → Stands (world_of catalogue old.answer query) 1 on_left → Stands (world_of catalogue old.answer query) 2 on_right
    → (tally : Tally) → tally ≡ record head.tally { asked = head.tally.asked + 1 }
    → SetTurn catalogue query (tree_in on_left) (tree_in on_right) head.tally.asked old (record head { tally = tally }) (both on_left on_right) old
set-start catalogue query head on_left on_right old can stands left right tally asks =
    let w = world_of catalogue old.answer query in
    let l = tree_in on_left in
    let r = tree_in on_right in
    let tree = SetOperator l r in
    let a = head.tally.asked in
    let more = can.more in
    let all : min a (length (list_of w 1 tree)) ≡ a = omega arith in
    record {
      made = child_asks w 1 tree a;
      turn = turn-start catalogue query 1 tree old head.tally (both on_left on_right) can
          (on-both (λ side. IfSome (both on_left on_right side) (Below w (of_side 1 2 side) (of_side l r side) (asked_of w 1 tree a side)))
          (record { tree_is = refl; asked_is = stands.left_asked; stands = left }) (record { tree_is = refl; asked_is = stands.right_asked; stands = right }))
          stands.gave tally asks;
      core = subst (λ n. CoreStands (sides_for w l) (operator_of query) (outputs_in w 1 l) (outputs_in w 2 r) (child_asks w 1 tree a) n head.core) all stands.core;
    }

module _ {catalogue : CatalogDef} {query : Query} {left right : PlanTree} {a : ℕ} {old : ScorerState} {head : SetNode} {on : JoinSide → Option PlanNode} {now : ScorerState}
    (during : SetTurn catalogue query left right a old head on now) (can : CanAsk (world_of catalogue old.answer query) 1 (SetOperator left right) a) where
  abbrev w : World
  w = world_of catalogue old.answer query

  abbrev tree : PlanTree
  tree = SetOperator left right

  abbrev s : Sides
  s = sides_for (world_of catalogue old.answer query) left

  abbrev lefts : List OutputRow
  lefts = outputs_in (world_of catalogue old.answer query) 1 left

  abbrev rights : List OutputRow
  rights = outputs_in (world_of catalogue old.answer query) 2 right

  abbrev made : List SideAsk
  made = during.made

  facts : SetFacts w left right
  facts = set-facts catalogue old.answer (all_rows catalogue query) query 1 left right can.formed can.bounded can.weights can.part

  -- as many rows as answers
  set-length : length (list_of w 1 tree) ≡ length (answers s (operator_of query) lefts rights)
  set-length = sym (length-map (list_of w 1 tree) (output_row w)) ∙ ap (λ (rows : List OutputRow). length rows) facts.list

  set-row : (n : ℕ) → option_map (λ (row : OutputRow). row.row) (slice_get (answers s (operator_of query) lefts rights) n)
      ≡ slice_get (list_of w 1 tree) n
  set-row n =
      ap (λ (rows : List OutputRow). option_map (λ (row : OutputRow). row.row) (slice_get rows n)) (sym facts.list)
      ∙ ap (option_map (λ (row : OutputRow). row.row)) (slice_get-map (output_row w) (list_of w 1 tree) n)
      ∙ again (slice_get (list_of w 1 tree) n) where
        again : (found : Option RankRow) → option_map (λ (row : OutputRow). row.row) (option_map (output_row w) found) ≡ found
        again None = refl
        again (Some row) = refl

  -- what the core tells, of the asks and the list of the plan
  pub set-tells : Tells (child_asks w 1 tree (suc a)) made a
      (length (list_of w 1 tree)) (core_ask head.core)
  set-tells =
      subst₂ (λ (asks : List SideAsk) (n : ℕ). Tells asks made a n (core_ask head.core)) (sym (facts.asks (suc a))) (sym set-length)
      (core-tells s (operator_of query) lefts rights made a head.core during.core)

  pub set-next : (side : JoinSide) → core_ask head.core ≡ need_of side
      → slice_get (child_asks w 1 tree (suc a)) (length made) ≡ Some (next_ask side made)
  set-next side need =
      tells-next (child_asks w 1 tree (suc a)) made a (length (list_of w 1 tree)) side
      (subst (Tells (child_asks w 1 tree (suc a)) made a (length (list_of w 1 tree))) need set-tells)

  pub set-alive : is_spent head.core ≡ false
  set-alive = core-alive s (operator_of query) lefts rights made a head.core during.core

  module _ (side : JoinSide) {n : PlanNode} (is : on side ≡ Some n) (need : core_ask head.core ≡ need_of side) (got : Option RankRow) (asked_then : ScorerState)
      (answered : Inquires Memory (next_row (world_of catalogue now.answer query) (number_in n) (tree_in n) (asked_in n)) (Ok got) now asked_then) where
    abbrev number : ℕ
    number = of_side 1 2 side

    abbrev part : PlanTree
    part = of_side left right side

    there : slice_get (list_of w number part) (asked side made) ≡ got
    there = turn-there during.turn can side is (set-next side need) got asked_then answered

    output : slice_get (of_side lefts rights side) (asked side made) ≡ option_map (output_row w) got
    output =
        ap (λ (rows : List OutputRow). slice_get rows (asked side made)) (on-both (λ v. of_side lefts rights v ≡ outputs_in w (of_side 1 2 v) (of_side left right v)) refl refl side)
        ∙ slice_get-map (output_row w) (list_of w number part) (asked side made) ∙ ap (option_map (output_row w)) there

    -- the operator behind the ask, with this core
    moved : (core : SetCore) (fed : SetNode) (next : PlanNode) → NodeAfter (world_of catalogue now.answer query) (number_in n) (tree_in n) (asked_in n) next
        → fed ≡ record head { core = core } → CoreStands s (operator_of query) lefts rights (one_more side made) a core
        → SetTurn catalogue query left right a old fed (changed side next on) asked_then
    moved core fed next after fed_is stands = record {
      made = one_more side made;
      turn = turn-more during.turn can side is (set-next side need) got asked_then answered fed.tally asked_then next after (AllAsked-none old.answer catalogue asked_then)
          (ap (λ (h : SetNode). h.tally.asked) fed_is) (ap (λ (h : SetNode). h.tally.gave) fed_is);
      core = subst (λ (h : SetNode). CoreStands s (operator_of query) lefts rights (one_more side made) a h.core) (sym fed_is) stands;
    }

    module _ (row : RankRow) (is_row : got ≡ Some row) where
      taken : HasSum (weights_of_core head.core) (terms_of_core head.core) row
          × CoreStands s (operator_of query) lefts rights (one_more side made) a (side_fed side row (values_for catalogue query row) head.core)
      taken = core-row s (operator_of query) lefts rights made a head.core during.core side need (output_row w row) (output ∙ ap (option_map (output_row w)) is_row)

      pub set-sum : HasSum (weights_of_core head.core) (terms_of_core head.core) row
      set-sum = taken.0

      -- it has the entries of the output columns
      pub set-puts : CanPutOut catalogue query row
      set-puts =
          let held = child-held catalogue old.answer query 1 tree side (record { number_is = can.number_is; part = can.part; indexes = can.indexes }) in
          let placed = row-placed catalogue old.answer query number part can.formed held.number_is held.part (asked side made) row (there ∙ is_row) in
          let mask : row.ids.mask ≡ all_entries (block_in query row.ids.block) = elim placed.place [
            | inl at ↦ at.1 ∙ facts.all side ∙ ap (λ k. all_entries (block_in query k)) (sym at.0)
            | inr all ↦ all
          ] in
          can-put_out catalogue query row can.formed mask placed.rows

      -- the row is taken
      pub set-fed : (fed : SetNode) (next : PlanNode) → fed ≡ record head { core = side_fed side row (values_for catalogue query row) head.core }
          → NodeAfter (world_of catalogue now.answer query) (number_in n) (tree_in n) (asked_in n) next → SetTurn catalogue query left right a old fed (changed side next on) asked_then
      set-fed fed next fed_is after = moved (side_fed side row (values_for catalogue query row) head.core) fed next after fed_is taken.1

    -- its end is told
    pub set-ended : got ≡ None → (fed : SetNode) (next : PlanNode) → fed ≡ record head { core = side_ended side head.core }
        → NodeAfter (world_of catalogue now.answer query) (number_in n) (tree_in n) (asked_in n) next → SetTurn catalogue query left right a old fed (changed side next on) asked_then
    set-ended none fed next fed_is after =
        moved (side_ended side head.core) fed next after fed_is
        (core-end s (operator_of query) lefts rights made a head.core during.core side need (output ∙ ap (option_map (output_row w)) none))

module _ {catalogue : CatalogDef} {query : Query} {left right : PlanTree} {a : ℕ} {old : ScorerState} {head : SetNode} {on_left on_right : PlanNode} {now : ScorerState}
    (during : SetTurn catalogue query left right a old head (both on_left on_right) now) (can : CanAsk (world_of catalogue old.answer query) 1 (SetOperator left right) a) where
  abbrev whole : World
  whole = world_of catalogue old.answer query

  abbrev operator : PlanTree
  operator = SetOperator left right

  abbrev At : List SideAsk → ℕ → SetCore → Type 0
  At = CoreStands (sides_for whole left) (operator_of query) (outputs_in whole 1 left) (outputs_in whole 2 right)

  -- what is left once a row was given, or none was there
  left-then : (after : SetNode) (core : SetCore) (row : Option RankRow) (count : ℕ) → during.made ≡ child_asks whole 1 operator (suc a)
      → row ≡ slice_get (list_of whole 1 operator) a → count ≡ gave_of whole 1 operator (suc a)
      → At during.made count core → after.core ≡ core → after.tally.asked ≡ head.tally.asked → ◌≡◌ {A = ℕ} after.tally.gave (if is_some row then head.tally.gave + 1 else head.tally.gave)
      → Asked whole 1 operator a
      (SetAfter whole operator a after on_left on_right) (Ok row) old now
  left-then after core row count all value count_is stands core_is asked_is gave_is =
      let is_asked : after.tally.asked ≡ suc a = asked_is ∙ during.turn.asked_is in
      let on_the_left : Below whole 1 left (asked Left during.made) on_left = during.turn.below Left in
      let on_the_right : Below whole 2 right (asked Right during.made) on_right = during.turn.below Right in
      record {
        inquires = turn-inquires during.turn can all row value;
        leaves = λ ok. record {
          tree_is = ap₂ SetOperator on_the_left.tree_is on_the_right.tree_is;
          asked_is = is_asked;
          operator =
              subst₂ (λ (l r : PlanTree). SetStands whole after l r (asked_in on_left) (asked_in on_right)) (sym on_the_left.tree_is) (sym on_the_right.tree_is)
              (record {
                core = subst (λ n. At (child_asks whole 1 operator n) (gave_of whole 1 operator n) after.core) (sym is_asked)
                    (subst (At (child_asks whole 1 operator (suc a)) (gave_of whole 1 operator (suc a))) (sym core_is) (subst₂ (λ (asks : List SideAsk) (n : ℕ). At asks n core) all count_is stands));
                gave = gave_is ∙ turn-gave during.turn can all row value ∙ ap (gave_of whole 1 operator) (sym is_asked);
                left_asked = on_the_left.asked_is ∙ ap (asked Left) all ∙ ap (λ n. asked_of whole 1 operator n Left) (sym is_asked);
                right_asked = on_the_right.asked_is ∙ ap (asked Right) all ∙ ap (λ n. asked_of whole 1 operator n Right) (sym is_asked);
              });
          left_side = on_the_left.stands;
          right_side = on_the_right.stands;
        };
      }

  -- the operator gives
  pub set-given : core_ask head.core ≡ Ready → (after : SetNode) (row : Option RankRow) → row ≡ taken_from head.core
      → after ≡ record head { core = left_in head.core; tally = record head.tally { gave = if is_some row then head.tally.gave + 1 else head.tally.gave } }
      → Asked whole 1 operator a
      (SetAfter whole operator a after on_left on_right) (Ok row) old now
  set-given ready after row is_row is =
      let told = subst (Tells (child_asks whole 1 operator (suc a)) during.made a (length (list_of whole 1 operator))) ready (set-tells during can) in
      let took = core-taken (sides_for whole left) (operator_of query) (outputs_in whole 1 left) (outputs_in whole 2 right) during.made a head.core during.core ready in
      let inside = told.1 in
      left-then after (left_in head.core) row (suc a) told.0 (is_row ∙ took.0 ∙ set-row during can a) (omega arith) took.1
      (ap (λ (n : SetNode). n.core) is) (ap (λ (n : SetNode). n.tally.asked) is) (ap (λ (n : SetNode). n.tally.gave) is)

  -- or it has ended
  pub set-over : core_ask head.core ≡ End
      → Asked whole 1 operator a
      (SetAfter whole operator a head on_left on_right) (Ok None) old now
  set-over end =
      let told = subst (Tells (child_asks whole 1 operator (suc a)) during.made a (length (list_of whole 1 operator))) end (set-tells during can) in
      let past = told.1 in
      left-then head head.core None a told.0 (sym (slice_get_past (list_of whole 1 operator) a (omega arith))) (omega arith) during.core refl refl refl
