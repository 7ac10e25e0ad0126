-- One ask of an operator that drops duplicates: where its core stands between two asks of its input, what each row does, and what is
-- left behind the ask.
use Rattle.std.proofs.Common.{ℕ, suc, ◌≡◌, ◌∙◌, ◌+◌, ◌≤◌, true, false, List, Box, Global, length, take, refl, sym, ap, subst, inl, inr, arith}
use Rattle.std.specs.Box.{with_value}
use Rattle.std.specs.Prelude.{Bool, IfSome, Option, Some, None, Result, Ok, if◌then◌else◌, is_some, option_map, slice_get}
use Rattle.std.proofs.lemmas.List.{take_all}
use Rattle.std.proofs.lemmas.Option.{slice_get-map, slice_get_past}
use Rattle.rs_order.specs.Asks.{asks_for, bar_after}
use Rattle.rs_order.specs.Schedule.{JoinSide, Left, SideAsk, asked}
use Rattle.rs_expr.specs.InOrder.{Inquires}
use Rattle.rs_expr.specs.Scoring.{ScorerState}
use Rattle.rs_rank.specs.Keys.{key_cmp}
use Rattle.rs_rank.specs.declared.row.RankRow.{RankRow}
use Rattle.rs_rank.proofs.OrderFacts.{key_cmp-total}
use Rattle.rs_catalog.specs.Catalog.{CatalogDef}
use Rattle.rs_filter.specs.Distinct.{Distinct as Kept, DistinctStands, given_for}
use Rattle.rs_filter.proofs.DistinctLists.{all-asks, fed-stands, new-values, old-values}
use Rattle.rs_outputs.specs.Rows.{OutputRow, firsts, lists_of}
use Rattle.rs_outputs.specs.Seen.{has_list, with_list}
use Rattle.rs_outputs.proofs.DistinctFacts.{first-next, firsts-same, given-asks}
use Rattle.rs_query.proofs.QuestionFacts.{AllAsked-none}
use Rattle.rs_query.specs.Blocks.{block_in}
use Rattle.rs_query.specs.Tables.{all_entries}
use Rattle.rs_query.specs.declared.query.Query.{Query}
use Rattle.rs_plan.specs.Asks.{child_asks}
use Rattle.rs_plan.specs.Counts.{asked_of, gave_of}
use Rattle.rs_plan.specs.Lists.{World, list_of}
use Rattle.rs_plan.specs.Trees.{Distinct, PlanTree, terms}
use Rattle.rs_exec.specs.Asked.{Asked, CanAsk, DistinctAfter, NodeAfter}
use Rattle.rs_exec.specs.Asking.{next_row, world_of}
use Rattle.rs_exec.specs.Distincts.{DropsStand, distinct_node_after}
use Rattle.rs_exec.specs.Nodes.{asked_in, number_in, tree_in}
use Rattle.rs_exec.specs.OutputValues.{CanPutOut, output_row, outputs_in, values_for}
use Rattle.rs_exec.specs.Standing.{Stands}
use Rattle.rs_exec.specs.declared.distinct.DistinctNode.{DistinctNode}
use Rattle.rs_exec.specs.declared.fault.ExecFault.{ExecFault}
use Rattle.rs_exec.specs.declared.fault.ExecFault.TheVariants.{Memory}
use Rattle.rs_exec.specs.declared.node.PlanNode.{PlanNode}
use Rattle.rs_exec.specs.declared.node.PlanNode.TheViews as view
use Rattle.rs_exec.specs.declared.tally.Tally.{Tally}
use Rattle.rs_exec.proofs.BlockFacts.{slice_get-none}
use Rattle.rs_exec.proofs.DistinctListFacts.{output_key}
use Rattle.rs_exec.proofs.DistinctStepFacts.{asks-less, distinct-asks, distinct-child_asks, distinct-length, outputs-climb, outputs-length, row-at, taken}
use Rattle.rs_exec.proofs.PlacesFacts.{can-put_out, part-of, row-placed}
use Rattle.rs_exec.proofs.SideFacts.{on-both}
use Rattle.rs_exec.proofs.TurnFacts.{Below, Turn, changed, next_ask, node-number, one-more, one_child, one_more, turn-all, turn-alone, turn-gave, turn-inquires, turn-more, turn-start, turn-there}

-- an operator and its input, held apart, as a node
module _ (w : World) (self : PlanNode) (head after : DistinctNode) (box : Box PlanNode Global) (middle child : PlanNode) (result : Result (Option RankRow) ExecFault) (old new : ScorerState) where
  pub distinct-asked : self ≡ view.Distinct head box → middle ≡ box.value
      → Asked w (number_in middle) (Distinct (tree_in middle)) head.tally.asked (DistinctAfter w (number_in middle) (Distinct (tree_in middle)) head.tally.asked after child) result old new
      → Asked w (number_in self) (tree_in self) (asked_in self) (NodeAfter w (number_in self) (tree_in self) (asked_in self) (view.Distinct after (with_value box child))) result old new
  distinct-asked is value asked =
      let held = subst (λ (n : PlanNode). Asked w (number_in n) (Distinct (tree_in n)) head.tally.asked (DistinctAfter w (number_in n) (Distinct (tree_in n)) head.tally.asked after child) result old new) value asked in
      subst (λ (n : PlanNode). Asked w (number_in n) (tree_in n) (asked_in n) (NodeAfter w (number_in n) (tree_in n) (asked_in n) (view.Distinct after (with_value box child))) result old new) (sym is)
      (record {
        inquires = held.inquires;
        leaves = λ ok. let left = held.leaves ok in record { number_is = left.number_is; tree_is = left.tree_is; asked_is = left.asked_is; stands = (left.operator, left.input) };
      })

-- during ask a + 1 of an operator: each ask of its input that was made gave a row, its core stands at these rows, and as many of them
-- were given as there were asks before
pub record DropsTurn (catalogue : CatalogDef) (query : Query) (number : ℕ) (child : PlanTree) (a : ℕ) (old : ScorerState) (head : DistinctNode) (on : JoinSide → Option PlanNode) (now : ScorerState) : Type 0 where
  pub made : List SideAsk
  pub turn : Turn catalogue query number (Distinct child) a old head.tally on made now
  pub core : DistinctStands (outputs_in (world_of catalogue old.answer query) number child) (asked Left made) head.core
  pub counted : length (firsts (take (asked Left made) (outputs_in (world_of catalogue old.answer query) number child))) ≡ a

-- at its start
pub drops-start : (catalogue : CatalogDef) (query : Query) (head : DistinctNode) (child : PlanNode) (old : ScorerState)
    → CanAsk (world_of catalogue old.answer query) (number_in child) (Distinct (tree_in child)) head.tally.asked
    → DropsStand (world_of catalogue old.answer query) (number_in child) head (tree_in child) (asked_in child)
    → Stands (world_of catalogue old.answer query) (number_in child) child
    → (tally : Tally) → tally ≡ record head.tally { asked = head.tally.asked + 1 }
    → DropsTurn catalogue query (number_in child) (tree_in child) head.tally.asked old (record head { tally = tally }) (one_child child) old
drops-start catalogue query head child old can stands below tally asks =
    let w = world_of catalogue old.answer query in
    let number = number_in child in
    let t = tree_in child in
    let a = head.tally.asked in
    let first = taken w number t can.formed (can.bounded number can.number_is) can.part can.weights a can.more in
    record {
      made = child_asks w number (Distinct t) a;
      turn = turn-start catalogue query number (Distinct t) old head.tally (one_child child) can
          (on-both (λ side. IfSome (one_child child side) (Below w number t (asked_of w number (Distinct t) a side))) (record { tree_is = refl; asked_is = stands.asked; stands = below }) tt)
          (ap (λ (n : DistinctNode). n.tally.gave) stands.keeps) tally asks;
      core = record { within = first.inside; state = ap (λ (n : DistinctNode). n.core) stands.keeps };
      counted = first.count;
    }

module _ {catalogue : CatalogDef} {query : Query} {number : ℕ} {child : PlanTree} {a : ℕ} {old : ScorerState} {head : DistinctNode} {on : JoinSide → Option PlanNode} {now : ScorerState}
    (during : DropsTurn catalogue query number child a old head on now) (can : CanAsk (world_of catalogue old.answer query) number (Distinct child) a) where
  abbrev w : World
  w = world_of catalogue old.answer query

  abbrev rows : List OutputRow
  rows = outputs_in (world_of catalogue old.answer query) number child

  abbrev asks : ℕ
  asks = asked Left during.made

  pub drops-next : slice_get (child_asks w number (Distinct child) (suc a)) (length during.made) ≡ Some (next_ask Left during.made)
  drops-next =
      let within = during.core.within in
      let size = outputs-length w number child in
      let inside : asks ≤ length (list_of w number child) = omega arith in
      turn-alone during.turn can (distinct-child_asks w number child (suc a)) (asks-less w number child can.formed (can.bounded number can.number_is) can.part can.weights asks a inside during.counted)

  module _ {n : PlanNode} (is : on Left ≡ Some n) (got : Option RankRow) (middle : ScorerState)
      (answered : Inquires Memory (next_row (world_of catalogue now.answer query) (number_in n) (tree_in n) (asked_in n)) (Ok got) now middle) where
    there : slice_get (list_of w number child) asks ≡ got
    there = turn-there during.turn can Left is drops-next got middle answered

    -- behind the ask of its input
    behind : (tally : Tally) (next : PlanNode) → NodeAfter (world_of catalogue now.answer query) (number_in n) (tree_in n) (asked_in n) next → tally.asked ≡ head.tally.asked → tally.gave ≡ head.tally.gave
        → Turn catalogue query number (Distinct child) a old tally (changed Left next on) (one_more Left during.made) middle
    behind tally next after asked_same gave_same = turn-more during.turn can Left is drops-next got middle answered tally middle next after (AllAsked-none old.answer catalogue middle) asked_same gave_same

    module _ (row : RankRow) (is_row : got ≡ Some row) where
      output : slice_get rows asks ≡ Some (output_row w row)
      output = slice_get-map (output_row w) (list_of w number child) asks ∙ ap (option_map (output_row w)) (there ∙ is_row)

      -- it has the entries of the output columns
      pub drops-puts : CanPutOut catalogue query row
      drops-puts =
          let placed = row-placed catalogue old.answer query number child can.formed can.number_is (part-of catalogue query number child can.part.0) asks row (there ∙ is_row) in
          let mask : row.ids.mask ≡ all_entries (block_in query row.ids.block) = elim placed.place [
            | inl at ↦ at.1 ∙ can.part.1.all ∙ ap (λ k. all_entries (block_in query k)) (sym at.0)
            | inr all ↦ all
          ] in
          can-put_out catalogue query row can.formed mask placed.rows

      abbrev fed : Kept
      fed = record head.core { lists = with_list (values_for catalogue query row) head.core.lists }

      fed-is : DistinctStands rows (suc asks) (record head.core { lists = with_list (values_for catalogue query row) head.core.lists })
      fed-is = fed-stands rows asks head.core (output_row w row) during.core output

      -- the row is dropped
      pub drops-dropped : (after : DistinctNode) (given : Option RankRow) → given ≡ given_for row (values_for catalogue query row) head.core.lists
          → after ≡ record head {
            core = record head.core { lists = with_list (values_for catalogue query row) head.core.lists };
            tally = record head.tally { gave = if is_some given then head.tally.gave + 1 else head.tally.gave };
          } → (next : PlanNode) → NodeAfter (world_of catalogue now.answer query) (number_in n) (tree_in n) (asked_in n) next → is_some given ≡ false
          → DropsTurn catalogue query number child a old after (changed Left next on) middle
      drops-dropped after given is_given after_is next left none =
          let one = one-more Left during.made in
          let old_values = old-values rows asks head.core (output_row w row) during.core (sym is_given ∙ not-some given none) in
          record {
            made = one_more Left during.made;
            turn = behind after.tally next left (ap (λ (h : DistinctNode). h.tally.asked) after_is)
                (ap (λ (h : DistinctNode). h.tally.gave) after_is ∙ ap (λ b. if b then head.tally.gave + 1 else head.tally.gave) none);
            core = subst (λ (h : DistinctNode). DistinctStands rows (asked Left (one_more Left during.made)) h.core) (sym after_is) (subst (λ k. DistinctStands rows k fed) (sym one) fed-is);
            counted = ap (λ k. length (firsts (take k rows))) one ∙ firsts-same rows asks (output_row w row) output old_values ∙ during.counted;
          }
        where
          not-some : (r : Option RankRow) → is_some r ≡ false → r ≡ None
          not-some None e = refl
          not-some (Some r) e = absurd (cc)

-- a row that the core gives is the one that it was fed
fed-row : (b : Bool) (row given : RankRow) → Some given ≡ (if b then None else Some row) → given ≡ row
fed-row b row given is = (elim b as (λ b. Some given ≡ (if b then None else Some row) → given ≡ row) [
  | true ↦ λ e. absurd (cc)
  | false ↦ λ e. cc
]) is

module _ {catalogue : CatalogDef} {query : Query} {number : ℕ} {child : PlanTree} {a : ℕ} {old : ScorerState} {head : DistinctNode} {input : PlanNode} {now : ScorerState}
    (during : DropsTurn catalogue query number child a old head (one_child input) now) (can : CanAsk (world_of catalogue old.answer query) number (Distinct child) a)
    (got : Option RankRow) (middle : ScorerState) (answered : Inquires Memory (next_row (world_of catalogue now.answer query) (number_in input) (tree_in input) (asked_in input)) (Ok got) now middle)
    (next : PlanNode) (kept : NodeAfter (world_of catalogue now.answer query) (number_in input) (tree_in input) (asked_in input) next) where
  abbrev whole : World
  whole = world_of catalogue old.answer query

  abbrev operator : PlanTree
  operator = Distinct child

  abbrev all_rows : List OutputRow
  all_rows = outputs_in (world_of catalogue old.answer query) number child

  abbrev done : ℕ
  done = asked Left during.made

  -- what is left once a row was given, or none was there: these were all asks that the answer takes
  left-then : (after : DistinctNode) (core : Kept) (row : Option RankRow) → suc done ≡ asked_of whole number operator (suc a) Left
      → row ≡ slice_get (list_of whole number operator) a
      → core ≡ record { lists = lists_of (take (suc done) all_rows); spent = false }
      → after.core ≡ core → after.tally.asked ≡ head.tally.asked → ◌≡◌ {A = ℕ} after.tally.gave (if is_some row then head.tally.gave + 1 else head.tally.gave)
      → Asked whole number operator a (DistinctAfter whole number operator a after next) (Ok row) old middle
  left-then after core row exact value core_is after_is asked_is gave_is =
      let now_turn : Turn catalogue query number operator a old head.tally (one_child next) (one_more Left during.made) middle = behind during can refl got middle answered head.tally next kept refl refl in
      let count : asked Left (one_more Left during.made) ≡ asked_of whole number operator (suc a) Left = one-more Left during.made ∙ exact in
      let all = turn-all now_turn can (distinct-child_asks whole number child (suc a)) count in
      let is_asked : after.tally.asked ≡ suc a = asked_is ∙ during.turn.asked_is in
      let gave : after.tally.gave ≡ gave_of whole number operator (suc a) = gave_is ∙ turn-gave now_turn can all row value in
      let last : after.core ≡ record { lists = lists_of (take (asked_of whole number operator (suc a) Left) all_rows); spent = false } =
      after_is ∙ core_is ∙ ap (λ k. record { lists = lists_of (take k all_rows); spent = false }) exact in
      let keeps : after ≡ distinct_node_after whole number child (suc a) = λ i. record { core = last i; tally = record { asked = is_asked i; gave = gave i } } in
      let below : Below whole number child (asked Left (one_more Left during.made)) next = now_turn.below Left in
      record {
        inquires = turn-inquires now_turn can all row value;
        leaves = λ ok. record {
          number_is = node-number whole number next below.stands;
          tree_is = ap Distinct below.tree_is;
          asked_is = is_asked;
          operator = subst (λ t. DropsStand whole number after t (asked_in next)) (sym below.tree_is) (record {
            keeps = keeps ∙ ap (distinct_node_after whole number child) (sym is_asked);
            asked = below.asked_is ∙ count ∙ ap (λ k. asked_of whole number operator k Left) (sym is_asked);
          });
          input = below.stands;
        };
      }

  -- the row is given
  pub drops-given : (row : RankRow) → got ≡ Some row → (after : DistinctNode) (given : Option RankRow) → given ≡ given_for row (values_for catalogue query row) head.core.lists
      → after ≡ record head {
        core = record head.core { lists = with_list (values_for catalogue query row) head.core.lists };
        tally = record head.tally { gave = if is_some given then head.tally.gave + 1 else head.tally.gave };
      } → is_some given ≡ true
      → Asked whole number operator a (DistinctAfter whole number operator a after next) (Ok given) old middle
  drops-given row is_row after given is_given after_is some =
      let given_row : given ≡ Some row = given-is given is_given some in
      let there = output during can refl got middle answered row is_row in
      let new_values = new-values all_rows done head.core (output_row whole row) during.core (sym is_given ∙ given_row) in
      let key = output_key whole (terms child) in
      let exact : suc done ≡ asked_of whole number operator (suc a) Left =
      given-asks key_cmp key_cmp-total key all_rows (outputs-climb whole number child) done (output_row whole row) there new_values
      ∙ ap (λ count. asks_for key_cmp key all_rows (bar_after key (firsts all_rows) count)) during.counted
      ∙ sym (distinct-asks whole number child can.formed (can.bounded number can.number_is) can.part can.weights a) in
      let value : Some row ≡ slice_get (list_of whole number operator) a =
      row-at whole number child can.formed (can.bounded number can.number_is) can.part can.weights a row
      (ap (slice_get (firsts all_rows)) (sym during.counted) ∙ first-next all_rows done (output_row whole row) there new_values) in
      left-then after (record head.core { lists = with_list (values_for catalogue query row) head.core.lists }) given exact (given_row ∙ value)
      (fed-is during can refl got middle answered row is_row).state
      (ap (λ (h : DistinctNode). h.core) after_is) (ap (λ (h : DistinctNode). h.tally.asked) after_is) (ap (λ (h : DistinctNode). h.tally.gave) after_is)
    where
      given-is : (r : Option RankRow) → r ≡ given_for row (values_for catalogue query row) head.core.lists → is_some r ≡ true → r ≡ Some row
      given-is None e some = absurd (cc)
      given-is (Some r) e some = ap Some (fed-row (has_list (values_for catalogue query row) head.core.lists) row r e)

  -- the input has ended, and so has the operator
  pub drops-over : got ≡ None
      → Asked whole number operator a (DistinctAfter whole number operator a head next) (Ok None) old middle
  drops-over none =
      let key = output_key whole (terms child) in
      let past = slice_get-none (list_of whole number child) done (there during can refl got middle answered ∙ none) in
      let size = outputs-length whole number child in
      let within = during.core.within in
      let now_all = take_all done all_rows (omega arith) in
      let then_all = take_all (suc done) all_rows (omega arith) in
      let all : length (firsts all_rows) ≡ a = sym (ap (λ (xs : List OutputRow). length (firsts xs)) now_all) ∙ during.counted in
      let rest = distinct-length whole number child can.formed (can.bounded number can.number_is) can.part can.weights in
      let exact : suc done ≡ asked_of whole number operator (suc a) Left =
      (let count : suc done ≡ suc (length all_rows) = omega arith in count)
      ∙ sym (distinct-asks whole number child can.formed (can.bounded number can.number_is) can.part can.weights a
      ∙ ap (λ count. asks_for key_cmp key all_rows (bar_after key (firsts all_rows) count)) (sym all) ∙ all-asks key all_rows) in
      left-then head head.core None exact (sym (slice_get_past (list_of whole number operator) a (omega arith)))
      (during.core.state ∙ ap (λ (xs : List OutputRow). record { lists = lists_of xs; spent = false }) (now_all ∙ sym then_all)) refl refl refl
