-- One ask of a rank operator: where its core stands between two asks of its input, what each row does, and what is left behind the ask.
use Rattle.std.proofs.Common.{ℕ, suc, ◌≡◌, ◌∙◌, ◌+◌, ◌-◌, true, List, [], ◌∷◌, Box, Global, length, min, refl, sym, ap, ap₂, subst, arith}
use Rattle.std.specs.Box.{with_value}
use Rattle.std.specs.Prelude.{IfSome, Option, Some, None, Result, Ok, Err, if◌then◌else◌, is_some, slice_get}
use Rattle.std.proofs.lemmas.Option.{slice_get_within}
use Rattle.rs_order.specs.Schedule.{JoinSide, Left, SideAsk, asked}
use Rattle.rs_expr.specs.InOrder.{Inquires}
use Rattle.rs_expr.specs.Scoring.{ScorerState}
use Rattle.rs_rank.specs.declared.ask.Ask.TheVariants.{Need}
use Rattle.rs_rank.specs.declared.row.RankRow.{RankRow}
use Rattle.rs_mu.specs.Mu.{CanFeed, ask_of, fed, left_for, taken_for}
use Rattle.rs_mu.specs.Stands.{Evaluation, Stands as MuStands, state_after}
use Rattle.rs_mu.proofs.StandFacts.{Tells, asks-grow, stands-tells}
use Rattle.rs_mu.proofs.StepFacts.{ended-stands, fed-can, fed-stands}
use Rattle.rs_catalog.specs.Catalog.{CatalogDef}
use Rattle.rs_query.specs.Answers.{worth_of}
use Rattle.rs_query.specs.Blocks.{block_in}
use Rattle.rs_query.specs.Questions.{Question, asking, question_of}
use Rattle.rs_query.specs.declared.query.Query.{Query}
use Rattle.rs_query.specs.declared.term.Term.{Term}
use Rattle.rs_query.proofs.QuestionFacts.{AllAsked, AllAsked-none, Gave-ok}
use Rattle.rs_plan.specs.Asks.{child_asks}
use Rattle.rs_plan.specs.Calls.{own_question}
use Rattle.rs_plan.specs.Counts.{asked_of, gave_of}
use Rattle.rs_plan.specs.Lists.{World, list_of}
use Rattle.rs_plan.specs.Trees.{Rank, PlanTree}
use Rattle.rs_exec.specs.Asked.{Asked, CanAsk, NodeAfter, RankAfter}
use Rattle.rs_exec.specs.Asking.{exec_faults, next_row, world_of}
use Rattle.rs_exec.specs.Feeding.{CanTake, feeding, with_row}
use Rattle.rs_exec.specs.Nodes.{asked_in, number_in, tree_in}
use Rattle.rs_exec.specs.Standing.{HeadStands, Stands, evaluation_for, rank_node_after}
use Rattle.rs_exec.specs.declared.fault.ExecFault.{ExecFault}
use Rattle.rs_exec.specs.declared.fault.ExecFault.TheVariants.{Memory}
use Rattle.rs_exec.specs.declared.node.PlanNode.{PlanNode}
use Rattle.rs_exec.specs.declared.node.PlanNode.TheViews as view
use Rattle.rs_exec.specs.declared.rank.RankNode.{RankNode}
use Rattle.rs_exec.specs.declared.tally.Tally.{Tally}
use Rattle.rs_exec.proofs.BlockFacts.{block-formed, slice_get-none}
use Rattle.rs_exec.proofs.PlacesFacts.{TermFor}
use Rattle.rs_exec.proofs.RankFacts.{rank-asks, rank-child_asks, rank-input}
use Rattle.rs_exec.proofs.SideFacts.{on-both}
use Rattle.rs_exec.proofs.StepFacts.{over-asks, over-state, over-value, own-at, row-has, row-is, same-length, worth-at}
use Rattle.rs_exec.proofs.TurnFacts.{Below, Turn, changed, next_ask, node-number, one-more, one_child, one_more, turn-all, turn-alone, turn-gave, turn-inquires, turn-more, turn-own_failed, turn-start, turn-there}

-- an operator and its input, held apart, as a node
module _ (w : World) (self : PlanNode) (head after : RankNode) (box : Box PlanNode Global) (middle child : PlanNode) (result : Result (Option RankRow) ExecFault) (old new : ScorerState) where
  pub rank-asked : self ≡ view.Rank head box → middle ≡ box.value
      → Asked w (number_in middle) (Rank head.term (tree_in middle)) head.tally.asked (RankAfter w (number_in middle) (Rank head.term (tree_in middle)) head.tally.asked after child) result old new
      → Asked w (number_in self) (tree_in self) (asked_in self) (NodeAfter w (number_in self) (tree_in self) (asked_in self) (view.Rank after (with_value box child))) result old new
  rank-asked is value asked =
      let held = subst (λ (n : PlanNode). Asked w (number_in n) (Rank head.term (tree_in n)) head.tally.asked (RankAfter w (number_in n) (Rank head.term (tree_in n)) head.tally.asked after child) result old new) value asked in
      subst (λ (n : PlanNode). Asked w (number_in n) (tree_in n) (asked_in n) (NodeAfter w (number_in n) (tree_in n) (asked_in n) (view.Rank after (with_value box child))) result old new) (sym is)
      (record {
        inquires = held.inquires;
        leaves = λ ok. let left = held.leaves ok in record { number_is = left.number_is; tree_is = left.tree_is; asked_is = left.asked_is; stands = (left.operator, left.input) };
      })

-- during ask a + 1 of an operator: its core stands at the asks that were made, and at as many answers as asks before, and it made a
-- call for each row that came
pub record RankTurn (catalogue : CatalogDef) (query : Query) (number term : ℕ) (child : PlanTree) (a : ℕ) (old : ScorerState) (head : RankNode) (on : JoinSide → Option PlanNode) (now : ScorerState) : Type 0 where
  pub made : List SideAsk
  pub turn : Turn catalogue query number (Rank term child) a old head.tally on made now
  pub core : MuStands (evaluation_for (world_of catalogue old.answer query) term child) (list_of (world_of catalogue old.answer query) number child) (asked Left made) a head.core
  pub term_is : head.term ≡ term
  pub calls_are : head.calls ≡ min (asked Left made) (length (list_of (world_of catalogue old.answer query) number child))

-- at its start
pub rank-start : (catalogue : CatalogDef) (query : Query) (head : RankNode) (child : PlanNode) (old : ScorerState)
    → CanAsk (world_of catalogue old.answer query) (number_in child) (Rank head.term (tree_in child)) head.tally.asked
    → HeadStands (world_of catalogue old.answer query) (number_in child) head (tree_in child) (asked_in child)
    → Stands (world_of catalogue old.answer query) (number_in child) child
    → (tally : Tally) → tally ≡ record head.tally { asked = head.tally.asked + 1 }
    → RankTurn catalogue query (number_in child) head.term (tree_in child) head.tally.asked old (record head { tally = tally }) (one_child child) old
rank-start catalogue query head child old can stands below tally asks =
    let w = world_of catalogue old.answer query in
    let number = number_in child in
    let t = tree_in child in
    let tree = Rank head.term t in
    let a = head.tally.asked in
    let e = evaluation_for w head.term t in
    let input = rank-input w number head.term t can.formed can.part can.weights can.number_is can.bounded in
    let exact = rank-asks w number head.term t can.formed can.part can.weights a in
    let grow = asks-grow e (list_of w number t) input a (suc a) (omega arith) in
    let size = same-length catalogue query number head.term t a old can in
    let more = can.more in
    let all : min a (length (list_of w number tree)) ≡ a = omega arith in
    record {
      made = child_asks w number tree a;
      turn = turn-start catalogue query number tree old head.tally (one_child child) can
          (on-both (λ side. IfSome (one_child child side) (Below w number t (asked_of w number tree a side))) (record { tree_is = refl; asked_is = stands.asked; stands = below }) tt)
          (ap (λ (n : RankNode). n.tally.gave) stands.keeps) tally asks;
      core = record {
        input = input;
        state = ap (λ (n : RankNode). n.core) stands.keeps ∙ ap (state_after e (list_of w number t) (asked_of w number tree a Left)) all;
        least = omega arith;
        most = omega arith;
        within = omega arith;
      };
      term_is = refl;
      calls_are = ap (λ (n : RankNode). n.calls) stands.keeps;
    }

module _ {catalogue : CatalogDef} {query : Query} {number term : ℕ} {child : PlanTree} {a : ℕ} {old : ScorerState} {head : RankNode} {on : JoinSide → Option PlanNode} {now : ScorerState}
    (during : RankTurn catalogue query number term child a old head on now) (can : CanAsk (world_of catalogue old.answer query) number (Rank term child) a) where
  abbrev w : World
  w = world_of catalogue old.answer query

  abbrev tree : PlanTree
  tree = Rank term child

  abbrev e : Evaluation
  e = evaluation_for (world_of catalogue old.answer query) term child

  abbrev rows : List RankRow
  rows = list_of (world_of catalogue old.answer query) number child

  abbrev asks : ℕ
  asks = asked Left during.made

  tells : Tells e rows asks a (ask_of head.core)
  tells = stands-tells e rows asks a head.core during.core

  pub rank-next : ask_of head.core ≡ Need
      → slice_get (child_asks w number tree (suc a)) (length during.made) ≡ Some (next_ask Left during.made)
  rank-next need =
      let less = subst (Tells e rows asks a) need tells in
      let exact = rank-asks w number term child can.formed can.part can.weights (suc a) in
      turn-alone during.turn can (rank-child_asks w number term child (suc a)) (omega arith)

  module _ {n : PlanNode} (is : on Left ≡ Some n) (need : ask_of head.core ≡ Need) (got : Option RankRow) (middle : ScorerState)
      (answered : Inquires Memory (next_row (world_of catalogue now.answer query) (number_in n) (tree_in n) (asked_in n)) (Ok got) now middle) where
    there : slice_get rows asks ≡ got
    there = turn-there during.turn can Left is (rank-next need) got middle answered

    same-answer : middle.answer ≡ old.answer
    same-answer = answered.keeps.answer ∙ during.turn.during.all_asked.keeps.answer

    module _ (row : RankRow) (is_row : got ≡ Some row) where
      -- the term of its block that has the operator's number, and the question of it
      has : TermFor catalogue query term row.ids
      has = row-has catalogue query number term child a old can asks row (there ∙ is_row)

      abbrev worth : ℕ
      worth = worth_of old.answer catalogue (block_in query row.ids.block) row.ids.rows has.term

      abbrev question : Question
      question = question_of row.ids.block (block_in query row.ids.block) row.ids.rows has.term

      own-is : own_question w term (slice_get rows asks) ≡ question ∷ []
      own-is = ap (own_question w term) (there ∙ is_row) ∙ own-at catalogue query number term child a old can row has.term has.there

      named : slice_get (block_in query row.ids.block).terms (head.term - 1) ≡ Some has.term
      named = ap (λ k. slice_get (block_in query row.ids.block).terms (k - 1)) during.term_is ∙ has.there

      pub rank-takes : CanTake catalogue middle.answer query row head
      rank-takes =
          let placed = row-is catalogue query number term child a old can asks row (there ∙ is_row) in
          let calls = during.calls_are in
          let few = can.few in
          let size = same-length catalogue query number term child a old can in
          let term_is = during.term_is in
          let some = can.part.1.is_term.some in
          subst (λ answer. CanTake catalogue answer query row head) (sym same-answer) (record {
            block = block-formed catalogue query row.ids.block can.formed;
            least = omega arith;
            term = has.term;
            is_term = named;
            inside = has.inside;
            rows = placed.rows;
            few = omega arith;
            feeds = subst (λ k. CanFeed row k head.core) (worth-at catalogue query number term child a old can row has.term has.there)
                (fed-can e rows asks a head.core row during.core need (there ∙ is_row));
          })

      -- it was taken
      pub rank-fed : (taken : RankNode) (new : ScorerState) (next : PlanNode)
          → ((t : Term) → slice_get (block_in query row.ids.block).terms (head.term - 1) ≡ Some t → Inquires Memory (feeding middle.answer catalogue query row t head) (Ok taken) middle new)
          → NodeAfter (world_of catalogue now.answer query) (number_in n) (tree_in n) (asked_in n) next
          → RankTurn catalogue query number term child a old taken (changed Left next on) new
      rank-fed taken new next taking after =
          let took = Gave-ok exec_faults Memory old.answer catalogue {A = RankNode} (question ∷ []) (with_row row worth head) taken middle new
          (subst (λ answer. Inquires Memory (feeding answer catalogue query row has.term head) (Ok taken) middle new) same-answer (taking has.term named)) in
          let inside = slice_get_within rows asks row (there ∙ is_row) in
          let calls = during.calls_are in
          let one = one-more Left during.made in
          let made : head.calls + 1 ≡ min (asked Left (one_more Left during.made)) (length rows) = omega arith in
          record {
            made = one_more Left during.made;
            turn = turn-more during.turn can Left is (rank-next need) got middle answered taken.tally new next after
                (subst (λ (qs : List Question). AllAsked old.answer catalogue qs middle new) (sym own-is) took.asked)
                (ap (λ (h : RankNode). h.tally.asked) took.is_value) (ap (λ (h : RankNode). h.tally.gave) took.is_value);
            core = subst (λ k. MuStands e rows k a taken.core) (sym one)
                (subst (MuStands e rows (suc asks) a) (ap (λ k. fed row k head.core) (worth-at catalogue query number term child a old can row has.term has.there) ∙ sym (ap (λ (h : RankNode). h.core) took.is_value))
                (fed-stands e rows asks a head.core row during.core need (there ∙ is_row)));
            term_is = ap (λ (h : RankNode). h.term) took.is_value ∙ during.term_is;
            calls_are = ap (λ (h : RankNode). h.calls) took.is_value ∙ made;
          }

      -- the operator's own question had a bad answer, or there was no memory
      pub rank-own_failed : (After : Type 0) (fault : ExecFault) (result : Result (Option RankRow) ExecFault) (new : ScorerState) → result ≡ Err fault
          → ((t : Term) → slice_get (block_in query row.ids.block).terms (head.term - 1) ≡ Some t → Inquires Memory (feeding middle.answer catalogue query row t head) (Err fault) middle new)
          → Asked w number tree a After result old new
      rank-own_failed After fault result new is_fault taking =
          turn-own_failed during.turn can Left is (rank-next need) got middle answered {B = RankNode} (with_row row worth head) After fault result new is_fault
          (subst (λ (qs : List Question). Inquires Memory (asking exec_faults old.answer catalogue qs (with_row row worth head)) (Err fault) middle new) (sym own-is)
          (subst (λ answer. Inquires Memory (feeding answer catalogue query row has.term head) (Err fault) middle new) same-answer (taking has.term named)))

    -- its end is told
    pub rank-ended : got ≡ None → (ended : RankNode) (next : PlanNode) → ended ≡ record head { core = record head.core { ended = true } }
        → NodeAfter (world_of catalogue now.answer query) (number_in n) (tree_in n) (asked_in n) next
        → RankTurn catalogue query number term child a old ended (changed Left next on) middle
    rank-ended none ended next ended_is after =
        let past = slice_get-none rows asks (there ∙ none) in
        let calls = during.calls_are in
        let one = one-more Left during.made in
        let made : head.calls ≡ min (asked Left (one_more Left during.made)) (length rows) = omega arith in
        let core : MuStands e rows (asked Left (one_more Left during.made)) a (record head.core { ended = true }) =
        subst (λ k. MuStands e rows k a (record head.core { ended = true })) (sym one) (ended-stands e rows asks a head.core during.core need (there ∙ none)) in
        record {
          made = one_more Left during.made;
          turn = turn-more during.turn can Left is (rank-next need) got middle answered ended.tally middle next after
              (subst (λ (r : Option RankRow). AllAsked old.answer catalogue (own_question w term r) middle middle) (sym (there ∙ none)) (AllAsked-none old.answer catalogue middle))
              (ap (λ (h : RankNode). h.tally.asked) ended_is) (ap (λ (h : RankNode). h.tally.gave) ended_is);
          core = subst (λ (h : RankNode). MuStands e rows (asked Left (one_more Left during.made)) a h.core) (sym ended_is) core;
          term_is = ap (λ (h : RankNode). h.term) ended_is ∙ during.term_is;
          calls_are = ap (λ (h : RankNode). h.calls) ended_is ∙ made;
        }

-- the operator gives the next row of its list, or that there is none
pub rank-given : {catalogue : CatalogDef} {query : Query} {number term : ℕ} {child : PlanTree} {a : ℕ} {old : ScorerState} {head : RankNode} {input : PlanNode} {now : ScorerState}
    → RankTurn catalogue query number term child a old head (one_child input) now → CanAsk (world_of catalogue old.answer query) number (Rank term child) a
    → (after : RankNode) (row : Option RankRow) → (ask_of head.core ≡ Need → ⊥) → row ≡ taken_for (ask_of head.core) head.core
    → after ≡ record head { core = left_for (ask_of head.core) head.core; tally = record head.tally { gave = if is_some row then head.tally.gave + 1 else head.tally.gave } }
    → Asked (world_of catalogue old.answer query) number (Rank term child) a (RankAfter (world_of catalogue old.answer query) number (Rank term child) a after input) (Ok row) old now
rank-given {catalogue} {query} {number} {term} {child} {a} {old} {head} {input} {now} during can after row over is after_is =
    let w = world_of catalogue old.answer query in
    let tree = Rank term child in
    let e = evaluation_for w term child in
    let rows = list_of w number child in
    let asks = asked Left during.made in
    let tells = stands-tells e rows asks a head.core during.core in
    let exact : asks ≡ asked_of w number tree (suc a) Left =
    over-asks catalogue query number term child a old can asks (ask_of head.core) tells over ∙ sym (rank-asks w number term child can.formed can.part can.weights (suc a)) in
    let all = turn-all during.turn can (rank-child_asks w number term child (suc a)) exact in
    let value = is ∙ over-value catalogue query number term child a old can head.core asks during.core (ask_of head.core) refl tells over in
    let gave : after.tally.gave ≡ gave_of w number tree (suc a) = ap (λ (n : RankNode). n.tally.gave) after_is ∙ turn-gave during.turn can all row value in
    let is_asked : after.tally.asked ≡ suc a = ap (λ (n : RankNode). n.tally.asked) after_is ∙ during.turn.asked_is in
    let is_term : after.term ≡ term = ap (λ (n : RankNode). n.term) after_is ∙ during.term_is in
    let core : after.core ≡ state_after e rows (asked_of w number tree (suc a) Left) (gave_of w number tree (suc a)) =
    ap (λ (n : RankNode). n.core) after_is ∙ over-state catalogue query number term child a old can head.core asks during.core (ask_of head.core) refl tells over
    ∙ ap (λ k. state_after e rows k (gave_of w number tree (suc a))) exact in
    let calls : after.calls ≡ min (asked_of w number tree (suc a) Left) (length rows) = ap (λ (n : RankNode). n.calls) after_is ∙ during.calls_are ∙ ap (λ k. min k (length rows)) exact in
    let keeps : after ≡ rank_node_after w number term child (suc a) =
    λ i. record { core = core i; term = is_term i; args = tt; tally = record { asked = is_asked i; gave = gave i }; calls = calls i } in
    let below : Below w number child (asked Left during.made) input = during.turn.below Left in
    record {
      inquires = turn-inquires during.turn can all row value;
      leaves = λ ok. record {
        number_is = node-number w number input below.stands;
        tree_is = ap₂ Rank is_term below.tree_is;
        asked_is = is_asked;
        operator = subst (λ t. HeadStands w number after t (asked_in input)) (sym below.tree_is) (record {
          keeps = keeps ∙ ap₂ (λ t k. rank_node_after w number t child k) (sym is_term) (sym is_asked);
          asked = below.asked_is ∙ exact ∙ ap₂ (λ t k. asked_of w number (Rank t child) k Left) (sym is_term) (sym is_asked);
        });
        input = below.stands;
      };
    }
