-- A cursor over the nodes of its plan.
use Rattle.std.proofs.Common.{◌≡◌, ℕ, suc, ◌≤◌, false, [], length, refl, sym, ap, subst, append-nil, arith}
use Rattle.std.specs.Prelude.{Option, Ok, Err, nat_lt, option_map, slice_get}
use Rattle.std.specs.List.{AllByRecursion}
use Rattle.std.proofs.lemmas.Bool.{ltb-false, or_parts}
use Rattle.rs_expr.specs.InOrder.{Inquires}
use Rattle.rs_expr.specs.Scoring.{Answering, ScorerState}
use Rattle.rs_rank.specs.Weights.{IsWeights}
use Rattle.rs_rank.specs.declared.answer.Answer.{Answer}
use Rattle.rs_rank.specs.declared.row.RankRow.{RankRow}
use Rattle.rs_catalog.specs.Catalog.{CatalogDef}
use Rattle.rs_query.specs.Answers.{limit_of, weights_of}
use Rattle.rs_query.specs.Tables.{sizes_of}
use Rattle.rs_query.specs.WellFormed.{IsQuery}
use Rattle.rs_query.specs.declared.query.Query.{Query}
use Rattle.rs_query.proofs.QuestionFacts.{AllAsked-none, Gave-ok, Inquires-asked, Inquires-fault}
use Rattle.rs_plan.specs.Calls.{questions_of_ask}
use Rattle.rs_plan.specs.Lists.{World, list_of_plan}
use Rattle.rs_query.specs.Blocks.{block_in}
use Rattle.rs_plan.specs.Trees.{PlanTree}
use Rattle.rs_plan.specs.Plans.{IsPlan}
use Rattle.rs_order.specs.Climbing.{In}
use Rattle.rs_query.specs.Combinations.{combinations}
use Rattle.rs_query.specs.Tops.{IsBounded}
use Rattle.rs_query.proofs.BoundedFacts.{bounded-view}
use Rattle.rs_query.proofs.GrowthFacts.{IsSizes-all}
use Rattle.rs_exec.specs.Asked.{CanAsk, IsBoundedWorld, NodeAfter}
use Rattle.rs_exec.proofs.BlockFacts.{block-formed, first-block, sizes-are}
use Rattle.rs_exec.specs.Asking.{exec_faults, next_row, world_of}
use Rattle.rs_exec.specs.Cursors.{CursorState, StandsFor, answer_for, asks_of, is_limit, is_over, next_answer, plan_of}
use Rattle.rs_exec.specs.declared.fault.ExecFault.{ExecFault}
use Rattle.rs_exec.specs.declared.fault.ExecFault.TheVariants.{Memory}
use Rattle.rs_exec.specs.Indexes.{PlanIndexesHold}
use Rattle.rs_exec.specs.Nodes.{tree_in}
use Rattle.rs_exec.specs.Starting.{IsQueryStart}
use Rattle.rs_exec.specs.declared.node.PlanNode.{PlanNode}
use Rattle.rs_exec.proofs.PlacesFacts.{list-few-of, plan-part}
use Rattle.rs_exec.proofs.SetStartFacts.{query-asked, query-stands, query-tree}

-- a query that sees all rows of its tables sees no worth that passes a maximum
pub bounded-world : (catalogue : CatalogDef) (answer : Answering) (query : Query) → IsQuery catalogue query → IsBounded answer catalogue query → IsBoundedWorld (world_of catalogue answer query)
bounded-world catalogue answer query formed bounded number has mask rows term inside there within =
    let block = block_in query number in
    bounded-view answer catalogue query number (sizes_of catalogue block) mask rows term bounded (IsSizes-all catalogue block (block-formed catalogue query number formed))
    (subst (λ sizes. In rows (combinations catalogue block sizes mask)) (sizes-are catalogue answer query number has) inside) there within

-- a cursor whose nodes were made for a plan stands
pub cursor-start : (catalogue : CatalogDef) (answer : Answering) (query : Query) (tree : PlanTree) (root : PlanNode) → IsQuery catalogue query → IsPlan catalogue query tree
    → ((number : ℕ) → AllByRecursion (λ size. size ≤ 131072) (sizes_of catalogue (block_in query number))) → IsWeights (weights_of (block_in query 1))
    → PlanIndexesHold answer catalogue tree → IsBounded answer catalogue query → IsQueryStart catalogue query tree root
    → StandsFor catalogue answer (record { query = query; root = root; failed = false })
cursor-start catalogue answer query tree root formed plan tables weights indexes bounded is =
    let w = world_of catalogue answer query in
    let same = query-tree catalogue query tree root is in
    let unasked = query-asked catalogue query tree root is in
    record {
      sound = refl;
      query = formed;
      plan = subst (IsPlan catalogue query) (sym same) plan;
      indexes = subst (PlanIndexesHold answer catalogue) (sym same) indexes;
      bounded = bounded;
      tables = tables;
      weights = weights;
      nodes = query-stands catalogue answer query tree root formed (bounded-world catalogue answer query formed bounded) weights plan is;
      asks = omega arith;
    }

-- a cursor that stands and isn't over can ask its plan once more
pub cursor-can : (catalogue : CatalogDef) (answer : Answering) (cursor : CursorState) → StandsFor catalogue answer cursor
    → is_over (world_of catalogue answer cursor.query) (plan_of cursor) (asks_of cursor) ≡ false
    → CanAsk (world_of catalogue answer cursor.query) 1 (plan_of cursor) (asks_of cursor)
cursor-can catalogue answer cursor stands more =
    let w = world_of catalogue answer cursor.query in
    let tree = plan_of cursor in
    let part = plan-part catalogue cursor.query tree stands.plan in
    let number = first-block cursor.query in
    record {
      formed = stands.query;
      number_is = number;
      part = part;
      indexes = stands.indexes;
      bounded = bounded-world catalogue answer cursor.query stands.query stands.bounded;
      weights = stands.weights;
      more = ltb-false (length (list_of_plan w tree)) (asks_of cursor)
          (or_parts (is_limit (limit_of cursor.query) (asks_of cursor)) (nat_lt (length (list_of_plan w tree)) (asks_of cursor)) more).1;
      tables = stands.tables;
      few = list-few-of catalogue answer cursor.query 1 tree number stands.tables part;
    }

-- and stands after it
pub cursor-after : (catalogue : CatalogDef) (answer : Answering) (cursor : CursorState) (root : PlanNode) → StandsFor catalogue answer cursor
    → CanAsk (world_of catalogue answer cursor.query) 1 (plan_of cursor) (asks_of cursor)
    → NodeAfter (world_of catalogue answer cursor.query) 1 (plan_of cursor) (asks_of cursor) root
    → StandsFor catalogue answer (record cursor { root = root })
cursor-after catalogue answer cursor root stands can after =
    let w = world_of catalogue answer cursor.query in
    let more = can.more in
    let asked = after.asked_is in
    let size : length (list_of_plan w (tree_in root)) ≡ length (list_of_plan w (plan_of cursor)) = ap (λ tree. length (list_of_plan w tree)) after.tree_is in
    record {
      sound = stands.sound;
      query = stands.query;
      plan = subst (IsPlan catalogue cursor.query) (sym after.tree_is) stands.plan;
      indexes = subst (PlanIndexesHold answer catalogue) (sym after.tree_is) stands.indexes;
      bounded = stands.bounded;
      tables = stands.tables;
      weights = stands.weights;
      nodes = after.stands;
      asks = omega arith;
    }

-- an ask that gave a row, or met the end, is one of the cursor with the row's answer
pub next-given : (w : World) (tree : PlanTree) (n : ℕ) (row : Option RankRow) (old new : ScorerState) → w.answer ≡ old.answer
    → Inquires Memory (next_row w 1 tree n) (Ok row) old new → Inquires Memory (next_answer w tree n) (Ok (option_map (answer_for w) row)) old new
next-given w tree n row old new same inquires =
    let gave = Gave-ok exec_faults Memory w.answer w.catalogue {A = Option RankRow} (questions_of_ask w 1 tree (suc n)) (slice_get (list_of_plan w tree) n) row old new inquires in
    subst (λ r. Inquires Memory (next_answer w tree n) (Ok (option_map (answer_for w) r)) old new) (sym gave.is_value)
    (Inquires-asked exec_faults Memory w.answer w.catalogue {A = Option Answer} (questions_of_ask w 1 tree (suc n))
    (option_map (answer_for w) (slice_get (list_of_plan w tree) n)) old new gave.asked)

-- so is one that ended with a fault
pub next-fault : (w : World) (tree : PlanTree) (n : ℕ) (fault : ExecFault) (old new : ScorerState)
    → Inquires Memory (next_row w 1 tree n) (Err fault) old new → Inquires Memory (next_answer w tree n) (Err fault) old new
next-fault w tree n fault old new inquires =
    Inquires-fault exec_faults Memory w.answer w.catalogue {A = Option RankRow} {B = Option Answer} [] (questions_of_ask w 1 tree (suc n)) []
    (questions_of_ask w 1 tree (suc n)) (slice_get (list_of_plan w tree) n) (option_map (answer_for w) (slice_get (list_of_plan w tree) n)) fault old old new
    (sym (append-nil (questions_of_ask w 1 tree (suc n)))) (AllAsked-none w.answer w.catalogue old) inquires
