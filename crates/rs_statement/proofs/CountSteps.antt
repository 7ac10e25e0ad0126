-- The counts of the nodes of a plan, one after another.
use Rattle.std.proofs.Common.{◌≡◌, ◌∙◌, ◌+◌, ◌<◌, ℕ, suc, length, refl, ap, ap₂, arith}
use Rattle.std.specs.Prelude.{Some, slice_get}
use Rattle.std.proofs.lemmas.List.{length-append}
use Rattle.std.proofs.lemmas.Option.{slice_get_within}
use Rattle.rs_expr.specs.Scoring.{Answering}
use Rattle.rs_catalog.specs.Catalog.{CatalogDef}
use Rattle.rs_query.specs.declared.query.Query.{Query}
use Rattle.rs_plan.specs.Counts.{asked_of, counts, counts_of_plan}
use Rattle.rs_plan.specs.declared.counts.Counts.{Counts}
use Rattle.rs_order.specs.Schedule.{Left, Right}
use Rattle.rs_plan.specs.Lists.{World}
use Rattle.rs_plan.specs.Trees.{Distinct, JoinOperator, Rank, RankScan, SeqScan, SetOperator, PlanTree}
use Rattle.rs_enum.specs.Texts.{nodes_of}
use Rattle.rs_enum.proofs.TextFacts.{plan-nodes}
use Rattle.rs_exec.specs.Asking.{world_of}
use Rattle.rs_exec.specs.Cursors.{CursorState, StandsFor, asks_of, plan_of}
use Rattle.rs_statement.specs.Parts.Asks.{IsAt}

-- each node has counts
pub length-counts : (w : World) (number : ℕ) (tree : PlanTree) (n : ℕ) → length (counts w number tree n) ≡ nodes_of tree
length-counts w number (SeqScan entry) n = refl
length-counts w number (RankScan entry term index) n = refl
length-counts w number (Rank term child) n = ap suc (length-counts w number child (asked_of w number (Rank term child) n Left))
length-counts w number (Distinct child) n = ap suc (length-counts w number child (asked_of w number (Distinct child) n Left))
length-counts w number (JoinOperator kind left right) n =
    ap suc (length-append (counts w number left (asked_of w number (JoinOperator kind left right) n Left)) (counts w number right (asked_of w number (JoinOperator kind left right) n Right))
    ∙ ap₂ (λ a b. a + b) (length-counts w number left (asked_of w number (JoinOperator kind left right) n Left)) (length-counts w number right (asked_of w number (JoinOperator kind left right) n Right)))
length-counts w number (SetOperator left right) n =
    ap suc (length-append (counts w 1 left (asked_of w number (SetOperator left right) n Left)) (counts w 2 right (asked_of w number (SetOperator left right) n Right))
    ∙ ap₂ (λ a b. a + b) (length-counts w 1 left (asked_of w number (SetOperator left right) n Left)) (length-counts w 2 right (asked_of w number (SetOperator left right) n Right)))

-- no plan has more nodes than a byte can count
pub few-counts : (catalogue : CatalogDef) (answer : Answering) (cursor : CursorState) (node : ℕ) (own : Counts) → StandsFor catalogue answer cursor
    → slice_get (counts_of_plan (world_of catalogue answer cursor.query) (plan_of cursor) (asks_of cursor)) node ≡ Some own → node < 255
few-counts catalogue answer cursor node own stands is =
    let w = world_of catalogue answer cursor.query in
    let within = slice_get_within (counts_of_plan w (plan_of cursor) (asks_of cursor)) node own is in
    let all = length-counts w 1 (plan_of cursor) (asks_of cursor) in
    let few = plan-nodes catalogue cursor.query stands.query (plan_of cursor) stands.plan in
    omega arith

-- the counts of a cursor of this query and plan that was asked this many times
pub counts-at : (catalogue : CatalogDef) (answer : Answering) (query : Query) (tree : PlanTree) (n : ℕ) (cursor : CursorState) → IsAt query tree n cursor
    → counts_of_plan (world_of catalogue answer cursor.query) (plan_of cursor) (asks_of cursor) ≡ counts_of_plan (world_of catalogue answer query) tree n
counts-at catalogue answer query tree n cursor at =
    let w = world_of catalogue answer query in
    ap (λ q. counts_of_plan (world_of catalogue answer q) (plan_of cursor) (asks_of cursor)) at.query_is
    ∙ ap (λ own. counts_of_plan w own (asks_of cursor)) at.plan_is ∙ ap (counts_of_plan w tree) at.asks_are
