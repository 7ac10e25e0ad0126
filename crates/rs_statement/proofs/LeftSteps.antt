-- The calls of a cursor, one after another: what was done of all that was left at first. It holds of the steps as they are, and of them without their puts:
-- of what a map makes of them that goes through a step and the one behind it.
use Rattle.std.proofs.Common.{◌≡◌, ◌∙◌, ◌-◌, ◌<◌, suc, length, sym, ap, subst, arith}
use Rattle.std.specs.Prelude.{Result, Ok, Err}
use Rattle.rs_expr.specs.Scoring.{Answering}
use Rattle.rs_catalog.specs.Catalog.{CatalogDef}
use Rattle.rs_plan.specs.Lists.{list_of_plan}
use Rattle.rs_plan.specs.Trees.{PlanTree}
use Rattle.rs_query.specs.declared.query.Query.{Query}
use Rattle.rs_exec.specs.Asking.{world_of}
use Rattle.rs_exec.specs.Cursors.{CursorState, StandsFor, asks_after, asks_of, plan_of}
use Rattle.rs_statement.specs.declared.fault.Fault.{Fault}
use Rattle.rs_statement.specs.Parts.Asks.{IsAt, asks_left, call_step, left_of}
use Rattle.rs_statement.specs.Parts.Steps.{Stepped}
use Rattle.rs_statement.specs.Planned.{planned_step}
use Rattle.rs_statement.specs.Steps.{Step}
use Rattle.rs_events.specs.Sequence.{then_step}
use Rattle.rs_events.specs.Environment.{Environment}
use Rattle.rs_statement.proofs.CursorSteps.{left-call}
use Rattle.rs_statement.proofs.PlanSteps.{left-start}
use Rattle.rs_events.proofs.SoFar.{SoFar, SoFar-ends, SoFar-more, Stepped-broken}

-- a map of steps that goes through a step and the one behind it
abbrev pub GoesThrough : (Step CatalogDef → Step CatalogDef) → Type 0
GoesThrough f = (first rest : Step CatalogDef) → f (then_step first rest) ≡ then_step (f first) (f rest)

-- steps as they are
abbrev pub as_they_are : Step CatalogDef → Step CatalogDef
as_they_are step = step

module _ (f : Step CatalogDef → Step CatalogDef) (through : GoesThrough f) where
  module _ (catalogue : CatalogDef) (answer : Answering) (whole : Step CatalogDef) (cursor : CursorState) (old middle new : Environment)
      (so_far : SoFar whole (f (left_of catalogue answer cursor)) old middle) (at : middle.scorer.answer ≡ answer) where
    -- the next call, over the answers that the scorer had at first
    here : (result : Result (Unit {0}) Fault) → Stepped (λ step. step ≡ f (call_step catalogue middle.scorer.answer cursor)) catalogue result middle new
        → Stepped (λ step. step ≡ f (call_step catalogue answer cursor)) catalogue result middle new
    here result stepped = subst (λ a. Stepped (λ step. step ≡ f (call_step catalogue a cursor)) catalogue result middle new) at stepped

    -- there was a fault at it
    pub Left-broken : StandsFor catalogue answer cursor → (fault : Fault) → Stepped (λ step. step ≡ f (call_step catalogue middle.scorer.answer cursor)) catalogue (Err fault) middle new
        → Stepped (λ step. step ≡ whole) catalogue (Err fault) old new
    Left-broken stands fault stepped =
        let w = world_of catalogue answer cursor.query in
        let call = call_step catalogue answer cursor in
        let rest = asks_left w (plan_of cursor) (asks_after w (plan_of cursor) (asks_of cursor)) in
        SoFar-ends whole old middle new (f (left_of catalogue answer cursor)) catalogue (Err fault) so_far
        (subst (λ left. Stepped (λ step. step ≡ left) catalogue (Err fault) middle new) (sym (ap f (left-call catalogue answer cursor stands) ∙ through call rest))
        (Stepped-broken (f call) (f rest) fault catalogue catalogue middle new (here (Err fault) stepped)))

    -- it went well, and this is left behind it
    pub Left-more : (next : CursorState)
        → left_of catalogue middle.scorer.answer cursor ≡ then_step (call_step catalogue middle.scorer.answer cursor) (left_of catalogue middle.scorer.answer next)
        → Stepped (λ step. step ≡ f (call_step catalogue middle.scorer.answer cursor)) catalogue (Ok tt) middle new → SoFar whole (f (left_of catalogue answer next)) old new
    Left-more next left stepped =
        let call = call_step catalogue answer cursor in
        let rest = left_of catalogue answer next in
        SoFar-more whole old middle new (f call) (f rest) catalogue
        (subst (λ rest. SoFar whole rest old middle)
        (ap f (subst (λ a. left_of catalogue a cursor ≡ then_step (call_step catalogue a cursor) (left_of catalogue a next)) at left) ∙ through call rest) so_far)
        (here (Ok tt) stepped)

    -- it gave no row, and nothing is left behind it
    pub Left-ended : left_of catalogue middle.scorer.answer cursor ≡ call_step catalogue middle.scorer.answer cursor
        → Stepped (λ step. step ≡ f (call_step catalogue middle.scorer.answer cursor)) catalogue (Ok tt) middle new → Stepped (λ step. step ≡ whole) catalogue (Ok tt) old new
    Left-ended end stepped =
        SoFar-ends whole old middle new (f (left_of catalogue answer cursor)) catalogue (Ok tt) so_far
        (subst (λ left. Stepped (λ step. step ≡ left) catalogue (Ok tt) middle new) (sym (ap f (subst (λ a. left_of catalogue a cursor ≡ call_step catalogue a cursor) at end)))
        (here (Ok tt) stepped))

  -- of a new cursor all asks of its plan are left, whose calls were made over the answers that the scorer had at first
  pub Left-new : (catalogue : CatalogDef) (answer : Answering) (query : Query) (tree : PlanTree) (cursor : CursorState) (result : Result (Unit {0}) Fault) (old new : Environment)
      → IsAt query tree 0 cursor → old.scorer.answer ≡ answer → Stepped (λ step. step ≡ f (left_of catalogue old.scorer.answer cursor)) catalogue result old new
      → Stepped (λ step. step ≡ f (planned_step (world_of catalogue answer query) tree)) catalogue result old new
  Left-new catalogue answer query tree cursor result old new at same stepped =
      let w = world_of catalogue answer query in
      subst (λ whole. Stepped (λ step. step ≡ f whole) catalogue result old new)
      (ap (λ a. left_of catalogue a cursor) same ∙ ap (λ q. asks_left (world_of catalogue answer q) (plan_of cursor) (asks_of cursor)) at.query_is
      ∙ ap (λ own. asks_left w own (asks_of cursor)) at.plan_is ∙ ap (asks_left w tree) at.asks_are ∙ left-start w tree) stepped

-- behind each call that gave a row fewer asks are left
pub fewer-asks : (catalogue : CatalogDef) (answer : Answering) (cursor next : CursorState) → IsAt cursor.query (plan_of cursor) (suc (asks_of cursor)) next → StandsFor catalogue answer next
    → suc (length (list_of_plan (world_of catalogue answer next.query) (plan_of next))) - asks_of next
    < suc (length (list_of_plan (world_of catalogue answer cursor.query) (plan_of cursor))) - asks_of cursor
fewer-asks catalogue answer cursor next at stands =
    let same : length (list_of_plan (world_of catalogue answer next.query) (plan_of next)) ≡ length (list_of_plan (world_of catalogue answer cursor.query) (plan_of cursor)) =
    ap (λ query. length (list_of_plan (world_of catalogue answer query) (plan_of next))) at.query_is
    ∙ ap (λ tree. length (list_of_plan (world_of catalogue answer cursor.query) tree)) at.plan_is in
    let asks = at.asks_are in
    let within = stands.asks in
    omega arith
