-- What a call of a cursor that stands asks, and what is left behind it.
use Rattle.std.proofs.Common.{ℕ, suc, ◌≡◌, ◌∙◌, Bool, true, false, [], ◌∷◌, refl, sym, ap, subst}
use Rattle.std.specs.Prelude.{is_some, Option, Some, None, Result, Ok, Err, if◌then◌else◌}
use Rattle.rs_rank.specs.declared.answer.Answer.{Answer}
use Rattle.rs_lines.specs.Row.{line_of}
use Rattle.rs_expr.specs.InOrder.{Inquires, Inquiry}
use Rattle.rs_expr.specs.Scoring.{Answering, ScorerState}
use Rattle.rs_expr.proofs.InOrderFacts.{InquiryEnds-ok}
use Rattle.rs_catalog.specs.Catalog.{CatalogDef}
use Rattle.rs_plan.specs.Calls.{questions_of_ask}
use Rattle.rs_plan.specs.Counts.{gave_of}
use Rattle.rs_plan.specs.Lists as plan
use Rattle.rs_plan.specs.Trees.{PlanTree}
use Rattle.rs_query.specs.Questions.{is_bad, through_first}
use Rattle.rs_exec.specs.Asking.{exec_faults, world_of}
use Rattle.rs_exec.specs.Cursors.{CursorState, IsOver, StandsFor, asks_after, asks_of, call_of, is_over, next_answer, next_of, no_question, plan_of}
use Rattle.rs_exec.specs.declared.fault.ExecFault.{ExecFault}
use Rattle.rs_exec.specs.declared.fault.ExecFault.TheVariants.{Broken, Memory}
use Rattle.rs_statement.specs.declared.fault.Fault.{Fault}
use Rattle.rs_statement.specs.Parts.Asks.{IsAt, asks_left, call_step, left_of}
use Rattle.rs_statement.specs.Parts.Steps.{Ran, Stepped}
use Rattle.rs_events.specs.Run.{lines_run}
use Rattle.rs_statement.specs.Planned.{ask_fault, ask_outcome, asked_step, given_lines}
use Rattle.rs_events.specs.Sequence.{then_step}
use Rattle.rs_events.specs.Environment.{Environment}
use Rattle.rs_statement.specs.Steps.{statement_faults}
use Rattle.rs_events.proofs.InquirySteps.{TellFailedCalls, Stepped-asked}
use Rattle.rs_statement.proofs.PlanSteps.{asks_after-more, gave-all, given-row, left-ended, left-next, over-ended}
use Rattle.rs_statement.proofs.QuerySteps.{Probes-questions}

module _ (catalogue : CatalogDef) (answer : Answering) (cursor : CursorState) where
  abbrev w : plan.World
  w = world_of catalogue answer cursor.query

  abbrev tree : PlanTree
  tree = plan_of cursor

  abbrev n : ℕ
  n = asks_of cursor

  -- each call is of the predicate that is told where it fails
  pub probes-call : TellFailedCalls statement_faults (ask_fault catalogue) (call_of catalogue answer cursor).requests
  probes-call = go cursor.failed (is_over w tree n) where
    go : (failed over : Bool) → TellFailedCalls statement_faults (ask_fault catalogue) (if failed then no_question (Err Broken) else if over then no_question (Ok None) else next_answer w tree n).requests
    go true over = tt
    go false true = tt
    go false false = Probes-questions exec_faults (ask_fault catalogue) catalogue (λ number. refl) (through_first (is_bad answer catalogue) (questions_of_ask w 1 tree (suc n)))

  -- its row was put, or there was a fault at it
  pub Stepped-row : (row : Answer) (rank : ℕ) (result : Result (Unit {0}) Fault) (environment new : Environment) (scorer : ScorerState) → rank ≡ suc n
      → Inquires Memory (call_of catalogue answer cursor) (Ok (Some row)) environment.scorer scorer
      → Ran (lines_run (line_of rank row.score row.values ∷ [])) result (record environment { scorer = scorer }) new
      → Stepped (λ step. step ≡ call_step catalogue answer cursor) catalogue result environment new
  Stepped-row row rank result environment new scorer is asks puts =
      Stepped-asked (given_lines (suc n)) (ask_outcome catalogue) Memory (call_of catalogue answer cursor) catalogue environment scorer (Some row) result new refl asks
      (subst (λ r. Ran (lines_run (line_of r row.score row.values ∷ [])) result (record environment { scorer = scorer }) new) is puts)

  module _ (stands : StandsFor catalogue answer cursor) where
    pub call-next : call_of catalogue answer cursor ≡ next_of w tree n
    call-next = ap (λ b. if b then no_question (Err Broken) else next_of w tree n) stands.sound

    -- what is left is the call, and what is left behind it
    pub left-call : left_of catalogue answer cursor ≡ then_step (call_step catalogue answer cursor) (asks_left w tree (asks_after w tree n))
    left-call = left-next w tree n ∙ ap (λ given. then_step (asked_step catalogue (suc n) given) (asks_left w tree (asks_after w tree n))) (sym call-next)

    outcome-next : (given : Option Answer) (old new : ScorerState) → Inquires Memory (call_of catalogue answer cursor) (Ok given) old new → (next_of w tree n).outcome ≡ Ok given
    outcome-next given old new asks =
        ap (λ (i : Inquiry (Option Answer) ExecFault). i.outcome) (sym call-next) ∙ sym (InquiryEnds-ok Memory (call_of catalogue answer cursor) given old new asks).gives

    -- a call that gave a row was an ask, and behind one that gave none the plan is asked no more
    pub record Answered (some : Bool) : Type 0 where
      pub before : some ≡ true → is_over w tree n ≡ false
      pub ended : some ≡ false → is_over w tree (asks_after w tree n) ≡ true

    pub answered : (given : Option Answer) (some : Bool) (old new : ScorerState) → some ≡ is_some given → Inquires Memory (call_of catalogue answer cursor) (Ok given) old new
        → Answered some
    answered None some old new is asks = record { before = λ e. absurd cc; ended = λ e. over-ended w tree n (outcome-next None old new asks) }
    answered (Some row) some old new is asks =
        record { before = λ e. (given-row w tree n row (outcome-next (Some row) old new asks)).more; ended = λ e. absurd cc }

    -- the cursor behind it is over
    pub over-call : (next : CursorState) (old new : ScorerState) → Inquires Memory (call_of catalogue answer cursor) (Ok None) old new → IsAt cursor.query tree (asks_after w tree n) next
        → StandsFor catalogue answer next → IsOver catalogue answer next
    over-call next old new asks at stand = (
      stand.sound,
      ap (λ query. is_over (world_of catalogue answer query) (plan_of next) (asks_of next)) at.query_is ∙ ap (λ plan. is_over w plan (asks_of next)) at.plan_is
          ∙ ap (is_over w tree) at.asks_are ∙ over-ended w tree n (outcome-next None old new asks),
    )

    -- behind a call that gave no row nothing is left
    pub ended-call : (old new : ScorerState) → Inquires Memory (call_of catalogue answer cursor) (Ok None) old new
        → left_of catalogue answer cursor ≡ call_step catalogue answer cursor
    ended-call old new asks = left-ended w tree n (outcome-next None old new asks) ∙ ap (asked_step catalogue (suc n)) (sym call-next)

    -- a call that gave a row was one ask more, and this many rows were given; what is left behind it is left of the cursor
    pub record GivenCall (next : CursorState) : Type 0 where
      pub at : IsAt cursor.query tree (suc n) next
      pub left : left_of catalogue answer cursor ≡ then_step (call_step catalogue answer cursor) (left_of catalogue answer next)
      pub rank : gave_of (world_of catalogue answer next.query) 1 (plan_of next) (asks_of next) ≡ suc n

    pub given-call : (row : Answer) (next : CursorState) (old new : ScorerState) → Inquires Memory (call_of catalogue answer cursor) (Ok (Some row)) old new
        → next.query ≡ cursor.query → plan_of next ≡ tree → asks_of next ≡ asks_after w tree n → GivenCall next
    given-call row next old new asks same_query same_plan count =
        let given = given-row w tree n row (outcome-next (Some row) old new asks) in
        let asked : asks_of next ≡ suc n = count ∙ asks_after-more w tree n given.more in record {
          at = record { query_is = same_query; plan_is = same_plan; asks_are = asked };
          left = left-call ∙ ap (then_step (call_step catalogue answer cursor)) (sym (
              ap (λ query. asks_left (world_of catalogue answer query) (plan_of next) (asks_of next)) same_query
              ∙ ap (λ plan. asks_left w plan (asks_of next)) same_plan ∙ ap (asks_left w tree) count));
          rank = ap (λ query. gave_of (world_of catalogue answer query) 1 (plan_of next) (asks_of next)) same_query
              ∙ ap (λ plan. gave_of w 1 plan (asks_of next)) same_plan ∙ ap (gave_of w 1 tree) asked ∙ gave-all w tree n given.within;
        }
