-- The asks of a cursor whose rows aren't put.
use Rattle.std.proofs.Common.{ℕ, suc, ◌≡◌, ◌∙◌, ◌<◌, ◌≤◌, ◌++◌, Bool, true, false, List, [], ◌∷◌, map, max, refl, sym, ap, subst, arith, append-nil}
use Rattle.std.specs.Prelude.{Some, Result, Ok, Err, if◌then◌else◌}
use Rattle.rs_expr.specs.InOrder.{Inquiry, calls_of}
use Rattle.rs_expr.specs.Scoring.{Answering}
use Rattle.rs_catalog.specs.Catalog.{CatalogDef}
use Rattle.rs_query.specs.declared.query.Query.{Query}
use Rattle.rs_plan.specs.Counts.{counts_of_plan}
use Rattle.rs_plan.specs.Lists as plan
use Rattle.rs_plan.specs.Trees.{PlanTree}
use Rattle.rs_enum.specs.Texts.{text_of}
use Rattle.rs_exec.specs.Asking.{world_of}
use Rattle.rs_exec.specs.Cursors.{CursorState, IsNew, StandsFor, asks_after, asks_of, is_over, plan_of}
use Rattle.rs_statement.specs.declared.sampling.Sampling.{Sampling}
use Rattle.rs_statement.specs.declared.fault.Fault.{Fault}
use Rattle.rs_statement.specs.declared.fault.Fault.TheVariants.{Memory}
use Rattle.rs_statement.specs.Parts.Asks.{AskedForAll, AskedOnce, IsAt, asks_left, call_step, left_of, most_asks}
use Rattle.rs_statement.specs.Parts.Steps.{Stepped}
use Rattle.rs_events.specs.Sequence.{run_of, inquiry_step, lines_step, silent, still, then_step}
use Rattle.rs_statement.specs.Planned.{asks_in_all, cards_for, plan_for, planned_step}
use Rattle.rs_events.specs.Events.{Event, Put, Score, calls, calls_in}
use Rattle.rs_statement.specs.Steps.{Step}
use Rattle.rs_events.specs.Environment.{Environment}
use Rattle.rs_statement.proofs.CursorSteps.{left-call}
use Rattle.rs_statement.proofs.PlanSteps.{asks_after-more, left-over, more-all, over-all}
use Rattle.rs_events.proofs.RanFacts.{Ran-done, Ran-no_memory, calls-append, calls-scores, map-both}
use Rattle.rs_events.proofs.SoFar.{SoFar, SoFar-ends}
use Rattle.rs_events.proofs.SteppedFacts.{Stepped-still, step_of}

max-none : (n : ℕ) → max 0 n ≡ n
max-none n = omega arith

-- where fewer asks were made than there are in all, one more changes nothing of how many they are to be, and where all were made they are that many
max-more : (n next own all most : ℕ) → n < own → own ≡ all → next ≡ suc n → max n all ≡ most → max next all ≡ most
max-more n next own all most less same more is = omega arith

max-over : (n own all most : ℕ) → own ≤ n → own ≡ all → max n all ≡ most → n ≡ most
max-over n own all most over same is = omega arith

max-last : (n own all most : ℕ) → n < own → own ≤ suc n → own ≡ all → max n all ≡ most → suc n ≡ most
max-last n own all most less over same is = omega arith

calls-puts : (lines : List (List ℕ)) → calls (map Put lines) ≡ []
calls-puts [] = refl
calls-puts (line ∷ rest) = calls-puts rest

-- the calls of a step are those of its parts
scores-both : (first rest : List Event) → map Score (calls (first ++ rest)) ≡ map Score (calls first) ++ map Score (calls rest)
scores-both first rest = ap (map Score) (calls-append first rest) ∙ map-both Score (calls first) (calls rest)

pub silent-then : {S T : Type 0} (first : Step S) (rest : Step T) → silent (then_step first rest) ≡ then_step (silent first) (silent rest)
silent-then {S} {T} first rest = go first.outcome where
  go : (outcome : Result S Fault) → silent (then_step (step_of first.events outcome) rest) ≡ then_step (silent (step_of first.events outcome)) (silent rest)
  go (Ok state) = ap (λ events. step_of events rest.outcome) (scores-both first.events rest.events)
  go (Err fault) = refl

-- the calls of an inquiry, and no lines behind them
pub silent-inquiry : {A F S : Type 0} (lines : Result A F → List (List ℕ)) (outcome : Result A F → Result S Fault) (inquiry : Inquiry A F)
    → silent (inquiry_step lines outcome inquiry) ≡ inquiry_step (λ r. []) outcome inquiry
silent-inquiry lines outcome inquiry =
    ap (λ events. step_of events (outcome inquiry.outcome))
    (scores-both (calls_in inquiry) (map Put (lines inquiry.outcome))
    ∙ ap (λ made. map Score made ++ map Score (calls (map Put (lines inquiry.outcome)))) (calls-scores (calls_of inquiry.requests))
    ∙ ap (λ made. calls_in inquiry ++ map Score made) (calls-puts (lines inquiry.outcome)))

-- all of a step was done, and there was no memory behind it
pub Stepped-late : {S : Type 0} (of : Step S → Type 0) (left : S) (old new : Environment) → Stepped of left (Ok tt) old new → Stepped of left (Err Memory) old new
Stepped-late of left old new made =
    let events = (run_of made.step).events in record {
      step = made.step;
      does = made.does;
      ran = Ran-no_memory (run_of made.step) events [] old new (sym (append-nil events)) (Ran-done (run_of made.step) old new made.ran).has;
      leaves = tt;
    }

module _ (catalogue : CatalogDef) (answer : Answering) where
  abbrev all_of : CursorState → ℕ
  all_of cursor = asks_in_all (world_of catalogue answer cursor.query) (plan_of cursor)

  -- a cursor that goes on from another one: it is of the same query and plan, and is yet to be asked as often in all
  pub record GoesOn (start cursor : CursorState) : Type 0 where
    pub stands : StandsFor catalogue answer cursor
    pub at : IsAt start.query (plan_of start) (asks_of cursor) cursor
    pub all : max (asks_of cursor) (all_of start) ≡ max (asks_of start) (all_of start)

  pub goes-on : (cursor : CursorState) → StandsFor catalogue answer cursor → GoesOn cursor cursor
  goes-on cursor stands = record { stands = stands; at = record { query_is = refl; plan_is = refl; asks_are = refl }; all = refl }

  module _ (cursor next : CursorState) where
    abbrev w : plan.World
    w = world_of catalogue answer cursor.query

    abbrev tree : PlanTree
    tree = plan_of cursor

    -- what is left behind an ask
    left-at : (n : ℕ) → IsAt cursor.query tree n next → left_of catalogue answer next ≡ asks_left w tree n
    left-at n at =
        ap (λ query. asks_left (world_of catalogue answer query) (plan_of next) (asks_of next)) at.query_is ∙ ap (λ plan. asks_left w plan (asks_of next)) at.plan_is
        ∙ ap (asks_left w tree) at.asks_are

    pub left-once : StandsFor catalogue answer cursor → (more : Bool) → AskedOnce catalogue answer cursor more next
        → left_of catalogue answer cursor ≡ then_step (call_step catalogue answer cursor) (left_of catalogue answer next)
    left-once stands more asked =
        left-call catalogue answer cursor stands ∙ ap (then_step (call_step catalogue answer cursor)) (sym (left-at (asks_after w tree (asks_of cursor)) asked.at))

    left-none : AskedOnce catalogue answer cursor false next → left_of catalogue answer next ≡ still (Ok catalogue)
    left-none asked = left-at (asks_after w tree (asks_of cursor)) asked.at ∙ left-over w tree (asks_after w tree (asks_of cursor)) (asked.ended refl)

    -- where there was no row, all that was left was done
    pub Silent-ended : AskedOnce catalogue answer cursor false next → (whole : Step CatalogDef) (old new : Environment) → SoFar whole (silent (left_of catalogue answer next)) old new
        → Stepped (λ step. step ≡ whole) catalogue (Ok tt) old new
    Silent-ended asked whole old new so_far =
        SoFar-ends whole old new new (silent (left_of catalogue answer next)) catalogue (Ok tt) so_far
        (subst (λ left. Stepped (λ step. step ≡ silent left) catalogue (Ok tt) new new) (sym (left-none asked))
        (Stepped-still (λ step. step ≡ silent (still (Ok catalogue))) (Ok catalogue) catalogue (Ok tt) new refl refl))

    module _ (start : CursorState) (so : GoesOn start cursor) where
      same-all : all_of cursor ≡ all_of start
      same-all =
          ap (λ query. asks_in_all (world_of catalogue answer query) (plan_of cursor)) so.at.query_is
          ∙ ap (asks_in_all (world_of catalogue answer start.query)) so.at.plan_is

      -- it was asked once more
      pub asked-more : AskedOnce catalogue answer cursor true next → IsAt cursor.query tree (suc (asks_of cursor)) next
      asked-more asked = record {
        query_is = asked.at.query_is;
        plan_is = asked.at.plan_is;
        asks_are = asked.at.asks_are ∙ asks_after-more w tree (asks_of cursor) (asked.before refl);
      }

      pub goes-more : AskedOnce catalogue answer cursor true next → GoesOn start next
      goes-more asked =
          record {
            stands = asked.stands;
            at = record { query_is = asked.at.query_is ∙ so.at.query_is; plan_is = asked.at.plan_is ∙ so.at.plan_is; asks_are = refl };
            all = max-more (asks_of cursor) (asks_of next) (all_of cursor) (all_of start) (max (asks_of start) (all_of start)) (more-all w tree (asks_of cursor) (asked.before refl))
                same-all (asked-more asked).asks_are so.all;
          }

      -- or for all
      pub goes-all : AskedOnce catalogue answer cursor false next → AskedForAll catalogue answer start next
      goes-all asked = record {
        query_is = asked.at.query_is ∙ so.at.query_is;
        plan_is = asked.at.plan_is ∙ so.at.plan_is;
        asks_are = asked.at.asks_are ∙ go (is_over w tree (asks_of cursor)) refl (over-all w tree (asks_after w tree (asks_of cursor)) (asked.ended refl));
      } where
        go : (b : Bool) → is_over w tree (asks_of cursor) ≡ b → all_of cursor ≤ (if b then asks_of cursor else suc (asks_of cursor))
            → (if b then asks_of cursor else suc (asks_of cursor)) ≡ max (asks_of start) (all_of start)
        go true over most = max-over (asks_of cursor) (all_of cursor) (all_of start) (max (asks_of start) (all_of start)) most same-all so.all
        go false more most = max-last (asks_of cursor) (all_of cursor) (all_of start) (max (asks_of start) (all_of start)) (more-all w tree (asks_of cursor) more) most same-all so.all

-- the counts of a new cursor that is asked for all
pub counts-started : (catalogue : CatalogDef) (answer : Answering) (query : Query) (tree : PlanTree) (started : CursorState) → IsNew query tree started
    → counts_of_plan (world_of catalogue answer started.query) (plan_of started) (most_asks catalogue answer started)
    ≡ counts_of_plan (world_of catalogue answer query) tree (asks_in_all (world_of catalogue answer query) tree)
counts-started catalogue answer query tree started new =
    let counts = λ (q : Query) (t : PlanTree) (n : ℕ). counts_of_plan (world_of catalogue answer q) t (max n (asks_in_all (world_of catalogue answer q) t)) in
    ap (λ q. counts q (plan_of started) (asks_of started)) new.query_is ∙ ap (λ t. counts query t (asks_of started)) new.plan_is ∙ ap (counts query tree) new.unasked
    ∙ ap (counts_of_plan (world_of catalogue answer query) tree) (max-none (asks_in_all (world_of catalogue answer query) tree))

-- the text that EXPLAIN ANALYZE puts, and what it does behind the sample of a query
abbrev pub analyzed_lines : Answering → CatalogDef → Sampling → Query → Step CatalogDef
analyzed_lines answer catalogue sampling query =
    let w = world_of catalogue answer query in
    let tree = plan_for answer catalogue sampling query in
    lines_step (text_of catalogue query (cards_for answer catalogue sampling query) tree (Some (counts_of_plan w tree (asks_in_all w tree))) ∷ []) catalogue

abbrev pub analyzing : Answering → CatalogDef → Sampling → Query → Step CatalogDef
analyzing answer catalogue sampling query =
    then_step (silent (planned_step (world_of catalogue answer query) (plan_for answer catalogue sampling query))) (analyzed_lines answer catalogue sampling query)

-- asks of one query by one plan, over the same answers
pub same-asks : (catalogue : CatalogDef) (query asked : Query) (answer own : Answering) (plan made : PlanTree) (result : Result (Unit {0}) Fault) (old new : Environment)
    → asked ≡ query → own ≡ answer → made ≡ plan
    → Stepped (λ step. step ≡ silent (planned_step (world_of catalogue own asked) made)) catalogue result old new
    → Stepped (λ step. step ≡ silent (planned_step (world_of catalogue answer query) plan)) catalogue result old new
same-asks catalogue query asked answer own plan made result old new of is same stepped =
    subst (λ whole. Stepped (λ step. step ≡ silent whole) catalogue result old new)
    (ap (λ q. planned_step (world_of catalogue own q) made) of ∙ ap (λ a. planned_step (world_of catalogue a query) made) is ∙ ap (planned_step (world_of catalogue answer query)) same)
    stepped
