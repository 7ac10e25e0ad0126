-- The asks of a cursor that a FETCH wants, one after another: what was done of all that were wanted at first.
use Rattle.std.proofs.Common.{ℕ, suc, ◌≡◌, ◌∙◌, ◌+◌, Bool, true, false, refl, sym, ap, subst, arith}
use Rattle.std.specs.Prelude.{None, Result, Ok, Err, if◌then◌else◌}
use Rattle.rs_expr.specs.Scoring.{Answering}
use Rattle.rs_catalog.specs.Catalog.{CatalogDef}
use Rattle.rs_plan.specs.Lists as plan
use Rattle.rs_plan.specs.Trees.{PlanTree}
use Rattle.rs_exec.specs.Asking.{world_of}
use Rattle.rs_exec.specs.Cursors.{CursorState, IsOver, StandsFor, asks_after, asks_of, is_over, next_answer, next_of, no_question, plan_of}
use Rattle.rs_statement.specs.declared.fault.Fault.{Fault}
use Rattle.rs_statement.specs.Parts.Asks.{IsAt, call_step}
use Rattle.rs_statement.specs.Parts.Session.{IsAskedMore, next_of_cursor, wanted_step}
use Rattle.rs_statement.specs.Parts.Steps.{Stepped}
use Rattle.rs_statement.specs.Planned.{asked_step, asks_from, next_asks}
use Rattle.rs_statement.specs.Steps.{Step}
use Rattle.rs_events.specs.Sequence.{still, then_step}
use Rattle.rs_events.specs.Environment.{Environment}
use Rattle.rs_statement.proofs.CursorSteps.{call-next}
use Rattle.rs_statement.proofs.PlanSteps.{more-all, over-all}
use Rattle.rs_events.proofs.SoFar.{SoFar, SoFar-ends, SoFar-more, Stepped-broken}
use Rattle.rs_events.proofs.SteppedFacts.{Stepped-still}

module _ (w : plan.World) (tree : PlanTree) where
  -- the asks that come next where this many are wanted
  abbrev wanted : ℕ → ℕ → Step CatalogDef
  wanted n count = asks_from w tree n (next_asks w tree n count)

  -- a plan that is asked no more is asked no more
  none-over : (n count : ℕ) → is_over w tree n ≡ true → next_asks w tree n count ≡ 0
  none-over n count over =
      let all = over-all w tree n over in
      omega arith

  -- else one ask comes next, and those behind it
  some-more : (n count : ℕ) → is_over w tree n ≡ false → next_asks w tree n (suc count) ≡ suc (next_asks w tree (suc n) count)
  some-more n count more =
      let some = more-all w tree n more in
      omega arith

  wanted-next : (n count : ℕ) → wanted n (suc count) ≡ then_step (asked_step w.catalogue (suc n) (next_of w tree n)) (wanted (asks_after w tree n) count)
  wanted-next n count = go (is_over w tree n) refl where
    go : (b : Bool) → is_over w tree n ≡ b
        → wanted n (suc count) ≡ then_step (asked_step w.catalogue (suc n) (if b then no_question (Ok None) else next_answer w tree n)) (wanted (if b then n else suc n) count)
    go true over = ap (asks_from w tree n) (none-over n (suc count) over) ∙ sym (ap (λ asks. then_step (still (Ok w.catalogue)) (asks_from w tree n asks)) (none-over n count over))
    go false more = ap (asks_from w tree n) (some-more n count more)

  -- they are as many as the next one, and those behind it
  count-next : (n count : ℕ) → n + next_asks w tree n (suc count) ≡ asks_after w tree n + next_asks w tree (asks_after w tree n) count
  count-next n count = go (is_over w tree n) refl where
    go : (b : Bool) → is_over w tree n ≡ b → n + next_asks w tree n (suc count) ≡ (if b then n else suc n) + next_asks w tree (if b then n else suc n) count
    go true over = ap (λ asks. n + asks) (none-over n (suc count) over ∙ sym (none-over n count over))
    go false more = ap (λ asks. n + asks) (some-more n count more) ∙ (let same : n + suc (next_asks w tree (suc n) count) ≡ suc n + next_asks w tree (suc n) count = omega arith in same)

module _ (catalogue : CatalogDef) (answer : Answering) where
  -- what is wanted of a cursor, by its query, its plan and how often it was asked
  wanted-at : (cursor next : CursorState) (n count : ℕ) → IsAt cursor.query (plan_of cursor) n next
      → wanted_step catalogue answer next count ≡ wanted (world_of catalogue answer cursor.query) (plan_of cursor) n count
  wanted-at cursor next n count at = λ i. wanted (world_of catalogue answer (at.query_is i)) (at.plan_is i) (at.asks_are i) count

  count-at : (cursor next : CursorState) (n count : ℕ) → IsAt cursor.query (plan_of cursor) n next
      → asks_of next + next_of_cursor catalogue answer next count ≡ n + next_asks (world_of catalogue answer cursor.query) (plan_of cursor) n count
  count-at cursor next n count at = λ i. at.asks_are i + next_asks (world_of catalogue answer (at.query_is i)) (at.plan_is i) (at.asks_are i) count

  -- a cursor of which this many rows were wanted at first, and of which this many are wanted still
  pub record IsFetching (start : CursorState) (count : ℕ) (cursor : CursorState) (left : ℕ) : Type 0 where
    pub asks : asks_of cursor + next_of_cursor catalogue answer cursor left ≡ asks_of start + next_of_cursor catalogue answer start count
    pub query_is : cursor.query ≡ start.query
    pub plan_is : plan_of cursor ≡ plan_of start
    pub stands : StandsFor catalogue answer cursor

  pub fetching-start : (cursor : CursorState) (count : ℕ) → StandsFor catalogue answer cursor → IsFetching cursor count cursor count
  fetching-start cursor count stands = record { asks = refl; query_is = refl; plan_is = refl; stands = stands }

  -- the cursor after one call more
  abbrev IsCalled : CursorState → CursorState → Type 0
  IsCalled cursor next = IsAt cursor.query (plan_of cursor) (asks_after (world_of catalogue answer cursor.query) (plan_of cursor) (asks_of cursor)) next

  pub fetching-next : (start : CursorState) (count : ℕ) (cursor next : CursorState) (left : ℕ) → IsFetching start count cursor (suc left) → IsCalled cursor next → StandsFor catalogue answer next
      → IsFetching start count next left
  fetching-next start count cursor next left fetching called stands =
      let w = world_of catalogue answer cursor.query in record {
        asks = count-at cursor next (asks_after w (plan_of cursor) (asks_of cursor)) left called ∙ sym (count-next w (plan_of cursor) (asks_of cursor) left) ∙ fetching.asks;
        query_is = called.query_is ∙ fetching.query_is;
        plan_is = called.plan_is ∙ fetching.plan_is;
        stands = stands;
      }

  -- of a cursor that is asked no more, or of which no more is wanted, no ask comes next
  pub none-next : (cursor : CursorState) (left : ℕ) → IsOver catalogue answer cursor → next_of_cursor catalogue answer cursor left ≡ 0
  none-next cursor left over = none-over (world_of catalogue answer cursor.query) (plan_of cursor) (asks_of cursor) left over.1

  pub none-wanted : (cursor : CursorState) → next_of_cursor catalogue answer cursor 0 ≡ 0
  none-wanted cursor = omega arith

  -- then it was asked as often as was wanted
  pub fetching-all : (start : CursorState) (count : ℕ) (cursor : CursorState) (left : ℕ) → IsFetching start count cursor left → next_of_cursor catalogue answer cursor left ≡ 0
      → IsAskedMore start (next_of_cursor catalogue answer start count) cursor
  fetching-all start count cursor left fetching none = record {
    query_is = fetching.query_is;
    plan_is = fetching.plan_is;
    asks_are = (let all : asks_of cursor ≡ asks_of cursor + 0 = omega arith in all) ∙ ap (λ asks. asks_of cursor + asks) (sym none) ∙ fetching.asks;
  }

  module _ (whole : Step CatalogDef) (old middle : Environment) where
    pub Wanted-done : (cursor : CursorState) (left : ℕ) → next_of_cursor catalogue answer cursor left ≡ 0 → SoFar whole (wanted_step catalogue answer cursor left) old middle
        → Stepped (λ step. step ≡ whole) catalogue (Ok tt) old middle
    Wanted-done cursor left none so_far =
        SoFar-ends whole old middle middle (still (Ok catalogue)) catalogue (Ok tt)
        (subst (λ rest. SoFar whole rest old middle) (ap (asks_from (world_of catalogue answer cursor.query) (plan_of cursor) (asks_of cursor)) none) so_far)
        (Stepped-still (λ step. step ≡ still (Ok catalogue)) (Ok catalogue) catalogue (Ok tt) middle refl refl)

    module _ (new : Environment) (cursor : CursorState) (left : ℕ) (stands : StandsFor catalogue answer cursor)
        (so_far : SoFar whole (wanted_step catalogue answer cursor (suc left)) old middle) (at : middle.scorer.answer ≡ answer) where
      abbrev w : plan.World
      w = world_of catalogue answer cursor.query

      abbrev behind : Step CatalogDef
      behind = wanted w (plan_of cursor) (asks_after w (plan_of cursor) (asks_of cursor)) left

      -- what is wanted is the next call, and what is wanted behind it
      so_far-call : SoFar whole (then_step (call_step catalogue answer cursor) behind) old middle
      so_far-call =
          subst (λ rest. SoFar whole rest old middle)
          (wanted-next w (plan_of cursor) (asks_of cursor) left ∙ ap (λ given. then_step (asked_step catalogue (suc (asks_of cursor)) given) behind) (sym (call-next catalogue answer cursor stands))) so_far

      -- the call, over the answers that the scorer had at first
      here : (result : Result (Unit {0}) Fault) → Stepped (λ step. step ≡ call_step catalogue middle.scorer.answer cursor) catalogue result middle new
          → Stepped (λ step. step ≡ call_step catalogue answer cursor) catalogue result middle new
      here result stepped = subst (λ a. Stepped (λ step. step ≡ call_step catalogue a cursor) catalogue result middle new) at stepped

      -- there was a fault at it
      pub Wanted-broken : (fault : Fault) → Stepped (λ step. step ≡ call_step catalogue middle.scorer.answer cursor) catalogue (Err fault) middle new
          → Stepped (λ step. step ≡ whole) catalogue (Err fault) old new
      Wanted-broken fault stepped =
          SoFar-ends whole old middle new (then_step (call_step catalogue answer cursor) behind) catalogue (Err fault) so_far-call
          (Stepped-broken (call_step catalogue answer cursor) behind fault catalogue catalogue middle new (here (Err fault) stepped))

      -- it went well
      pub Wanted-more : (next : CursorState) → IsCalled cursor next → Stepped (λ step. step ≡ call_step catalogue middle.scorer.answer cursor) catalogue (Ok tt) middle new
          → SoFar whole (wanted_step catalogue answer next left) old new
      Wanted-more next called stepped =
          SoFar-more whole old middle new (call_step catalogue answer cursor) (wanted_step catalogue answer next left) catalogue
          (subst (λ rest. SoFar whole (then_step (call_step catalogue answer cursor) rest) old middle)
          (sym (wanted-at cursor next (asks_after w (plan_of cursor) (asks_of cursor)) left called)) so_far-call) (here (Ok tt) stepped)
