-- The asks of a plan, one after another.
use Rattle.std.proofs.Common.{ℕ, zero, suc, ◌≡◌, ◌∙◌, ◌-◌, ◌<◌, ◌≤◌, ◌||◌, Bool, true, false, List, [], ◌∷◌, length, refl, sym, ap, arith, append-nil}
use Rattle.std.specs.Prelude.{Option, Some, None, Result, Ok, Err, nat_lt, option_map, slice_get, if◌then◌else◌}
use Rattle.std.proofs.lemmas.Bool.Decides.{nat_tests}
use Rattle.std.proofs.lemmas.Bool.{lt-ltb}
use Rattle.std.proofs.lemmas.Option.{slice_get_within}
use Rattle.rs_rank.specs.declared.answer.Answer.{Answer}
use Rattle.rs_catalog.specs.Catalog.{CatalogDef}
use Rattle.rs_query.specs.Answers.{limit_of}
use Rattle.rs_expr.specs.Scoring.{Answering}
use Rattle.rs_query.specs.Questions.{Faults, Question, first_of, is_bad, outcome_for}
use Rattle.rs_plan.specs.Calls.{questions_of_ask}
use Rattle.rs_plan.specs.Counts.{counts_at, counts_of_plan, gave_of}
use Rattle.rs_plan.specs.Lists.{World, list_of_plan}
use Rattle.rs_plan.specs.Trees.{Distinct, JoinOperator, Rank, RankScan, SeqScan, SetOperator, PlanTree}
use Rattle.rs_exec.specs.Asking.{exec_faults}
use Rattle.rs_exec.specs.Cursors.{answer_for, asks_after, is_limit, is_over, next_answer, next_of, no_question}
use Rattle.rs_statement.specs.Parts.Asks.{asks_left}
use Rattle.rs_statement.specs.Planned.{ask_count, ask_outcome, asked_step, asks_from, asks_in_all, planned_step}
use Rattle.rs_statement.specs.Steps.{Step}
use Rattle.rs_events.specs.Sequence.{still, then_step}
use Rattle.rs_statement.specs.declared.fault.Fault.{Fault}

-- how many asks there are, by the test whether one more is made
count-over : (limit : Option ℕ) (rows n : ℕ) → is_limit limit n || nat_lt rows n ≡ true → ask_count limit rows ≤ n
count-over None rows n over = grind (arith, nat_tests)
count-over (Some limit) rows n over = grind (arith, nat_tests)

count-more : (limit : Option ℕ) (rows n : ℕ) → is_limit limit n || nat_lt rows n ≡ false → n < ask_count limit rows
count-more None rows n more = grind (arith, nat_tests)
count-more (Some limit) rows n more = grind (arith, nat_tests)

-- a list has no item at a place behind its last one
pub none-behind : {A : Type 0} (xs : List A) (n : ℕ) → slice_get xs n ≡ None → length xs ≤ n
none-behind [] n none = omega arith
none-behind (x ∷ xs) zero none = absurd cc
none-behind (x ∷ xs) (suc n) none = let rest = none-behind xs n none in omega arith

map-none : {A B : Type 0} (f : A → B) (o : Option A) → option_map f o ≡ None → o ≡ None
map-none f None none = refl
map-none f (Some a) none = absurd cc

map-some : {A B : Type 0} (f : A → B) (o : Option A) (b : B) → option_map f o ≡ Some b → (a : A) × (o ≡ Some a)
map-some f None b some = absurd cc
map-some f (Some a) b some = (a, refl)

or-true : (b : Bool) → b || true ≡ true
or-true true = refl
or-true false = refl

-- a step with nothing behind it
pub then-still : {S : Type 0} (step : Step S) (state : S) → step.outcome ≡ Ok state → then_step step (still (Ok state)) ≡ step
then-still {S} step state ends = go step.outcome ends where
  go : (outcome : Result S Fault) → outcome ≡ Ok state → then_step (record step { outcome = outcome }) (still (Ok state)) ≡ record step { outcome = outcome }
  go (Ok other) e = (ap (λ events. record step { events = events; outcome = Ok state }) (append-nil step.events)) ∙ ap (λ o. record step { outcome = o }) (sym e)
  go (Err fault) e = absurd cc

-- what questions give that ended well
pub outcome-value : {A F : Type 0} (faults : Faults F) (answer : Answering) (catalogue : CatalogDef) (value given : A) (bad : Option Question)
    → outcome_for faults answer catalogue bad value ≡ Ok given → value ≡ given
outcome-value faults answer catalogue value given None e = cc
outcome-value faults answer catalogue value given (Some q) e = absurd cc

module _ (w : World) (tree : PlanTree) where
  -- what an ask gives is the row at its place
  pub row-given : (n : ℕ) (given : Option Answer) → (next_answer w tree n).outcome ≡ Ok given → option_map (answer_for w) (slice_get (list_of_plan w tree) n) ≡ given
  row-given n given e =
      outcome-value exec_faults w.answer w.catalogue (option_map (answer_for w) (slice_get (list_of_plan w tree) n)) given
      (first_of (is_bad w.answer w.catalogue) (questions_of_ask w 1 tree (suc n))) e

  -- where LIMIT rows were given, or an ask met the end, nothing is left
  pub left-over : (n : ℕ) → is_over w tree n ≡ true → asks_left w tree n ≡ still (Ok w.catalogue)
  left-over n over =
      let all = count-over (limit_of w.query) (length (list_of_plan w tree)) n over in
      ap (asks_from w tree n) (let none : ask_count (limit_of w.query) (length (list_of_plan w tree)) - n ≡ 0 = omega arith in none)

  -- what is left is the next ask, and what is left behind it
  pub left-next : (n : ℕ) → asks_left w tree n ≡ then_step (asked_step w.catalogue (suc n) (next_of w tree n)) (asks_left w tree (asks_after w tree n))
  left-next n = go (is_over w tree n) refl where
    go : (b : Bool) → is_over w tree n ≡ b → asks_left w tree n
        ≡ then_step (asked_step w.catalogue (suc n) (if b then no_question (Ok None) else next_answer w tree n)) (asks_left w tree (if b then n else suc n))
    go true over = refl
    go false more =
        let some = count-more (limit_of w.query) (length (list_of_plan w tree)) n more in
        ap (asks_from w tree n)
        (let one : ask_count (limit_of w.query) (length (list_of_plan w tree)) - n ≡ suc (ask_count (limit_of w.query) (length (list_of_plan w tree)) - suc n) = omega arith in one)

  -- behind an ask that gave no row the plan is asked no more
  pub over-ended : (n : ℕ) → (next_of w tree n).outcome ≡ Ok None → is_over w tree (asks_after w tree n) ≡ true
  over-ended n none = go (is_over w tree n) refl none where
    go : (b : Bool) → is_over w tree n ≡ b → (if b then no_question (Ok None) else next_answer w tree n).outcome ≡ Ok None → is_over w tree (if b then n else suc n) ≡ true
    go true over none = over
    go false more none =
        let all = none-behind (list_of_plan w tree) n (map-none (answer_for w) (slice_get (list_of_plan w tree) n) (row-given n None none)) in
        ap (λ b. is_limit (limit_of w.query) (suc n) || b) (lt-ltb (length (list_of_plan w tree)) (suc n) (omega arith)) ∙ or-true (is_limit (limit_of w.query) (suc n))

  -- so nothing is left
  pub left-ended : (n : ℕ) → (next_of w tree n).outcome ≡ Ok None → asks_left w tree n ≡ asked_step w.catalogue (suc n) (next_of w tree n)
  left-ended n none =
      left-next n ∙ ap (then_step (asked_step w.catalogue (suc n) (next_of w tree n))) (left-over (asks_after w tree n) (over-ended n none))
      ∙ then-still (asked_step w.catalogue (suc n) (next_of w tree n)) w.catalogue (ap (ask_outcome w.catalogue) none)

  -- a plan that is asked no more was asked for all, and one that is asked on wasn't
  pub over-all : (n : ℕ) → is_over w tree n ≡ true → asks_in_all w tree ≤ n
  over-all n over = count-over (limit_of w.query) (length (list_of_plan w tree)) n over

  pub more-all : (n : ℕ) → is_over w tree n ≡ false → n < asks_in_all w tree
  more-all n more = count-more (limit_of w.query) (length (list_of_plan w tree)) n more

  -- an ask that gave a row is one more, and its row is the one at its place
  pub record Given (n : ℕ) : Type 0 where
    pub more : is_over w tree n ≡ false
    pub within : n < length (list_of_plan w tree)

  pub given-row : (n : ℕ) (row : Answer) → (next_of w tree n).outcome ≡ Ok (Some row) → Given n
  given-row n row some = go (is_over w tree n) refl some where
    go : (b : Bool) → is_over w tree n ≡ b → (if b then no_question (Ok None) else next_answer w tree n).outcome ≡ Ok (Some row) → Given n
    go true over e = absurd cc
    go false more e =
        let there = map-some (answer_for w) (slice_get (list_of_plan w tree) n) row (row-given n (Some row) e) in
        record { more = more; within = slice_get_within (list_of_plan w tree) n there.0 there.1 }

  pub asks_after-more : (n : ℕ) → is_over w tree n ≡ false → asks_after w tree n ≡ suc n
  asks_after-more n more = ap (λ b. if b then n else suc n) more

  -- this many rows were given
  pub gave-all : (n : ℕ) → n < length (list_of_plan w tree) → gave_of w 1 tree (suc n) ≡ suc n
  gave-all n within = omega arith

  -- before any ask all asks are left
  pub left-start : asks_left w tree 0 ≡ planned_step w tree
  left-start =
      ap (asks_from w tree 0)
      (let all : ask_count (limit_of w.query) (length (list_of_plan w tree)) - 0 ≡ ask_count (limit_of w.query) (length (list_of_plan w tree)) = omega arith in all)

-- what the plan itself counts stands first
pub first-counts : (w : World) (tree : PlanTree) (n : ℕ) → slice_get (counts_of_plan w tree n) 0 ≡ Some (counts_at w 1 tree n)
first-counts w (SeqScan entry) n = refl
first-counts w (RankScan entry term index) n = refl
first-counts w (Rank term child) n = refl
first-counts w (Distinct child) n = refl
first-counts w (JoinOperator kind left right) n = refl
first-counts w (SetOperator left right) n = refl
