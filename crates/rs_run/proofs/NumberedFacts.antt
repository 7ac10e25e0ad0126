-- Statements that are done one after another by their numbers.
use Rattle.std.proofs.Common.{ℕ, suc, ◌≡◌, ◌∙◌, List, [], ◌∷◌, refl, sym, ap, subst}
use Rattle.std.specs.Prelude.{IfOk, Result, Ok, Err}
use Rattle.rs_syntax.specs.Syntax.{Command}
use Rattle.rs_expr.specs.Scoring.{Answering}
use Rattle.rs_outside.specs.Files.{Finds, finds_in}
use Rattle.rs_events.specs.Environment.{Environment}
use Rattle.rs_events.specs.Events.{Event}
use Rattle.rs_events.specs.HaltFaults.{HaltFaults}
use Rattle.rs_events.specs.Run.{Run}
use Rattle.rs_events.specs.Running.{HasDone, Ran, Stepped}
use Rattle.rs_events.specs.Sequence.{RunOf, RunsOn, Step, run_of}
use Rattle.rs_events.proofs.SteppedFacts.{Stepped-map, step_of}
use Rattle.rs_run.specs.Numbered.{DoesNext, IsDialect, Numbered, numbered_step}

module _ {F K : Type 0} where
  -- what is done of a numbered step is what is done of its own step
  pub run_of-numbered : (number : ℕ) (step : Step F K) → run_of (numbered_step number step) ≡ run_of step
  run_of-numbered number step = go step.outcome where
    go : (outcome : Result K F) → run_of (numbered_step number (step_of step.events outcome)) ≡ run_of (step_of step.events outcome)
    go (Ok next) = refl
    go (Err fault) = refl

  -- and what it leaves
  pub numbered-ok : (number : ℕ) (own : Step F K) (next : Numbered K) → (numbered_step number own).outcome ≡ Ok next → own.outcome ≡ Ok next.kept
  numbered-ok number own next = go own.outcome where
    go : (outcome : Result K F) → (numbered_step number (step_of own.events outcome)).outcome ≡ Ok next → outcome ≡ Ok next.kept
    go (Ok kept) e = let is : record { number = suc number; kept = kept } ≡ next = cc in ap (λ (s : Numbered K). Ok s.kept) is
    go (Err fault) e = cc

-- each statement does one thing, so the next one does
pub DoesNext-one : {F K : Type 0} (does : ℕ → K → Command → Step F K → Type 0) → ((number : ℕ) (kept : K) (command : Command) (a b : Step F K) → does number kept command a → does number kept command b → a ≡ b)
    → (state : Numbered K) (command : Command) (a b : Step F (Numbered K)) → DoesNext does state command a → DoesNext does state command b → a ≡ b
DoesNext-one does one state command a b p q = p.2 ∙ ap (numbered_step state.number) (one state.number state.kept command p.0 q.0 p.1 q.1) ∙ sym q.2

-- each does something
pub some-next : {F K : Type 0} (does : ℕ → K → Command → Step F K → Type 0) → ((number : ℕ) (kept : K) (command : Command) → (step : Step F K) × does number kept command step)
    → (state : Numbered K) (command : Command) → (step : Step F (Numbered K)) × DoesNext does state command step
some-next does some state command = let own = some state.number state.kept command in (numbered_step state.number own.0, (own.0, own.1, refl))

-- where each does as much as under another reading
pub DoesNext-turn : {F K : Type 0} (a b : ℕ → K → Command → Step F K → Type 0) → ((number : ℕ) (kept : K) (command : Command) (step : Step F K) → a number kept command step → b number kept command step)
    → (state : Numbered K) (command : Command) (step : Step F (Numbered K)) → DoesNext a state command step → DoesNext b state command step
DoesNext-turn a b turn state command step does = (does.0, turn state.number state.kept command does.0 does.1, does.2)

-- a statement that was done, before the one of the next number
pub Stepped-numbered : {F K : Type 0} {faults : HaltFaults F} (does : ℕ → K → Command → Step F K → Type 0) (number next : ℕ) (kept left : K) (command : Command) (result : Result (Unit {0}) F) (old new : Environment)
    → next ≡ suc number → Stepped faults (does number kept command) left result old new
    → Stepped faults (DoesNext does (record { number = number; kept = kept }) command) (record { number = next; kept = left }) result old new
Stepped-numbered {F} {K} {faults} does number next kept left command result old new is_next stepped = record {
  step = numbered_step number stepped.step;
  does = (stepped.step, stepped.does, refl);
  ran = subst (λ (run : Run F). Ran faults run result old new) (sym (run_of-numbered number stepped.step)) stepped.ran;
  leaves = leaves result stepped.leaves;
} where
  leaves : (result : Result (Unit {0}) F) → IfOk result (λ done. stepped.step.outcome ≡ Ok left)
      → IfOk result (λ done. (numbered_step number stepped.step).outcome ≡ Ok (record { number = next; kept = left }))
  leaves (Ok done) is =
      ap (λ (outcome : Result K F). (numbered_step number (step_of stepped.step.events outcome)).outcome) is
      ∙ ap (λ (n : ℕ). Ok (record { number = n; kept = left })) (sym is_next)
  leaves (Err fault) is = tt

-- the same behind events that were done: it does what it does over what was there at first
pub Stepped-next : {F K : Type 0} {faults : HaltFaults F} (does : Finds → Answering → ℕ → K → Command → Step F K → Type 0) → IsDialect does
    → (made : List Event) (number next : ℕ) (kept left : K) (command : Command) (result : Result (Unit {0}) F) (old middle new : Environment) → next ≡ suc number → HasDone made old middle
    → Stepped faults (does (finds_in middle.files.contents) middle.scorer.answer number kept command) left result middle new
    → Stepped faults (DoesNext (does (finds_in old.files.contents) old.scorer.answer) (record { number = number; kept = kept }) command) (record { number = next; kept = left }) result middle new
Stepped-next does dialect made number next kept left command result old middle new is_next has stepped =
    Stepped-numbered (does (finds_in old.files.contents) old.scorer.answer) number next kept left command result middle new is_next
    (Stepped-map (does (finds_in middle.files.contents) middle.scorer.answer number kept command) (does (finds_in old.files.contents) old.scorer.answer number kept command) left result middle new
    (λ step is. dialect.less old.files.contents middle.files.contents has.keeps.files.contents old.scorer.answer number kept command step
    (subst (λ answer. does (finds_in middle.files.contents) answer number kept command step) has.keeps.scorer.answer is)) stepped)

-- statements to which their numbers mean nothing
pub RunOf-unnumbered : {F K : Type 0} (does : K → Command → Step F K → Type 0) (state : Numbered K) (commands : List Command) (run : Run F)
    → RunOf (DoesNext (λ number. does)) state commands run → RunOf does state.kept commands run
RunOf-unnumbered does state [] run is = is
RunOf-unnumbered {F} {K} does state (command ∷ rest) run is = (
  is.1.0,
  is.1.1,
  on is.1.0.outcome (λ next more r. RunOf-unnumbered does (record { number = suc state.number; kept = next }) rest more r)
      (subst (λ (step : Step F (Numbered K)). RunsOn (λ next more. RunOf (DoesNext (λ number. does)) next rest more) step.events step.outcome run) is.1.2 is.2),
) where
  on : (outcome : Result K F) → ((next : K) (more : Run F) → RunOf (DoesNext (λ number. does)) (record { number = suc state.number; kept = next }) rest more → RunOf does next rest more)
      → RunsOn (λ next more. RunOf (DoesNext (λ number. does)) next rest more) is.1.0.events (numbered_step state.number (step_of is.1.0.events outcome)).outcome run
      → RunsOn (λ next more. RunOf does next rest more) is.1.0.events outcome run
  on (Err fault) turn r = r
  on (Ok next) turn r = (r.0, turn next r.0 r.1, r.2)
