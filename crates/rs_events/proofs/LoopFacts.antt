-- Commands that were run one after another.
use Rattle.std.proofs.Common.{ℕ, zero, suc, ◌≡◌, ◌≤◌, ◌++◌, List, [], ◌∷◌, Some, None, refl, sym, ap, subst, append_assoc, append-nil, arith}
use Rattle.std.specs.Prelude.{Result, Ok, Err, drop, length, map, slice_index_or, ◌<◌}
use Rattle.rs_events.specs.Environment.{Environment}
use Rattle.rs_events.specs.Events.{Event}
use Rattle.rs_events.specs.HaltFaults.{HaltFaults}
use Rattle.rs_events.specs.Run.{Run, behind}
use Rattle.rs_events.specs.Running.{HasDone, Ran, Runs, Stepped}
use Rattle.rs_events.specs.Sequence.{RunOf, RunsOn, Step, run_of}
use Rattle.rs_events.proofs.RanFacts.{HasDone-append, HasDone-none, Ran-all, Ran-behind, Ran-done, Ran-longer}
use Rattle.rs_events.proofs.SteppedFacts.{events-run_of, step_of}

-- what each command does, whatever its kind and whatever the state
module _ {F S C : Type 0} (does : S → C → Step F S → Type 0) where
  -- a step that is done, and the run behind it
  runs-step : (state : S) (command : C) (rest : List C) (step : Step F S) (run : Run F) → does state command step
      → RunsOn (λ next more. RunOf does next rest more) step.events step.outcome run → RunOf does state (command ∷ rest) run
  runs-step state command rest step run is on = (step, is, on)

  -- where each command does something, commands have a run
  pub some-run : ((state : S) (command : C) → (step : Step F S) × does state command step) → (state : S) (commands : List C)
      → (made : Run F) × RunOf does state commands made
  some-run some state [] = (record { events = []; fault = None }, refl)
  some-run some state (command ∷ rest) =
      let first = some state command in go (λ next. some-run some next rest) first.0 first.1 first.0.outcome refl where
        go : ((next : S) → (made : Run F) × RunOf does next rest made) → (step : Step F S) → does state command step → (outcome : Result S F) → step.outcome ≡ outcome
            → (made : Run F) × RunOf does state (command ∷ rest) made
        go later step is (Err fault) e = (
          record { events = step.events; fault = Some fault },
          runs-step state command rest step (record { events = step.events; fault = Some fault }) is
              (subst (λ o. RunsOn (λ next more. RunOf does next rest more) step.events o (record { events = step.events; fault = Some fault })) (sym e) refl),
        )
        go later step is (Ok next) e = let more = later next in (
          behind step.events more.0,
          runs-step state command rest step (behind step.events more.0) is
              (subst (λ o. RunsOn (λ next more. RunOf does next rest more) step.events o (behind step.events more.0)) (sym e) (more.0, more.1, refl)),
        )

  -- what the commands up to a place did, and what is left of the run
  pub record Between (first : S) (commands : List C) (i : ℕ) (state : S) (old new : Environment) : Type 0 where
    pub made : List Event
    pub leads : (run : Run F) → RunOf does state (drop i commands) run → RunOf does first commands (behind made run)
    pub has : HasDone made old new

  pub Between-start : (first : S) (commands : List C) (environment : Environment) → Between first commands 0 first environment environment
  Between-start first commands environment = record { made = []; leads = λ run r. r; has = HasDone-none environment }

  module _ (first : S) (commands rest : List C) (command : C) (i : ℕ) (state left : S) (old middle new : Environment) (between : Between first commands i state old middle)
      (here : drop i commands ≡ command ∷ rest) where
    leads-step : (step : Step F S) → does state command step → (run : Run F) → RunsOn (λ next more. RunOf does next rest more) step.events step.outcome run
        → RunOf does first commands (behind between.made run)
    leads-step step is run on = between.leads run (subst (λ left. RunOf does state left run) (sym here) (step, is, on))

    pub Between-next : {faults : HaltFaults F} (place : ℕ) → place ≡ suc i → drop (suc i) commands ≡ rest → Stepped faults (does state command) left (Ok tt) middle new → Between first commands place left old new
    Between-next place is next stepped = subst (λ n. Between first commands n left old new) (sym is) (record {
      made = between.made ++ stepped.step.events;
      leads = λ run r. subst (RunOf does first commands)
          (ap (λ (events : List Event). record { events = events; fault = run.fault }) (sym (append_assoc between.made stepped.step.events run.events)))
          (leads-step stepped.step stepped.does (behind stepped.step.events run)
          (subst (λ o. RunsOn (λ next more. RunOf does next rest more) stepped.step.events o (behind stepped.step.events run)) (sym stepped.leaves)
          (run, subst (λ commands. RunOf does left commands run) next r, refl)));
      has = HasDone-append between.made stepped.step.events old middle new between.has
          (subst (λ events. HasDone events middle new) (events-run_of stepped.step.events stepped.step.outcome) (Ran-done (run_of stepped.step) middle new stepped.ran).has);
    })

    -- a command ended the run
    pub Runs-stops : {faults : HaltFaults F} → ((state : S) (command : C) → (step : Step F S) × does state command step) → (fault : F)
        → Stepped faults (does state command) left (Err fault) middle new → Runs faults (RunOf does first commands) (Err fault) old new
    Runs-stops {faults} some fault stepped = go stepped.step stepped.does stepped.ran stepped.step.outcome refl where
      behind-made : (run : Run F) → RunOf does first commands (behind between.made run) → Ran faults run (Err fault) middle new → Runs faults (RunOf does first commands) (Err fault) old new
      behind-made run leads ran = record { run = behind between.made run; is = leads; ran = Ran-behind between.made run (Err fault) old middle new between.has ran }

      go : (step : Step F S) → does state command step → Ran faults (run_of step) (Err fault) middle new → (outcome : Result S F) → step.outcome ≡ outcome
          → Runs faults (RunOf does first commands) (Err fault) old new
      go step done ran (Err own) e = behind-made (record { events = step.events; fault = Some own })
          (leads-step step done (record { events = step.events; fault = Some own })
          (subst (λ o. RunsOn (λ next more. RunOf does next rest more) step.events o (record { events = step.events; fault = Some own })) (sym e) refl))
          (subst (λ o. Ran faults (run_of (step_of step.events o)) (Err fault) middle new) e ran)
      go step done ran (Ok next) e =
          let later = some-run some next rest in
          behind-made (behind step.events later.0)
          (leads-step step done (behind step.events later.0)
          (subst (λ o. RunsOn (λ next more. RunOf does next rest more) step.events o (behind step.events later.0)) (sym e) (later.0, later.1, refl)))
          (Ran-longer step.events later.0 fault middle new (subst (λ o. Ran faults (run_of (step_of step.events o)) (Err fault) middle new) e ran))

  -- all commands were run
  pub Runs-all : {faults : HaltFaults F} (first : S) (commands : List C) (i : ℕ) (state : S) (old new : Environment) → drop i commands ≡ [] → Between first commands i state old new
      → Runs faults (RunOf does first commands) (Ok tt) old new
  Runs-all first commands i state old new none between = record {
    run = behind between.made (record { events = []; fault = None });
    is = between.leads (record { events = []; fault = None }) (subst (λ left. RunOf does state left (record { events = []; fault = None })) (sym none) refl);
    ran = Ran-all (behind between.made (record { events = []; fault = None })) (Ok tt) old new (subst (λ events. HasDone events old new) (sym (append-nil between.made)) between.has) refl;
  }

-- the next one of a list
pub drop-at : {A B : Type 0} (f : A → B) (xs : List A) (i : ℕ) (x : A) → i < length xs → x ≡ slice_index_or xs i x → drop i (map f xs) ≡ f x ∷ drop (suc i) (map f xs)
drop-at f [] i x within e = absurd (omega (arith, within))
drop-at f (y ∷ ys) zero x within e = ap (λ first. f first ∷ map f ys) (sym e)
drop-at f (y ∷ ys) (suc i) x within e = drop-at f ys i x (omega (arith, within)) e

pub drop-all : {A B : Type 0} (f : A → B) (xs : List A) (i : ℕ) → length xs ≤ i → drop i (map f xs) ≡ []
drop-all f [] zero within = refl
drop-all f [] (suc i) within = refl
drop-all f (y ∷ ys) zero within = absurd (omega (arith, within))
drop-all f (y ∷ ys) (suc i) within = drop-all f ys i (omega (arith, within))
