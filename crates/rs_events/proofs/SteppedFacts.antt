-- Steps, and the states that they leave, whatever the state and the type of faults.
use Rattle.std.proofs.Common.{ℕ, ◌≡◌, List, [], Some, None, refl, sym, subst, inl, inr, append-nil}
use Rattle.std.specs.Prelude.{IfOk, Result, Ok, Err}
use Rattle.rs_events.specs.Environment.{Environment}
use Rattle.rs_events.specs.Events.{Event}
use Rattle.rs_events.specs.HaltFaults.{HaltFaults}
use Rattle.rs_events.specs.Run.{Run, lines_run}
use Rattle.rs_events.specs.Running.{Leaves, Ran, Stepped}
use Rattle.rs_events.specs.Sequence.{Step, lines_step, run_of, still}
use Rattle.rs_events.proofs.RanFacts.{HasDone-none, Ran-all, Ran-done, Ran-first, Ran-no_memory}

abbrev pub step_of : {F S : Type 0} → List Event → Result S F → Step F S
step_of events outcome = record { events = events; outcome = outcome }

pub events-run_of : {F S : Type 0} (events : List Event) (outcome : Result S F) → (run_of (step_of events outcome)).events ≡ events
events-run_of events (Ok next) = refl
events-run_of events (Err fault) = refl

-- what was done whole may be followed by a want of memory
Ran-cut : {F : Type 0} {faults : HaltFaults F} (run : Run F) (old new : Environment) → Ran faults run (Ok tt) old new → Ran faults run (Err faults.memory) old new
Ran-cut run old new ran = Ran-no_memory run run.events [] old new (sym (append-nil run.events)) (Ran-done run old new ran).has

module _ {F S : Type 0} {faults : HaltFaults F} where
  -- the same step, of which something follows
  pub Stepped-map : (P Q : Step F S → Type 0) (left : S) (result : Result (Unit {0}) F) (old new : Environment) → ((step : Step F S) → P step → Q step)
      → Stepped faults P left result old new → Stepped faults Q left result old new
  Stepped-map P Q left result old new turn made = record { step = made.step; does = turn made.step made.does; ran = made.ran; leaves = made.leaves }

  -- a step that is known
  pub Stepped-is : (of : Step F S → Type 0) (known : Step F S) (left : S) (result : Result (Unit {0}) F) (old new : Environment) → of known
      → Stepped faults (λ step. step ≡ known) left result old new → Stepped faults of left result old new
  Stepped-is of known left result old new does made = Stepped-map (λ step. step ≡ known) of left result old new (λ step e. subst of (sym e) does) made

  -- a step without an event
  pub Stepped-still : (of : Step F S → Type 0) (outcome : Result S F) (left : S) (result : Result (Unit {0}) F) (environment : Environment) → of (still outcome)
      → Leaves faults.memory outcome left result → Stepped faults of left result environment environment
  Stepped-still of outcome left (Ok done) environment does leaves = record {
    step = still outcome;
    does = does;
    ran = subst (λ o. Ran faults (run_of (still o)) (Ok tt) environment environment) (sym leaves)
        (Ran-all (record { events = []; fault = None }) (Ok tt) environment environment (HasDone-none environment) refl);
    leaves = leaves;
  }
  Stepped-still of outcome left (Err fault) environment does (inl memory) = record {
    step = still outcome;
    does = does;
    ran = subst (λ f. Ran faults (run_of (still outcome)) (Err f) environment environment) (sym memory) (Ran-first (run_of (still outcome)) environment);
    leaves = tt;
  }
  Stepped-still of outcome left (Err fault) environment does (inr e) = record {
    step = still outcome;
    does = does;
    ran = subst (λ o. Ran faults (run_of (still o)) (Err fault) environment environment) (sym e)
        (Ran-all (record { events = []; fault = Some fault }) (Err fault) environment environment (HasDone-none environment) (inl refl));
    leaves = tt;
  }

  -- lines were put, all or those before a fault
  pub Stepped-lines : (lines : List (List ℕ)) (left : S) (result : Result (Unit {0}) F) (old new : Environment) → Ran faults (lines_run lines) result old new
      → Stepped faults (λ step. step ≡ lines_step lines left) left result old new
  Stepped-lines lines left result old new ran = record { step = lines_step lines left; does = refl; ran = ran; leaves = leaves result } where
    leaves : (result : Result (Unit {0}) F) → IfOk result (λ done. (lines_step {F = F} lines left).outcome ≡ Ok left)
    leaves (Ok done) = refl
    leaves (Err fault) = tt

  -- there was no memory for the step
  pub Stepped-no_memory : (of : Step F S → Type 0) (step : Step F S) (left : S) (environment : Environment) → of step → Stepped faults of left (Err faults.memory) environment environment
  Stepped-no_memory of step left environment does = record { step = step; does = does; ran = Ran-first (run_of step) environment; leaves = tt }

  pub Stepped-cut : (of : Step F S → Type 0) (left : S) (old new : Environment) → Stepped faults of left (Ok tt) old new → Stepped faults of left (Err faults.memory) old new
  Stepped-cut of left old new done = record { step = done.step; does = done.does; ran = Ran-cut (run_of done.step) old new done.ran; leaves = tt }
