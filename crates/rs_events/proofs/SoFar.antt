-- A step that is done part by part.
use Rattle.std.proofs.Common.{◌≡◌, ◌∙◌, ◌++◌, List, [], Some, None, refl, sym, ap, subst, append_assoc}
use Rattle.std.specs.Prelude.{Result, Ok, Err, IfOk}
use Rattle.rs_events.specs.Environment.{Environment}
use Rattle.rs_events.specs.Events.{Event}
use Rattle.rs_events.specs.HaltFaults.{HaltFaults}
use Rattle.rs_events.specs.Run.{behind}
use Rattle.rs_events.specs.Running.{HasDone, Ran, Stepped}
use Rattle.rs_events.specs.Sequence.{Step, run_of, then_step}
use Rattle.rs_events.proofs.RanFacts.{HasDone-append, HasDone-none, Ran-behind, Ran-done, Ran-longer}
use Rattle.rs_events.proofs.SteppedFacts.{events-run_of, step_of}

-- events, and then a step
abbrev pub step_behind : {F S : Type 0} → List Event → Step F S → Step F S
step_behind made step = record { events = made ++ step.events; outcome = step.outcome }

-- of a step these events were done, and this is left
pub record SoFar {F S : Type 0} (whole left : Step F S) (old new : Environment) : Type 0 where
  pub made : List Event
  pub is : whole ≡ step_behind made left
  pub has : HasDone made old new

pub SoFar-start : {F S : Type 0} (whole : Step F S) (environment : Environment) → SoFar whole whole environment environment
SoFar-start whole environment = record { made = []; is = refl; has = HasDone-none environment }

run_of-behind : {F S : Type 0} (made : List Event) (step : Step F S) → run_of (step_behind made step) ≡ behind made (run_of step)
run_of-behind {F} {S} made step = go step.outcome where
  go : (outcome : Result S F) → run_of (step_behind made (step_of step.events outcome)) ≡ behind made (run_of (step_of step.events outcome))
  go (Ok next) = refl
  go (Err fault) = refl

module _ {F S T : Type 0} (first : Step F T) (rest : Step F S) where
  then_step-ok : (left : T) → first.outcome ≡ Ok left → then_step first rest ≡ step_behind first.events rest
  then_step-ok left e = ap (λ o. then_step (step_of first.events o) rest) e

  -- where the first part broke off, the whole did
  pub Stepped-broken : {faults : HaltFaults F} (fault : F) (left : T) (all : S) (old new : Environment) → Stepped faults (λ step. step ≡ first) left (Err fault) old new
      → Stepped faults (λ step. step ≡ then_step first rest) all (Err fault) old new
  Stepped-broken {faults} fault left all old new stepped = record {
    step = then_step first rest;
    does = refl;
    ran = go first.outcome (subst (λ step. Ran faults (run_of step) (Err fault) old new) stepped.does stepped.ran);
    leaves = tt;
  } where
    longer : (outcome : Result S F) → Ran faults (record { events = first.events; fault = None }) (Err fault) old new
        → Ran faults (run_of (step_behind first.events (step_of rest.events outcome))) (Err fault) old new
    longer (Ok state) ran = Ran-longer first.events (record { events = rest.events; fault = None }) fault old new ran
    longer (Err own) ran = Ran-longer first.events (record { events = rest.events; fault = Some own }) fault old new ran

    go : (outcome : Result T F) → Ran faults (run_of (step_of first.events outcome)) (Err fault) old new → Ran faults (run_of (then_step (step_of first.events outcome) rest)) (Err fault) old new
    go (Ok state) ran = longer rest.outcome ran
    go (Err own) ran = ran

module _ {F S : Type 0} (whole : Step F S) (old middle new : Environment) where
  -- one part more was done
  pub SoFar-more : {T : Type 0} {faults : HaltFaults F} (first : Step F T) (rest : Step F S) (left : T) → SoFar whole (then_step first rest) old middle
      → Stepped faults (λ step. step ≡ first) left (Ok tt) middle new → SoFar whole rest old new
  SoFar-more first rest left so_far stepped = record {
    made = so_far.made ++ first.events;
    is = so_far.is ∙ ap (step_behind so_far.made) (then_step-ok first rest left (sym (ap (λ step. step.outcome) stepped.does) ∙ stepped.leaves))
        ∙ ap (λ events. step_of events rest.outcome) (sym (append_assoc so_far.made first.events rest.events));
    has = HasDone-append so_far.made first.events old middle new so_far.has
        (subst (λ events. HasDone events middle new) (events-run_of stepped.step.events stepped.step.outcome ∙ ap (λ step. step.events) stepped.does)
        (Ran-done (run_of stepped.step) middle new stepped.ran).has);
  }

  -- what was left was done, or broke off
  pub SoFar-ends : {faults : HaltFaults F} (left : Step F S) (state : S) (result : Result (Unit {0}) F) → SoFar whole left old middle → Stepped faults (λ step. step ≡ left) state result middle new
      → Stepped faults (λ step. step ≡ whole) state result old new
  SoFar-ends {faults} left state result so_far stepped = record {
    step = whole;
    does = refl;
    ran = subst (λ run. Ran faults run result old new) (sym (ap run_of so_far.is ∙ run_of-behind so_far.made left))
        (Ran-behind so_far.made (run_of left) result old middle new so_far.has (subst (λ step. Ran faults (run_of step) result middle new) stepped.does stepped.ran));
    leaves = go result stepped.leaves;
  } where
    go : (result : Result (Unit {0}) F) → IfOk result (λ done. stepped.step.outcome ≡ Ok state) → IfOk result (λ done. whole.outcome ≡ Ok state)
    go (Ok done) leaves = ap (λ step. step.outcome) so_far.is ∙ sym (ap (λ step. step.outcome) stepped.does) ∙ leaves
    go (Err fault) leaves = tt
