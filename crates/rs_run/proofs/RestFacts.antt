-- The runs of commands split behind any of the commands.
use Rattle.std.proofs.Common.{ℕ, suc, ◌≡◌, ◌∙◌, ◌+◌, ◌++◌, ◌⊎◌, List, [], ◌∷◌, refl, sym, ap, subst, inl, inr, append_assoc, arith}
use Rattle.std.specs.Prelude.{Option, Result, Ok, Err, length}
use Rattle.rs_outside.specs.Files.{Contents, Finds, StaysKnown, finds_in, found_in}
use Rattle.rs_syntax.specs.Syntax.{Command}
use Rattle.rs_events.specs.Events.{Event}
use Rattle.rs_events.specs.Run.{Run, behind}
use Rattle.rs_events.specs.Sequence.{RunOf, RunsOn, Step}
use Rattle.rs_run.specs.Later.{Leads}
use Rattle.rs_run.specs.Numbered.{DoesNext, Numbered, numbered_step}
use Rattle.rs_run.specs.Rest.{EndsByFault, GoesOn, IsJoined, SplitsAtStatements, events_to, run_to}
use Rattle.rs_run.proofs.TextFacts.{RunOf-finds}

-- events behind others
behind-behind : {F : Type 0} (first second : List Event) (run : Run F) → behind first (behind second run) ≡ behind (first ++ second) run
behind-behind first second run = ap (λ (events : List Event). record { events = events; fault = run.fault }) (sym (append_assoc first second run.events))

-- what each command does, whatever its kind and whatever the state
module _ {F S C : Type 0} (does : S → C → Step F S → Type 0) where
  -- what a command does that doesn't end the run, and the run behind it
  step-then : (first next : S) (command : C) (rest : List C) (step : Step F S) (more run : Run F) → does first command step → step.outcome ≡ Ok next → RunOf does next rest more
      → run ≡ behind step.events more → RunOf does first (command ∷ rest) run
  step-then first next command rest step more run is ends on run_is =
      (step, is, subst (λ (o : Result S F). RunsOn (λ next more. RunOf does next rest more) step.events o run) (sym ends) (more, on, run_is))

  -- the first commands have a run without a fault, where they lead to a state
  pub front-run : (first : S) (front : List C) (later : S) (leads : Leads does first front later) → RunOf does first front (run_to does first front later leads)
  front-run first [] later leads = refl
  front-run first (command ∷ front) later leads =
      step-then first leads.0 command front leads.1 (run_to does leads.0 front later leads.4) (run_to does first (command ∷ front) later leads) leads.2 leads.3
      (front-run leads.0 front later leads.4) refl

  -- from where they lead the rest does what is left of a run of all
  pub joined-run : (first : S) (front rest : List C) (later : S) (leads : Leads does first front later) (run : Run F)
      → GoesOn does (events_to does first front later leads) later rest run → RunOf does first (front ++ rest) run
  joined-run first [] rest later leads run goes_on =
      subst (λ (s : S). RunOf does s rest run) leads (subst (λ (r : Run F). RunOf does later rest r) (sym goes_on.run_is) goes_on.is)
  joined-run first (command ∷ front) rest later leads run goes_on =
      let made = events_to does leads.0 front later leads.4 in
      step-then first leads.0 command (front ++ rest) leads.1 (behind made goes_on.more) run leads.2 leads.3
      (joined-run leads.0 front rest later leads.4 (behind made goes_on.more) (record { more = goes_on.more; is = goes_on.is; run_is = refl }))
      (goes_on.run_is ∙ sym (behind-behind leads.1.events made goes_on.more))

  -- each run of all is such a one, or a fault of the first commands ends it
  pub parted-run : (first : S) (front rest : List C) (run : Run F) → RunOf does first (front ++ rest) run → IsJoined does first front rest run ⊎ EndsByFault does first front run
  parted-run first [] rest run is = inl (record { later = first; leads = refl; goes_on = record { more = run; is = is; run_is = refl } })
  parted-run first (command ∷ front) rest run is = go (λ next more. parted-run next front rest more) is.0.outcome refl is.2 where
    go : ((next : S) (more : Run F) → RunOf does next (front ++ rest) more → IsJoined does next front rest more ⊎ EndsByFault does next front more)
        → (outcome : Result S F) → is.0.outcome ≡ outcome → RunsOn (λ next more. RunOf does next (front ++ rest) more) is.0.events outcome run
        → IsJoined does first (command ∷ front) rest run ⊎ EndsByFault does first (command ∷ front) run
    go each (Err fault) e on = inr (record {
      is = (is.0, is.1, subst (λ (o : Result S F). RunsOn (λ next more. RunOf does next front more) is.0.events o run) (sym e) on);
      fault = fault;
      is_fault = ap (λ (r : Run F). r.fault) on;
    })
    go each (Ok next) e on = elim (each next on.0 on.1) [
      | inl joined ↦ inl (record {
        later = joined.later;
        leads = (next, is.0, is.1, e, joined.leads);
        goes_on = record {
          more = joined.goes_on.more;
          is = joined.goes_on.is;
          run_is = on.2 ∙ ap (behind is.0.events) joined.goes_on.run_is
              ∙ behind-behind is.0.events (events_to does next front joined.later joined.leads) joined.goes_on.more;
        };
      })
      | inr ends ↦ inr (record {
        is = step-then first next command front is.0 on.0 run is.1 e ends.is on.2;
        fault = ends.fault;
        is_fault = ap (λ (r : Run F). r.fault) on.2 ∙ ends.is_fault;
      })
    ]

  -- where each command does one thing at most, each run of all has the events of the first commands, and goes on from their state
  pub same-front : ((state : S) (command : C) (a b : Step F S) → does state command a → does state command b → a ≡ b)
      → (first : S) (front rest : List C) (later : S) (leads : Leads does first front later) (run : Run F) → RunOf does first (front ++ rest) run
      → GoesOn does (events_to does first front later leads) later rest run
  same-front one first [] rest later leads run is = record { more = run; is = subst (λ (s : S). RunOf does s rest run) (sym leads) is; run_is = refl }
  same-front one first (command ∷ front) rest later leads run is =
      let on = subst (λ (o : Result S F). RunsOn (λ next more. RunOf does next (front ++ rest) more) leads.1.events o run) leads.3
      (subst (λ (step : Step F S). RunsOn (λ next more. RunOf does next (front ++ rest) more) step.events step.outcome run) (one first command is.0 leads.1 is.1 leads.2) is.2) in
      let goes_on = same-front one leads.0 front rest later leads.4 on.0 on.1 in record {
        more = goes_on.more;
        is = goes_on.is;
        run_is = on.2 ∙ ap (behind leads.1.events) goes_on.run_is ∙ behind-behind leads.1.events (events_to does leads.0 front later leads.4) goes_on.more;
      }

-- so it is of scripts, whatever is made of their statements, where each does one thing at most, and no less where less is known of the files
pub script-splits : {F S : Type 0} (does : Finds → S → Command → Step F S → Type 0) (first : S)
    → ((there : List ℕ → Option (List ℕ)) (state : S) (command : Command) (a b : Step F S) → does (found_in there) state command a → does (found_in there) state command b → a ≡ b)
    → ((old new : Contents) → StaysKnown old new → (state : S) (command : Command) (step : Step F S) → does (finds_in new) state command step → does (finds_in old) state command step)
    → SplitsAtStatements does first (λ finds. RunOf (does finds) first)
script-splits does first one less = record {
  splits = λ contents. let here = does (finds_in contents) in record {
    starts = front-run here first;
    joins = λ front rest run joined. joined-run here first front rest joined.later joined.leads run joined.goes_on;
    parts = parted-run here first;
  };
  same = λ there. same-front (does (found_in there)) (one there) first;
  known = λ old new later rest run stays. RunOf-finds (does (finds_in new)) (does (finds_in old)) (less old new stays) later rest run;
}

-- commands that lead somewhere count on by their number
pub number-later : {F K : Type 0} (does : ℕ → K → Command → Step F K → Type 0) (first : Numbered K) (front : List Command) (later : Numbered K) → Leads (DoesNext does) first front later
    → later.number ≡ length front + first.number
number-later {F} {K} does first [] later leads = let same : later.number ≡ first.number = ap (λ (s : Numbered K). s.number) leads in omega (arith, same)
number-later {F} {K} does first (command ∷ front) later leads =
    let rest : later.number ≡ length front + leads.0.number = number-later does leads.0 front later leads.4 in
    let next : leads.0.number ≡ suc first.number = left leads.2.0.outcome (subst (λ (s : Step F (Numbered K)). s.outcome ≡ Ok leads.0) leads.2.2 leads.3) in
    omega (arith, rest, next) where
      left : (outcome : Result K F) → (numbered_step first.number (record leads.2.0 { outcome = outcome })).outcome ≡ Ok leads.0 → leads.0.number ≡ suc first.number
      left (Ok kept) e = let is : record { number = suc first.number; kept = kept } ≡ leads.0 = cc in sym (ap (λ (s : Numbered K). s.number) is)
      left (Err fault) e = absurd cc
