-- A run over files of its own, beside the files outside.
use Rattle.std.proofs.Common.{ℕ, ◌≡◌, ◌∙◌, ◌++◌, List, [], ◌∷◌, true, refl, sym, ap, subst}
use Rattle.std.specs.Prelude.{Result, Err, option_map}
use Rattle.rs_outside.specs.Files.{FilesState, Finds, finds_in}
use Rattle.rs_outside.proofs.ContentsFacts.{KeepsFiles-refl}
use Rattle.rs_outside.specs.MemFiles.{files_state}
use Rattle.rs_expr.specs.Scoring.{Answering, Made}
use Rattle.rs_gen.specs.Files.{generated, script_name}
use Rattle.rs_statement.specs.declared.evaluating.Evaluating.TheVariants.{Planned}
use Rattle.rs_statement.specs.declared.sampling.Sampling.TheVariants.{ByScores}
use Rattle.rs_statement.specs.declared.fault.Fault.{Fault}
use Rattle.rs_statement.specs.declared.fault.Fault.TheVariants.{Memory}
use Rattle.rs_run.specs.Generated.{finds_generated, unfetched, without_fetches}
use Rattle.rs_events.specs.Halts.{CallFailed, Done, Ended, FetchFailed, Halt, HaltsAt, NoMemory, PutFailed, fetched_more, halt_events}
use Rattle.rs_statement.specs.Parts.Steps.{Ran, Runs}
use Rattle.rs_events.specs.Events.{Event, Fetch, Put, Score, calls, fetches, puts}
use Rattle.rs_statement.specs.Steps.{Run}
use Rattle.rs_run.specs.Running.{IsRunOf, IsScriptRun}
use Rattle.rs_run.specs.Words.{RunGenerated, RunScript}
use Rattle.rs_events.specs.Environment.{Environment}
use Rattle.rs_events.proofs.RanFacts.{Ran-first, told-none}
use Rattle.rs_run.proofs.EachFacts.{each_generated}

-- events without their fetches: nothing is fetched, and the calls and puts are those that were there
fetches-without : (events : List Event) → fetches (without_fetches events) ≡ []
fetches-without [] = refl
fetches-without (Fetch name ∷ rest) = fetches-without rest
fetches-without (Score call ∷ rest) = fetches-without rest
fetches-without (Put bytes ∷ rest) = fetches-without rest

calls-without : (events : List Event) → calls (without_fetches events) ≡ calls events
calls-without [] = refl
calls-without (Fetch name ∷ rest) = calls-without rest
calls-without (Score call ∷ rest) = ap (λ more. call ∷ more) (calls-without rest)
calls-without (Put bytes ∷ rest) = calls-without rest

puts-without : (events : List Event) → puts (without_fetches events) ≡ puts events
puts-without [] = refl
puts-without (Fetch name ∷ rest) = puts-without rest
puts-without (Score call ∷ rest) = puts-without rest
puts-without (Put bytes ∷ rest) = ap (λ more. bytes ∷ more) (puts-without rest)

without-append : (a b : List Event) → without_fetches (a ++ b) ≡ without_fetches a ++ without_fetches b
without-append [] b = refl
without-append (Fetch name ∷ rest) b = without-append rest b
without-append (Score call ∷ rest) b = ap (λ more. Score call ∷ more) (without-append rest b)
without-append (Put bytes ∷ rest) b = ap (λ more. Put bytes ∷ more) (without-append rest b)

-- with other files, which stay as they are
abbrev beside : FilesState → Environment → Environment
beside outside environment = record environment { files = outside }

module _ (outside : FilesState) (old new : Environment) where
  Done-beside : (events : List Event) → Done events old new → Done (without_fetches events) (beside outside old) (beside outside new)
  Done-beside events done = record {
    fetched = told-none outside.outside.told ∙ ap (λ names. option_map (fetched_more names) outside.outside.told) (sym (fetches-without events));
    called = subst (λ all. Made all old.scorer new.scorer) (sym (calls-without events)) done.called;
    put = done.put ∙ ap (λ all. option_map (λ pieces. pieces ++ all) old.out.told) (sym (puts-without events));
  }

  -- no fetch of steady files fails
  halts-beside : old.files.outside.steady ≡ true → (halt : Halt) (rest : List Event) → HaltsAt halt rest old new → HaltsAt halt (without_fetches rest) (beside outside old) (beside outside new)
  halts-beside steady Ended rest halts = ap without_fetches halts
  halts-beside steady NoMemory rest halts = tt
  halts-beside steady (PutFailed part) rest halts = (halts.0, without_fetches halts.1, ap without_fetches halts.2, halts.3, halts.4)
  halts-beside steady (FetchFailed name) rest halts = absurd (let unsteady = sym steady ∙ halts.2.unsteady in cc)
  halts-beside steady (CallFailed call) rest halts = (without_fetches halts.0, ap without_fetches halts.1, halts.2)

  events-beside : old.files.outside.steady ≡ true → (halt : Halt) (rest : List Event) → HaltsAt halt rest old new → without_fetches (halt_events halt) ≡ halt_events halt
  events-beside steady Ended rest halts = refl
  events-beside steady NoMemory rest halts = refl
  events-beside steady (PutFailed part) rest halts = refl
  events-beside steady (FetchFailed name) rest halts = absurd (let unsteady = sym steady ∙ halts.2.unsteady in cc)
  events-beside steady (CallFailed call) rest halts = refl

  Ran-beside : old.files.outside.steady ≡ true → (run : Run) (result : Result (Unit {0}) Fault) → Ran run result old new → Ran (unfetched run) result (beside outside old) (beside outside new)
  Ran-beside steady run result ran = record {
    halt = ran.halt;
    did = record {
      done = without_fetches ran.did.done;
      rest = without_fetches ran.did.rest;
      split = ap without_fetches ran.did.split ∙ without-append ran.did.done ran.did.rest;
      halts = halts-beside steady ran.halt ran.did.rest ran.did.halts;
      all = subst (λ events. Done events (beside outside old) (beside outside new))
          (without-append ran.did.done (halt_events ran.halt)
          ∙ ap (λ last. without_fetches ran.did.done ++ last) (events-beside steady ran.halt ran.did.rest ran.did.halts))
          (Done-beside (ran.did.done ++ halt_events ran.halt) ran.did.all);
    };
    fault = ran.fault;
    is_fault = ran.is_fault;
    answers = ran.answers;
    keeps = record { files = KeepsFiles-refl outside; scorer = ran.keeps.scorer; out = ran.keeps.out; err = ran.keeps.err; references = ran.keeps.references };
  }

  -- the script of this name, which was run over the generated files
  pub Runs-generated : (answer : Answering) (number rows : ℕ) (name : List ℕ) (result : Result (Unit {0}) Fault) → name ≡ script_name → old.files ≡ files_state (generated number rows)
      → Runs (IsRunOf (finds_in old.files.contents) answer (RunScript name (Planned (ByScores number)))) result old new
      → Runs (IsRunOf (finds_in outside.contents) answer (RunGenerated number rows)) result
      (beside outside old) (beside outside new)
  Runs-generated answer number rows name result named same ran = record {
    run = unfetched ran.run;
    is = (
      ran.run,
      subst (λ (name : List ℕ). IsScriptRun (finds_generated number rows) answer name (Planned (ByScores number)) ran.run) named
          (subst (λ (files : FilesState). IsScriptRun (finds_in files.contents) answer name (Planned (ByScores number)) ran.run) same ran.is),
      refl,
    );
    ran = Ran-beside (ap (λ (files : FilesState). files.outside.steady) same) ran.run result ran.ran;
  }

-- there was no memory for the script or its files: nothing was done
pub Runs-generated_none : (finds : Finds) (answer : Answering) (number rows : ℕ) (environment : Environment) → Runs (IsRunOf finds answer (RunGenerated number rows)) (Err Memory) environment environment
Runs-generated_none finds answer number rows environment =
    let each = each_generated finds answer number rows in
    record { run = each.0; is = each.1; ran = Ran-first each.0 environment }
