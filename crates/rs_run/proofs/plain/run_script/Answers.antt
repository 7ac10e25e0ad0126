use Rattle.std.proofs.Common.{◌≡◌, subst}
use Rattle.rs_outside.specs.Files.{finds_in}
use Rattle.rs_events.specs.Running.{Runs}
use Rattle.rs_statement.specs.Parts.Session.{cursors_of, held_in, state_of}
use Rattle.rs_statement.specs.Session.{DoesInSession, State, StatementsRun, nothing}
use Rattle.rs_statement.specs.Steps.{statement_faults}
use Rattle.rs_statement.proofs.StatementFacts.{DoesInSession-finds, some-step}
use Rattle.rs_outside.proofs.ContentsFacts.{finds-before}
use Rattle.rs_run.specs.Numbered.{NumberedRun, first_statement}
use Rattle.rs_run.specs.Plain.{ScriptRuns, as_it_is}
use Rattle.rs_run.proofs.NumberedFacts.{RunOf-unnumbered}
use Rattle.rs_run.proofs.TextFacts.{ScriptRuns-turn}
use Rattle.rs_run.proofs.plain.run_script.Goals as goal

pub interpret-done-requires-clause-dialect : goal.interpret-done-requires-clause-dialect
interpret-done-requires-clause-dialect g c = record {
  some = λ contents answer number. some-step contents answer c.args.evaluating;
  less = λ old new stays answer number. DoesInSession-finds (finds_in new) (finds_in old) (finds-before old new stays) answer c.args.evaluating;
}

pub returns : goal.returns
returns g c =
    let old = g.W.Host.state c.args.host.now in
    let finds = finds_in old.files.contents in
    let does = DoesInSession finds old.scorer.answer c.args.evaluating in
    let starts : state_of c.new.result (held_in c.new-2.result) ≡ nothing = λ i. record { catalogue = c.new.ensures i; cursors = cursors_of (c.new-2.ensures i) } in
    let runs = subst (λ (state : State). Runs statement_faults (ScriptRuns as_it_is finds (NumberedRun (λ number. does) (first_statement state)) c.args.name.now) c.interpret-done.result
    old (g.W.Host.state c.interpret-done.new.host)) starts c.interpret-done.ensures in record {
      run = runs.run;
      is = ScriptRuns-turn as_it_is finds (NumberedRun (λ number. does) (first_statement nothing)) (StatementsRun finds old.scorer.answer c.args.evaluating)
          (λ commands run is. RunOf-unnumbered does (first_statement nothing) commands run is) c.args.name.now runs.run runs.is;
      ran = runs.ran;
    }
