use Rattle.std.proofs.Common.{◌≡◌, subst}
use Rattle.rs_outside.specs.Files.{finds_in}
use Rattle.rs_outside.proofs.ContentsFacts.{finds-before}
use Rattle.rs_events.specs.Running.{Runs}
use Rattle.rs_run.specs.Faults.{run_faults}
use Rattle.rs_run.specs.Numbered.{NumberedRun, first_statement}
use Rattle.rs_run.specs.Plain.{ScriptRuns}
use Rattle.rs_run.specs.Viewing.{DoesByViews, Kept}
use Rattle.rs_run.specs.declared.fault.RunFault.TheVariants.{Statement}
use Rattle.rs_run.specs.Parts.Holding.{kept_of, views_in}
use Rattle.rs_run.proofs.EachFacts.{each_by_views, finds_in-has}
use Rattle.rs_run.proofs.ViewSteps.{DoesByViews-finds}
use Rattle.rs_run.proofs.viewing.run_with_views.Goals as goal

pub interpret-done-requires-clause-dialect : goal.interpret-done-requires-clause-dialect
interpret-done-requires-clause-dialect g c = record {
  some = λ contents. each_by_views (finds_in contents) (finds_in-has contents);
  less = λ old new stays. DoesByViews-finds (finds_in new) (finds_in old) (finds-before old new stays);
}

pub returns : goal.returns
returns g c =
    let old = g.W.Host.state c.args.host.now in
    let finds = finds_in old.files.contents in
    let starts : ◌≡◌ {A = Kept} (kept_of c.new.result (views_in c.new-2.result)) (record { catalogue = _; views = _ }) = λ i. kept_of (c.new.ensures i) (c.new-2.ensures i) in
    subst (λ (kept : Kept). Runs run_faults (ScriptRuns Statement finds (NumberedRun (DoesByViews finds old.scorer.answer) (first_statement kept)) c.args.name.now) c.interpret-done.result
    old (g.W.Host.state c.interpret-done.new.host)) starts c.interpret-done.ensures
