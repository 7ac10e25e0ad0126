use Rattle.std.proofs.Common.{subst}
use Rattle.rs_outside.specs.Files.{finds_in}
use Rattle.rs_outside.proofs.ContentsFacts.{finds-before}
use Rattle.rs_events.specs.Running.{Runs}
use Rattle.rs_run.specs.Faults.{run_faults}
use Rattle.rs_run.specs.Numbered.{NumberedRun, first_statement}
use Rattle.rs_run.specs.Plain.{ScriptRuns}
use Rattle.rs_run.specs.Threshold.{DoesByScan}
use Rattle.rs_run.specs.declared.fault.RunFault.TheVariants.{Statement}
use Rattle.rs_run.proofs.EachFacts.{each_by_scan, finds_in-has}
use Rattle.rs_run.proofs.ScanSteps.{DoesByScan-finds}
use Rattle.rs_run.proofs.threshold.run_by_scan.Goals as goal

pub interpret-done-requires-clause-dialect : goal.interpret-done-requires-clause-dialect
interpret-done-requires-clause-dialect g c = record {
  some = λ contents. each_by_scan (finds_in contents) (finds_in-has contents);
  less = λ old new stays. DoesByScan-finds (finds_in new) (finds_in old) (finds-before old new stays);
}

pub returns : goal.returns
returns g c =
    let old = g.W.Host.state c.args.host.now in
    let finds = finds_in old.files.contents in
    subst (λ catalogue. Runs run_faults (ScriptRuns Statement finds (NumberedRun (DoesByScan finds old.scorer.answer) (first_statement catalogue)) c.args.name.now) c.interpret-done.result
    old (g.W.Host.state c.interpret-done.new.host)) c.new.ensures c.interpret-done.ensures
