use Rattle.std.proofs.Common.{refl, subst}
use Rattle.rs_value.proofs.ResultFacts.{given-err}
use Rattle.rs_outside.specs.Files.{finds_in}
use Rattle.rs_run.specs.Parts.CommandLine.{HasCertCount, form_of_command_line}
use Rattle.rs_run.specs.declared.fault.RunFault.TheVariants.{Statement}
use Rattle.rs_run.specs.declared.words.CommandLine.TheVariants as command
use Rattle.rs_run.proofs.RunFacts.{Runs-told_err, Runs-told_ok}
use Rattle.rs_run.proofs.command.obey.Goals as goal

pub returns-in_err-top-in-Top : goal.returns-in_err-top-in-Top
returns-in_err-top-in-Top g c =
    rw (given-err c.from_residual.result (Statement c.in_err-top-in-Top.field-0.0) c.from_residual.ensures, c.in-Top.is) (record {
      does = Runs-told_err (finds_in (g.F.Files.state c.args.host.now.files.now).contents) (g.S.Scorer.state c.args.host.now.scorer.now).answer (form_of_command_line (command.Top c.in-Top.words)) _ _ c.in_err-top-in-Top.field-0.0 c.in_err-top-in-Top.ensures;
      unfetched = λ number rows generated. absurd cc;
    })

pub returns-in_ok-top-in-Top : goal.returns-in_ok-top-in-Top
returns-in_ok-top-in-Top g c = rw c.in-Top.is (record { does = Runs-told_ok (finds_in (g.F.Files.state c.args.host.now.files.now).contents) (g.S.Scorer.state c.args.host.now.scorer.now).answer (form_of_command_line (command.Top c.in-Top.words)) _ _ c.in_ok-top-in-Top.ensures; unfetched = λ number rows generated. absurd cc })

pub returns-in_err-run_script-in-RunScript : goal.returns-in_err-run_script-in-RunScript
returns-in_err-run_script-in-RunScript g c =
    rw (given-err c.from_residual-in_err-run_script-in-RunScript.result (Statement c.in_err-run_script-in-RunScript.field-0.0) c.from_residual-in_err-run_script-in-RunScript.ensures, c.in-RunScript.is) (record {
      does = Runs-told_err (finds_in (g.F.Files.state c.args.host.now.files.now).contents) (g.S.Scorer.state c.args.host.now.scorer.now).answer (form_of_command_line (command.RunScript c.in-RunScript.script c.in-RunScript.evaluating)) _ _ c.in_err-run_script-in-RunScript.field-0.0 c.in_err-run_script-in-RunScript.ensures;
      unfetched = λ number rows generated. absurd cc;
    })

pub returns-in_ok-run_script-in-RunScript : goal.returns-in_ok-run_script-in-RunScript
returns-in_ok-run_script-in-RunScript g c =
    rw c.in-RunScript.is (record { does = Runs-told_ok (finds_in (g.F.Files.state c.args.host.now.files.now).contents) (g.S.Scorer.state c.args.host.now.scorer.now).answer (form_of_command_line (command.RunScript c.in-RunScript.script c.in-RunScript.evaluating)) _ _ c.in_ok-run_script-in-RunScript.ensures; unfetched = λ number rows generated. absurd cc })

pub returns-in_err-run_generated-in-RunGenerated : goal.returns-in_err-run_generated-in-RunGenerated
returns-in_err-run_generated-in-RunGenerated g c =
    rw (given-err c.from_residual-in_err-run_generated-in-RunGenerated.result (Statement c.in_err-run_generated-in-RunGenerated.field-0.0) c.from_residual-in_err-run_generated-in-RunGenerated.ensures, c.in-RunGenerated.is) (record {
      does = Runs-told_err (finds_in (g.F.Files.state c.args.host.now.files.now).contents) (g.S.Scorer.state c.args.host.now.scorer.now).answer (form_of_command_line (command.RunGenerated c.in-RunGenerated.number c.in-RunGenerated.rows)) _ _ c.in_err-run_generated-in-RunGenerated.field-0.0 c.in_err-run_generated-in-RunGenerated.ensures.does;
      unfetched = λ number rows generated. c.in_err-run_generated-in-RunGenerated.ensures.unfetched;
    })

pub returns-in_ok-run_generated-in-RunGenerated : goal.returns-in_ok-run_generated-in-RunGenerated
returns-in_ok-run_generated-in-RunGenerated g c = rw c.in-RunGenerated.is (record {
  does = Runs-told_ok (finds_in (g.F.Files.state c.args.host.now.files.now).contents) (g.S.Scorer.state c.args.host.now.scorer.now).answer (form_of_command_line (command.RunGenerated c.in-RunGenerated.number c.in-RunGenerated.rows)) _ _ c.in_ok-run_generated-in-RunGenerated.ensures.does;
  unfetched = λ number rows generated. c.in_ok-run_generated-in-RunGenerated.ensures.unfetched;
})

pub returns-in-Threshold : goal.returns-in-Threshold
returns-in-Threshold g c = rw c.in-Threshold.is (record { does = c.run_by_scan.ensures; unfetched = λ number rows generated. absurd cc })

pub returns-in-Feed : goal.returns-in-Feed
returns-in-Feed g c = rw c.in-Feed.is (record { does = c.feed.ensures; unfetched = λ number rows generated. absurd cc })

pub cert-requires : goal.cert-requires
cert-requires g c = subst (λ command. HasCertCount (form_of_command_line command)) c.in-Certify.is c.requires

pub returns-in-Certify : goal.returns-in-Certify
returns-in-Certify g c = rw c.in-Certify.is (record { does = c.cert.ensures; unfetched = λ number rows generated. absurd cc })

pub returns-in-Check : goal.returns-in-Check
returns-in-Check g c = rw c.in-Check.is (record { does = c.check.ensures; unfetched = λ number rows generated. absurd cc })

pub returns-in-Views : goal.returns-in-Views
returns-in-Views g c = rw c.in-Views.is (record { does = c.run_with_views.ensures; unfetched = λ number rows generated. absurd cc })
