use Rattle.rs_value.proofs.ResultFacts.{given-err}
use Rattle.std.specs.Prelude.{Ok}
use Rattle.rs_syntax.specs.Syntax.{command_of}
use Rattle.rs_catalog.specs.IndexesHold.{IndexesHold}
use Rattle.rs_outside.specs.Files.{finds_in}
use Rattle.rs_events.proofs.SteppedFacts.{Stepped-map}
use Rattle.rs_statement.specs.Statements.{Does}
use Rattle.rs_statement.specs.declared.evaluating.Evaluating.TheVariants.{Plainly}
use Rattle.rs_statement.proofs.HeldSteps.{held-step}
use Rattle.rs_statement.proofs.SessionSteps.{if-stepped}
use Rattle.rs_run.specs.Threshold.{DoesByScan}
use Rattle.rs_run.specs.declared.fault.RunFault.TheVariants.{Statement}
use Rattle.rs_run.proofs.ScanSteps.{IsTold, Stepped-told_err, Stepped-told_ok, does-made, made-of_no_cursor}
use Rattle.rs_run.proofs.threshold.Scanned.make.Goals as goal

pub run_without_cursor-requires : goal.run_without_cursor-requires
run_without_cursor-requires g c = record {
  form = made-of_no_cursor (command_of c.args.statement.now) c.requires.makes;
  written = c.requires.written;
  held = c.requires.held;
}

pub returns-in_err-run_without_cursor : goal.returns-in_err-run_without_cursor
returns-in_err-run_without_cursor g c =
    let old = g.W.Host.state c.args.host.now in
    let finds = finds_in old.files.contents in
    let command = command_of c.args.statement.now in
    let next = c.run_without_cursor.new.catalog in
    let new = g.W.Host.state c.run_without_cursor.new.host in
    rw (given-err c.from_residual.result (Statement c.in_err-run_without_cursor.field-0.0) c.from_residual.ensures) (record {
      does = λ number. Stepped-map (IsTold (Does finds old.scorer.answer Plainly c.args.self.now.catalog command)) (DoesByScan finds old.scorer.answer number c.args.self.now.catalog command) next _ old new
          (λ step does. does-made finds old.scorer.answer number c.args.self.now.catalog step command c.requires.makes does)
          (Stepped-told_err (Does finds old.scorer.answer Plainly c.args.self.now.catalog command) next old new c.in_err-run_without_cursor.field-0.0 c.in_err-run_without_cursor.ensures);
      held = tt;
    })

pub returns : goal.returns
returns g c =
    let old = g.W.Host.state c.args.host.now in
    let finds = finds_in old.files.contents in
    let command = command_of c.args.statement.now in
    let next = c.run_without_cursor.new.catalog in
    let new = g.W.Host.state c.run_without_cursor.new.host in record {
      does = λ number. Stepped-map (IsTold (Does finds old.scorer.answer Plainly c.args.self.now.catalog command)) (DoesByScan finds old.scorer.answer number c.args.self.now.catalog command) next (Ok tt) old new
          (λ step does. does-made finds old.scorer.answer number c.args.self.now.catalog step command c.requires.makes does)
          (Stepped-told_ok (Does finds old.scorer.answer Plainly c.args.self.now.catalog command) next old new c.in_ok-run_without_cursor.ensures);
      held = if-stepped (Does finds old.scorer.answer Plainly c.args.self.now.catalog command) next (Ok tt) old new (IndexesHold old.scorer.answer next) c.in_ok-run_without_cursor.ensures
          (λ step does leaves. held-step old.scorer.answer c.args.self.now.catalog finds Plainly command step next c.requires.held c.requires.written does leaves);
    }
