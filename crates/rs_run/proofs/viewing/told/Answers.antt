use Rattle.std.specs.Prelude.{Ok}
use Rattle.rs_value.proofs.ResultFacts.{given-err}
use Rattle.rs_syntax.specs.Syntax.{command_of}
use Rattle.rs_outside.specs.Files.{finds_in}
use Rattle.rs_events.proofs.SteppedFacts.{Stepped-map}
use Rattle.rs_run.specs.Parts.Holding.{kept_of, views_in}
use Rattle.rs_run.specs.Viewing.{DoesByViews, DoesKept}
use Rattle.rs_run.specs.declared.fault.RunFault.TheVariants.{Statement}
use Rattle.rs_run.proofs.ScanSteps.{IsTold, Stepped-told_err, Stepped-told_ok}
use Rattle.rs_run.proofs.ViewSteps.{does-kept}
use Rattle.rs_run.proofs.viewing.told.Goals as goal

pub returns-in_err-run_kept : goal.returns-in_err-run_kept
returns-in_err-run_kept g c =
    let old = g.W.Host.state c.args.host.now in
    let finds = finds_in old.files.contents in
    let command = command_of c.args.statement.now in
    let kept = kept_of c.args.catalog.now (views_in c.args.held.now) in
    let next = kept_of c.run_kept.new.catalog (views_in c.run_kept.new.held) in
    let new = g.W.Host.state c.run_kept.new.host in
    rw (given-err c.from_residual.result (Statement c.in_err-run_kept.field-0.0) c.from_residual.ensures) (record {
      does = λ number. Stepped-map (IsTold (DoesKept finds old.scorer.answer kept command)) (DoesByViews finds old.scorer.answer number kept command) next _ old new
          (λ step does. does-kept finds old.scorer.answer number kept step command c.requires.kept does)
          (Stepped-told_err (DoesKept finds old.scorer.answer kept command) next old new c.in_err-run_kept.field-0.0 c.in_err-run_kept.ensures.does);
      indexes = tt;
      stand = tt;
    })

pub returns : goal.returns
returns g c =
    let old = g.W.Host.state c.args.host.now in
    let finds = finds_in old.files.contents in
    let command = command_of c.args.statement.now in
    let kept = kept_of c.args.catalog.now (views_in c.args.held.now) in
    let next = kept_of c.run_kept.new.catalog (views_in c.run_kept.new.held) in
    let new = g.W.Host.state c.run_kept.new.host in record {
      does = λ number. Stepped-map (IsTold (DoesKept finds old.scorer.answer kept command)) (DoesByViews finds old.scorer.answer number kept command) next (Ok tt) old new
          (λ step does. does-kept finds old.scorer.answer number kept step command c.requires.kept does)
          (Stepped-told_ok (DoesKept finds old.scorer.answer kept command) next old new c.in_ok-run_kept.ensures.does);
      indexes = c.in_ok-run_kept.ensures.indexes;
      stand = c.in_ok-run_kept.ensures.stand;
    }
