use Rattle.rs_value.specs.Outside.{untold}
use Rattle.rs_events.specs.Environment.{environment}
use Rattle.rs_outside.specs.Files.{finds_in}
use Rattle.rs_run.proofs.FeedFacts.{Runs-check_err, Runs-check_ok}
use Rattle.rs_run.proofs.certificates.check.Goals as goal

pub returns-in-Ok : goal.returns-in-Ok
returns-in-Ok g c =
    let o = c.args.host.now in
    let old = record (environment (g.F.Files.state o.files.now) (g.S.Scorer.state o.scorer.now) (g.O.Sink.state o.out.now) (untold 0)) {
      references = (o.files.ghost_name, o.scorer.ghost_name, o.out.ghost_name);
    } in
    Runs-check_ok (finds_in old.files.contents) old.scorer.answer (c.args.file.now) old _ (c.in-Ok.ensures old)

pub returns-in-Err : goal.returns-in-Err
returns-in-Err g c =
    let o = c.args.host.now in
    let old = record (environment (g.F.Files.state o.files.now) (g.S.Scorer.state o.scorer.now) (g.O.Sink.state o.out.now) (untold 0)) {
      references = (o.files.ghost_name, o.scorer.ghost_name, o.out.ghost_name);
    } in
    Runs-check_err (finds_in old.files.contents) old.scorer.answer (c.args.file.now) old _ c.in-Err.why c.word_fault.result c.word_fault.ensures (c.in-Err.ensures old)
