use Rattle.std.proofs.Common.{refl}
use Rattle.std.specs.Prelude.{Err}
use Rattle.rs_syntax.specs.Syntax.{commands_of}
use Rattle.rs_outside.specs.Files.{finds_in}
use Rattle.rs_events.proofs.LoopFacts.{some-run}
use Rattle.rs_run.specs.Numbered.{DoesNext, NumberedRun, first_statement}
use Rattle.rs_run.proofs.EachFacts.{text-has_run}
use Rattle.rs_run.proofs.NumberedFacts.{some-next}
use Rattle.rs_run.proofs.TextFacts.{Text-made, Text-refused, script-made}
use Rattle.rs_run.proofs.dialect.interpret_text.Goals as goal

pub returns-in-Err : goal.returns-in-Err
returns-in-Err g c =
    let old = g.W.Host.state c.args.host.now in
    let does = g.D.Dialect.does (g.D.Dialect.way c.args.dialect.now) (finds_in old.files.contents) old.scorer.answer in
    let first = first_statement (g.D.Dialect.state c.args.dialect.now) in
    Text-refused g.D.OwnFault.HaltFault.faults g.D.Dialect.tells c.requires.told.memory (NumberedRun does first) c.args.text
    (text-has_run g.D.Dialect.tells (NumberedRun does first)
    (some-run (DoesNext does) (some-next does (c.requires.dialect.some old.files.contents old.scorer.answer)) first) c.args.text) c.in-Err.why
    (Err c.told.result) old (refl, c.told.ensures) c.in-Err.ensures.refused

pub returns-in-Ok : goal.returns-in-Ok
returns-in-Ok g c =
    let old = g.W.Host.state c.args.host.now in
    let new = g.W.Host.state c.interpret_each.new.host in
    let statements = c.statements in
    Text-made g.D.OwnFault.HaltFault.faults g.D.Dialect.tells c.requires.told.memory
    (NumberedRun (g.D.Dialect.does (g.D.Dialect.way c.args.dialect.now) (finds_in old.files.contents) old.scorer.answer) (first_statement (g.D.Dialect.state c.args.dialect.now))) c.args.text
    (commands_of statements.result.now) c.interpret_each.result old new
    (script-made _ c.args.text statements.result.now c.in-Ok.ensures.read statements.ensures.statements statements.ensures.made) c.interpret_each.ensures
