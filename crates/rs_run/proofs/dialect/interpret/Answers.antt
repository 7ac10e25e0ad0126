use Rattle.rs_outside.specs.Files.{finds_in}
use Rattle.rs_events.proofs.LoopFacts.{some-run}
use Rattle.rs_run.specs.Numbered.{DoesNext, NumberedRun, first_statement}
use Rattle.rs_run.proofs.NumberedFacts.{DoesNext-turn, some-next}
use Rattle.rs_run.proofs.TextFacts.{RunOf-finds, Script-read, Script-unread}
use Rattle.rs_run.proofs.dialect.interpret.Goals as goal

pub interpret_text-requires : goal.interpret_text-requires
interpret_text-requires g c = record {
  told = c.requires.told;
  dialect = c.requires.dialect;
  short = c.in-Ok.ensures.small;
  holds = rw g.met.W.Host.after_files c.requires.holds;
}

pub returns-in-Err : goal.returns-in-Err
returns-in-Err g c =
    let old = g.W.Host.state c.args.host.now in
    let does = g.D.Dialect.does (g.D.Dialect.way c.args.dialect.now) (finds_in old.files.contents) old.scorer.answer in
    let first = first_statement (g.D.Dialect.state c.args.dialect.now) in
    rw (g.met.W.Host.after_files, c.told.ensures)
    (Script-unread g.D.Dialect.tells g.D.OwnFault.HaltFault.faults c.requires.told c.args.name.now old (g.W.Files.Files.state c.fetch_script.new.files)
    (NumberedRun does first) (some-run (DoesNext does) (some-next does (c.requires.dialect.some old.files.contents old.scorer.answer)) first) c.in-Err.why
    (rw c.files.ensures.value at c.in-Err.ensures.fetches))

pub returns-in-Ok : goal.returns-in-Ok
returns-in-Ok g c =
    let old = g.W.Host.state c.args.host.now in
    let answer = old.scorer.answer in
    let fetched = g.W.Files.Files.state c.fetch_script.new.files in
    let does = g.D.Dialect.does (g.D.Dialect.way c.args.dialect.now) in
    let first = first_statement (g.D.Dialect.state c.args.dialect.now) in
    let fetches = rw c.files.ensures.value at c.in-Ok.ensures.fetches in
    Script-read g.D.Dialect.tells g.D.OwnFault.HaltFault.faults c.requires.told c.args.name.now old fetched
    (NumberedRun (does (finds_in old.files.contents) answer) first) (NumberedRun (does (finds_in fetched.contents) answer) first)
    (λ commands run more is. RunOf-finds (DoesNext (does (finds_in fetched.contents) answer)) (DoesNext (does (finds_in old.files.contents) answer))
    (DoesNext-turn (does (finds_in fetched.contents) answer) (does (finds_in old.files.contents) answer) (c.requires.dialect.less old.files.contents fetched.contents fetches.keeps.contents answer)) first commands run is)
    c.in-Ok.text c.interpret_text.result (g.W.Host.state c.interpret_text.new.host) fetches (rw g.met.W.Host.after_files at c.interpret_text.ensures)
