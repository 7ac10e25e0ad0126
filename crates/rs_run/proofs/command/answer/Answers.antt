use Rattle.std.proofs.Common.{sym}
use Rattle.rs_outside.specs.Files.{finds_in}
use Rattle.rs_run.specs.Parts.CommandLine.{form_of_command_line}
use Rattle.rs_run.proofs.WordFacts.{cert-count}
use Rattle.rs_run.proofs.RunFacts.{Runs-usage, Runs-words}
use Rattle.rs_run.proofs.command.answer.Goals as goal

pub returns-in-None-clause-does : goal.returns-in-None-clause-does
returns-in-None-clause-does g c = Runs-usage (finds_in (g.F.Files.state c.args.host.now.files.now).contents) (g.S.Scorer.state c.args.host.now.scorer.now).answer c.args.words.now _ (sym c.in-None.ensures)

pub returns-in-Some-clause-does : goal.returns-in-Some-clause-does
returns-in-Some-clause-does g c =
    Runs-words (finds_in (g.F.Files.state c.args.host.now.files.now).contents) (g.S.Scorer.state c.args.host.now.scorer.now).answer c.args.words.now (form_of_command_line c.in-Some.command) c.obey.result _ _ (sym c.in-Some.ensures) c.obey.ensures.does

pub obey-requires : goal.obey-requires
obey-requires g c = cert-count c.args.words.now (form_of_command_line c.in-Some.command) (sym c.in-Some.ensures)
