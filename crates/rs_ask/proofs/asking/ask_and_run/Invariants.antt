use Rattle.std.proofs.Common.{[]}
use Rattle.rs_ask.proofs.asking.ask_and_run.Given as goal

abbrev pub ghosts-ask_all : goal.ghosts-ask_all
ghosts-ask_all g a = record { out = g.O.Sink.state a.out; shown = [] }
