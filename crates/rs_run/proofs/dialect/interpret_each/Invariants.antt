use Rattle.std.proofs.Common.{◌≡◌, ◌+◌}
use Rattle.rs_syntax.specs.Syntax.{commands_of}
use Rattle.rs_outside.specs.Files.{finds_in}
use Rattle.rs_events.proofs.LoopFacts.{Between}
use Rattle.rs_run.specs.Numbered.{DoesNext}
use Rattle.rs_run.proofs.dialect.interpret_each.Given as goal

-- what was done up to the next statement, and what holds there
pub record Goes (g : goal.Over) (l : goal.Live-loop-index g) : Type 0 where
  pub between : Between (DoesNext (g.D.Dialect.does (g.D.Dialect.way l.fn.dialect) (finds_in (g.W.Host.state l.fn.host).files.contents) (g.W.Host.state l.fn.host).scorer.answer))
      (record { number = l.fn.done + 1; kept = g.D.Dialect.state l.fn.dialect }) (commands_of l.fn.statements) l.index
      (record { number = l.fn.done + l.index + 1; kept = g.D.Dialect.state l.dialect }) (g.W.Host.state l.fn.host) (g.W.Host.state l.host)
  pub statements_same : l.statements ≡ l.fn.statements
  pub way_same : g.D.Dialect.way l.dialect ≡ g.D.Dialect.way l.fn.dialect
  pub holds : g.D.Dialect.holds (g.W.Host.state l.fn.host).scorer.answer l.dialect

abbrev pub invariant-loop-index : goal.invariant-loop-index
invariant-loop-index g l = Goes g l
