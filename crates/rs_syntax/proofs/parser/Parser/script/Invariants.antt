use Rattle.std.proofs.Common.{length}
use Rattle.rs_syntax.specs.Syntax.{commands_of}
use Rattle.rs_syntax.proofs.Scripting.{Scripting}
use Rattle.rs_syntax.proofs.parser.Parser.script.Given as goal

abbrev pub invariant-statements : goal.invariant-statements
invariant-statements l = Scripting l.fn.self l.self (commands_of l.statements.items)

abbrev pub decreases-statements : goal.decreases-statements
decreases-statements l = length l.self.rest
