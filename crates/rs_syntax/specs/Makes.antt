-- A call that makes an expression, if there is memory for it.
use Rattle.std.specs.Prelude.{◌≡◌, Result, Ok, Err}
use Rattle.rs_syntax.specs.Syntax.{Expression, expression_of}
use Rattle.rs_syntax.specs.declared.node.Node.{Node}
use Rattle.rs_syntax.specs.declared.parser.ParserFault.{ParserFault}
use Rattle.rs_syntax.specs.declared.parser.ParserFault.TheVariants.{Memory}

abbrev pub Makes : Expression → Result Node ParserFault → Type 0
Makes wanted (Ok node) = expression_of node ≡ wanted
Makes wanted (Err fault) = fault ≡ Memory
