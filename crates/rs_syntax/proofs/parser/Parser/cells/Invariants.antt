use Rattle.std.proofs.Common.{length}
use Rattle.rs_grammar.specs.Grammar.{Use, cell, word, ◌⨟◌}
use Rattle.rs_grammar.specs.declared.kind.TokenKind.TheVariants.{Comma}
use Rattle.rs_syntax.specs.Statements.{cell_of}
use Rattle.rs_syntax.proofs.Lists.{Listing}
use Rattle.rs_syntax.proofs.parser.Parser.cells.Given as goal

abbrev pub invariant-loop-self : goal.invariant-loop-self
invariant-loop-self l = Listing (Use cell) (word Comma ⨟ Use cell) cell_of l.fn.self l.self l.cells.items

abbrev pub decreases-loop-self : goal.decreases-loop-self
decreases-loop-self l = length l.self.rest
