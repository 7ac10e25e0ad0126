use Rattle.std.proofs.Common.{length}
use Rattle.rs_grammar.specs.Grammar.{Use, row, word, ◌⨟◌}
use Rattle.rs_grammar.specs.declared.kind.TokenKind.TheVariants.{Comma}
use Rattle.rs_syntax.specs.Statements.{row_of}
use Rattle.rs_syntax.proofs.Lists.{Listing}
use Rattle.rs_syntax.proofs.parser.Parser.rows.Given as goal

abbrev pub invariant-loop-alloc : goal.invariant-loop-alloc
invariant-loop-alloc l = Listing (Use row) (word Comma ⨟ Use row) row_of l.fn.self l.self l.rows.items

abbrev pub decreases-loop-alloc : goal.decreases-loop-alloc
decreases-loop-alloc l = length l.self.rest
