use Rattle.std.proofs.Common.{length}
use Rattle.rs_grammar.specs.Grammar.{Use, term, word, ◌⨟◌}
use Rattle.rs_grammar.specs.declared.kind.TokenKind.TheVariants.{Plus}
use Rattle.rs_syntax.specs.Statements.{term_of}
use Rattle.rs_syntax.proofs.Lists.{Listing}
use Rattle.rs_syntax.proofs.parser.Parser.terms.Given as goal

abbrev pub invariant-more : goal.invariant-more
invariant-more l = Listing (Use term) (word Plus ⨟ Use term) term_of l.fn.self l.self l.terms.items

abbrev pub decreases-more : goal.decreases-more
decreases-more l = length l.self.rest
