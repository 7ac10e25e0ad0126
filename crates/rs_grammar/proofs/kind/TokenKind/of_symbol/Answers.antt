use Rattle.std.proofs.Common.{◌≡◌, ◌∙◌, ap, map, refl}
use Rattle.rs_grammar.specs.Lexemes.{kind_in, symbols}
use Rattle.rs_grammar.specs.declared.word.TheConstants.{SYMBOLS}
use Rattle.rs_grammar.proofs.kind.TokenKind.of_symbol.Goals as goal

-- the code's table is the table
same_symbols : map (λ entry. (entry.0.now, entry.1)) SYMBOLS ≡ symbols
unfolding symbols
same_symbols = refl

pub returns : goal.returns
returns c = c.kind_in.ensures ∙ ap (λ table. kind_in table c.args.symbol.now) same_symbols
