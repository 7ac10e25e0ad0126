use Rattle.std.proofs.Common.{◌≡◌, ◌∙◌, ap, map, refl}
use Rattle.rs_grammar.specs.Lexemes.{kind_in, words}
use Rattle.rs_grammar.specs.declared.word.TheConstants.{WORDS}
use Rattle.rs_grammar.proofs.kind.TokenKind.of_word.Goals as goal

-- the code's table is the table
same_words : map (λ entry. (entry.0.now, entry.1)) WORDS ≡ words
unfolding words
same_words = refl

pub returns : goal.returns
returns c = c.kind_in.ensures ∙ ap (λ table. kind_in table c.args.word.now) same_words
