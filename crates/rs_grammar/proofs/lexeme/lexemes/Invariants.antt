use Rattle.std.proofs.Common.{◌≡◌, map, take}
use Rattle.rs_grammar.specs.Lexemes.{lexeme_of}
use Rattle.rs_grammar.proofs.lexeme.lexemes.Given as goal

-- what is made is what the tokens so far are
abbrev pub invariant-loop-token : goal.invariant-loop-token
invariant-loop-token l = l.made.items ≡ map (lexeme_of l.bytes) (take l.token-index l.tokens)
