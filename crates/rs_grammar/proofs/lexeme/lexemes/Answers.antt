use Rattle.rs_grammar.proofs.LexemeFacts.{IsTokenOf-each}
use Rattle.rs_grammar.proofs.lexeme.lexemes.Goals as goal

pub lexeme_of-requires-clause-token : goal.lexeme_of-requires-clause-token
lexeme_of-requires-clause-token c =
    rw c.bytes-bytes.ensures.value (IsTokenOf-each c.args.script.now c.args.tokens.now c.requires c.loop-token.token-index _ c.loop-token-test.true)
