use Rattle.rs_grammar.proofs.LexemeFacts.{IsTokenOf-text, IsTokenOf-number}
use Rattle.rs_grammar.proofs.lexeme.lexeme_of.Goals as goal

pub text_of-requires-clause-utf8 : goal.text_of-requires-clause-utf8
text_of-requires-clause-utf8 c = IsTokenOf-text c.args.script.now c.args.token c.requires.utf8 c.requires.token

pub value_of-requires : goal.value_of-requires
value_of-requires c = IsTokenOf-number c.args.script.now c.args.token c.requires.token
