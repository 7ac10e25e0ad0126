-- Such a token is what stands at the front.
use Rattle.rs_lex.specs.Spelling as spelling
use Rattle.rs_lex.proofs.TakenFacts.{token-is_found}
use Rattle.rs_lex.proofs.laws.tokens_are_taken.Goals as goal

pub returns : goal.returns
returns c = λ at n sort bytes tokens le h ends more. spelling.Spells.takes at n sort bytes tokens (token-is_found bytes sort n le h ends) more
