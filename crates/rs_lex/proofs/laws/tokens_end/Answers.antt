-- No byte goes on behind what was found at the front of some bytes.
use Rattle.rs_lex.specs.Tokens.{EndsAt}
use Rattle.rs_lex.proofs.TakenFacts.{front-ends}
use Rattle.rs_lex.proofs.TokenFacts.{each_token}
use Rattle.rs_lex.proofs.laws.tokens_end.Goals as goal

pub returns : goal.returns
returns c = λ at bytes tokens h. each_token (λ sort n rest. EndsAt sort n rest) front-ends at bytes tokens h
