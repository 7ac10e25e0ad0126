-- What was found at the front of some bytes is a token.
use Rattle.std.proofs.Common.{take}
use Rattle.rs_lex.specs.Tokens.{IsToken}
use Rattle.rs_lex.proofs.TokenFacts.{front-is_token, each_token}
use Rattle.rs_lex.proofs.laws.tokens_are_tokens.Goals as goal

pub returns : goal.returns
returns c = λ at bytes tokens h. each_token (λ sort n rest. IsToken sort (take n rest)) front-is_token at bytes tokens h
