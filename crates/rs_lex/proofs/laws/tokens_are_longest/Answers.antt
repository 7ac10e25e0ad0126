-- What was found at the front of some bytes is the longest token there.
use Rattle.std.proofs.Common.{ℕ, ◌<◌, ◌≤◌, length, take}
use Rattle.rs_lex.specs.Tokens.{IsToken}
use Rattle.rs_lex.specs.declared.token.Sort.{Sort}
use Rattle.rs_lex.proofs.TokenFacts.{front-is_longest, each_token}
use Rattle.rs_lex.proofs.laws.tokens_are_longest.Goals as goal

pub returns : goal.returns
returns c = λ at bytes tokens h.
    each_token (λ sort n rest. (other : Sort) (m : ℕ) → n < m → m ≤ length rest → IsToken other (take m rest) → ⊥) front-is_longest at bytes tokens h
