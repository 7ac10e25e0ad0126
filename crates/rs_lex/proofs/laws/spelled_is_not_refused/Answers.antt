use Rattle.std.proofs.Common.{arith}
use Rattle.rs_lex.proofs.SpellingFacts.{Spells-not_refused}
use Rattle.rs_lex.proofs.laws.spelled_is_not_refused.Goals as goal

pub returns : goal.returns
returns c = λ at bytes tokens fault few h k. Spells-not_refused 0 at bytes tokens fault (omega (arith, few)) h k
