use Rattle.rs_lex.proofs.SpellingFacts.{Spells-unique}
use Rattle.rs_lex.proofs.laws.one_list_of_tokens.Goals as goal

pub returns : goal.returns
returns c = λ at bytes tokens others h k. Spells-unique at bytes tokens others h k
