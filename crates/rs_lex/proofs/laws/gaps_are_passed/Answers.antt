use Rattle.rs_lex.specs.Spelling as spelling
use Rattle.rs_lex.proofs.FaultFacts.{IsGap-front}
use Rattle.rs_lex.proofs.laws.gaps_are_passed.Goals as goal

pub returns-clause-spelled : goal.returns-clause-spelled
returns-clause-spelled c = λ at n bytes tokens gap more. spelling.Spells.passes at n bytes tokens (IsGap-front n bytes gap) more

pub returns-clause-refused : goal.returns-clause-refused
returns-clause-refused c = λ count at n bytes fault gap more. spelling.RefusesBytes.passes count at n bytes fault (IsGap-front n bytes gap) more
