use Rattle.rs_scores.proofs.KeptFacts.{read-alone, read-behind}
use Rattle.rs_scores.proofs.laws.written_scores_are_read_back.Goals as goal

pub returns-clause-alone : goal.returns-clause-alone
returns-clause-alone c = λ names entries kept new. read-alone names entries kept new

pub returns-clause-behind : goal.returns-clause-behind
returns-clause-behind c = λ names bytes before entries is kept new. read-behind names bytes before entries is kept new
