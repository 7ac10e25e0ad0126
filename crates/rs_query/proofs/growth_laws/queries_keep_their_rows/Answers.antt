use Rattle.rs_query.proofs.GrownAnswerFacts.{answer_of-grows, combinations-grow, rows_of-grow}
use Rattle.rs_query.proofs.KeptCombinations.{combinations-kept}
use Rattle.rs_query.proofs.growth_laws.queries_keep_their_rows.Goals as goal

pub returns-clause-combinations : goal.returns-clause-combinations
returns-clause-combinations c = λ old new block sizes mask grows is within. combinations-grow old new grows block is sizes within mask

pub returns-clause-fresh : goal.returns-clause-fresh
returns-clause-fresh c = λ old new block grows is. combinations-kept old new grows block is

pub returns-clause-rows : goal.returns-clause-rows
returns-clause-rows c = λ answer old new query view grows is within. rows_of-grow old new grows answer query view is within

pub returns-clause-answers : goal.returns-clause-answers
returns-clause-answers c = λ answer old new query view grows is within. answer_of-grows old new grows answer query view is within
