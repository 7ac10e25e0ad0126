-- The thresholds come in the order of the places.
use Rattle.rs_ta.proofs.DepthFacts.{answers-climb, thresholds-climb}
use Rattle.rs_ta.proofs.ScanFacts.{answers-few}
use Rattle.rs_ta.proofs.laws.thresholds_and_answers_rise.Goals as goal

pub returns-clause-thresholds : goal.returns-clause-thresholds
returns-clause-thresholds c = λ i entry ranked have. thresholds-climb i entry ranked have

pub returns-clause-answers : goal.returns-clause-answers
returns-clause-answers c = λ i entry ranked have. answers-climb i entry ranked have

pub returns-clause-count : goal.returns-clause-count
returns-clause-count c = λ i. answers-few i
