use Rattle.std.proofs.Common.{ap}
use Rattle.rs_query.specs.Answers.{cut, limit_of}
use Rattle.rs_exec.proofs.AnswerFacts.{answers-stable}
use Rattle.rs_exec.proofs.laws.plans_give_the_answer.Goals as goal

pub returns-clause-order : goal.returns-clause-order
returns-clause-order c = λ w tree formed plan. answers-stable w tree formed plan

pub returns-clause-answer : goal.returns-clause-answer
returns-clause-answer c = λ w tree formed plan. ap (cut (limit_of w.query)) (answers-stable w tree formed plan)
