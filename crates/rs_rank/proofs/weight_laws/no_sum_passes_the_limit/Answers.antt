-- Each of at most eight terms is within its limits, and so is what some of them give.
use Rattle.rs_rank.proofs.WeightFacts.{bound-limit, most_evaluated-limit, rest-limit}
use Rattle.rs_rank.proofs.weight_laws.no_sum_passes_the_limit.Goals as goal

pub returns-clause-inside : goal.returns-clause-inside
returns-clause-inside c = most_evaluated-limit

pub returns-clause-outside : goal.returns-clause-outside
returns-clause-outside c = rest-limit

pub returns-clause-bound : goal.returns-clause-bound
returns-clause-bound c = bound-limit
