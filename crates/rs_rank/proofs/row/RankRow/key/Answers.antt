-- The sum is what the evaluated terms can give at most, so the bound is at most the greatest score.
use Rattle.std.proofs.Common.{◌+◌, ◌≤◌, arith, rules}
use Rattle.rs_rank.specs.Weights.{score_limit}
use Rattle.rs_rank.proofs.WeightFacts.{IsBound-sum, bound-limit}
use Rattle.rs_rank.proofs.row.RankRow.key.Goals as goal

pub overflow_add-result : goal.overflow_add-result
overflow_add-result c =
    let is_bound = IsBound-sum c.args.weights.now c.args.terms c.args.self.now.sum c.requires.sum in
    let limit = bound-limit c.args.weights.now c.args.terms _ c.requires.weights is_bound in
    let rest = c.rest.ensures.value in
    let total : c.args.self.now.sum + c.rest.result ≤ score_limit = omega arith in
    search rules

pub returns-clause-bound : goal.returns-clause-bound
returns-clause-bound c =
    rw c.rest.ensures.value (IsBound-sum c.args.weights.now c.args.terms c.args.self.now.sum c.requires.sum)
