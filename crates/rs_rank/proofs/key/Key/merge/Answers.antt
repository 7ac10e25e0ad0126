-- Of each side what its terms give, and the rest beside the terms of both: together a bound again.
use Rattle.std.proofs.Common.{◌+◌, ◌-◌, ◌*◌, ◌≤◌, arith, rules}
use Rattle.rs_rank.specs.Weights.{score_limit}
use Rattle.rs_rank.proofs.WeightFacts.{IsBound-merge, bound-limit}
use Rattle.rs_rank.proofs.key.Key.merge.Goals as goal

pub overflow_add-evaluated : goal.overflow_add-evaluated
overflow_add-evaluated c =
    let left = bound-limit c.args.weights.now c.args.left c.args.self.now.bound c.requires.limits c.requires.left_bound in
    let right = bound-limit c.args.weights.now c.args.right c.args.other.now.bound c.requires.limits c.requires.right_bound in
    let total : (c.args.self.now.bound - c.rest.result) + (c.args.other.now.bound - c.rest-2.result) ≤ 2 * score_limit = omega arith in
    search rules

pub overflow_add-result : goal.overflow_add-result
overflow_add-result c =
    let left = bound-limit c.args.weights.now c.args.left c.args.self.now.bound c.requires.limits c.requires.left_bound in
    let right = bound-limit c.args.weights.now c.args.right c.args.other.now.bound c.requires.limits c.requires.right_bound in
    let others = c.rest-3.ensures.limit in
    let total : (c.args.self.now.bound - c.rest.result) + (c.args.other.now.bound - c.rest-2.result) + c.rest-3.result ≤ 3 * score_limit = omega arith in
    search rules

pub returns-clause-bound : goal.returns-clause-bound
returns-clause-bound c =
    rw (c.rest.ensures.value, c.rest-2.ensures.value, c.rest-3.ensures.value, c.union.ensures)
    (IsBound-merge c.args.weights.now c.args.left c.args.right c.args.self.now.bound c.args.other.now.bound c.requires.terms c.requires.left_bound c.requires.right_bound)
