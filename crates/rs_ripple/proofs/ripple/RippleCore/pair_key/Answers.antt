-- Neither bound passes the limit, nor does what is left beside the terms of both sides.
use Rattle.std.proofs.Common.{◌+◌, ◌-◌, ◌*◌, ◌≤◌, bit_or, arith, rules}
use Rattle.rs_rank.specs.Weights.{score_limit}
use Rattle.rs_rank.proofs.WeightFacts.{bound-limit, rest-limit}
use Rattle.rs_ripple.proofs.ripple.RippleCore.pair_key.Goals as goal

pub overflow_add-evaluated : goal.overflow_add-evaluated
overflow_add-evaluated c =
    let now = c.args.self.now in
    let left = bound-limit now.weights now.left.side.terms c.args.left.now.bound c.requires.limits c.requires.left_bound in
    let right = bound-limit now.weights now.right.side.terms c.args.right.now.bound c.requires.limits c.requires.right_bound in
    let total : (c.args.left.now.bound - c.self.inside.left_rest) + (c.args.right.now.bound - c.self.inside.right_rest) ≤ 2 * score_limit = omega arith in
    search rules

pub overflow_add-result : goal.overflow_add-result
overflow_add-result c =
    let now = c.args.self.now in
    let kept = c.self.inside in
    let left = bound-limit now.weights now.left.side.terms c.args.left.now.bound c.requires.limits c.requires.left_bound in
    let right = bound-limit now.weights now.right.side.terms c.args.right.now.bound c.requires.limits c.requires.right_bound in
    let others = rest-limit kept.weights (bit_or kept.left.side.terms kept.right.side.terms) c.self.invariant.0.sides.limits in
    let above = c.self.invariant.4 in
    let total : (c.args.left.now.bound - kept.left_rest) + (c.args.right.now.bound - kept.right_rest) + kept.above ≤ 3 * score_limit = omega arith in
    search rules
