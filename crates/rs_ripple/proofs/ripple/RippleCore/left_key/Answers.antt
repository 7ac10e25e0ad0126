-- The sum is one that the terms of the left side can give, so with what the others can give it is at most the limit.
use Rattle.std.proofs.Common.{◌+◌, ◌≤◌, ap, rules}
use Rattle.rs_rank.specs.Rows.{HasSum}
use Rattle.rs_rank.specs.Weights.{score_limit}
use Rattle.rs_ripple.specs.Ripple.{Ripple}
use Rattle.rs_ripple.proofs.SideFacts.{sum-limit}
use Rattle.rs_ripple.proofs.ripple.RippleCore.left_key.Goals as goal

pub overflow_add-result : goal.overflow_add-result
overflow_add-result c =
    let kept = c.self.inside in
    let terms = kept.left.side.terms in
    let weights = ap (λ (ripple : Ripple). ripple.weights) c.self.view_is in
    let all = ap (λ (ripple : Ripple). ripple.left.side.terms) c.self.view_is in
    let sum : HasSum kept.weights terms c.args.row.now = rw (weights, all) c.requires in
    let total : c.args.row.now.sum + kept.left_rest ≤ score_limit = sum-limit kept.weights terms kept.left_rest c.args.row.now c.self.invariant.0.sides.limits sum c.self.invariant.2 in
    search rules
