-- The sum so far is part of the rest, and the rest is within its limit.
use Rattle.std.proofs.Common.{rules, arith, ◌+◌, ◌≤◌}
use Rattle.rs_rank.specs.Weights.{score_limit}
use Rattle.rs_rank.proofs.WeightFacts.{rest-limit, rest-step}
use Rattle.rs_rank.proofs.weights.Weights.rest.Goals as goal

pub loop-place-preserved : goal.loop-place-preserved
loop-place-preserved c =
    let step = rest-step c.args.self.now c.args.terms c.loop-place.place c.loop-place.sum c.requires c.loop-place-test.true c.loop-place.invariant in
    rw c.rest_at-sum.ensures step

pub overflow_add-sum : goal.overflow_add-sum
overflow_add-sum c =
    let step = rest-step c.args.self.now c.args.terms c.loop-place.place c.loop-place.sum c.requires c.loop-place-test.true c.loop-place.invariant in
    let limit = rest-limit c.args.self.now c.args.terms c.requires in
    let added = c.rest_at-sum.ensures in
    let total : c.loop-place.sum + c.rest_at-sum.result ≤ score_limit = omega arith in
    search rules

pub returns-clause-limit : goal.returns-clause-limit
returns-clause-limit c =
    let limit = rest-limit c.args.self.now c.args.terms c.requires in
    let whole = c.loop-place.invariant in
    omega arith
