use Rattle.std.proofs.Common.{◌∙◌, ◌+◌, ◌*◌, ◌/◌, ◌%◌, ◌^◌, ◌<◌, ◌≤◌, drop, eqb, get_or, length, inl, inr, ap, arith}
use Rattle.std.proofs.lemmas.Bool.{cases_lt}
use Rattle.rs_order.proofs.EachFacts.{each-get_or}
use Rattle.rs_rank.specs.Weights.{sum_inside}
use Rattle.rs_sample.proofs.CountFacts.{sum-all, sum-more, term-limit}
use Rattle.rs_sample.proofs.bound.evaluated_score.Goals as goal

pub loop-place-preserved : goal.loop-place-preserved
loop-place-preserved c =
    let weights = c.args.weights.now.weight in
    let worths = c.args.worths.now in
    let place = c.loop-place.place in
    let end = c.min-place-end.ensures in
    let less = c.loop-place-test.true in
    let eight = c.requires.weight_count in
    let few : place < length worths = omega arith in
    let some : place < length weights = omega arith in
    let product = get_or weights place 0 * get_or worths place 0 in
    let small : get_or worths place 0 ≤ 4294967295 = (let fits = c.type_inv.worths place in omega arith) in
    let light = each-get_or (λ weight. weight ≤ 1000000) weights place 0 c.requires.weight_limit some in
    let limit = term-limit (eqb (c.args.terms / 2 ^ place % 2) 1) (get_or weights place 0) (get_or worths place 0) light small in
    let added = c.evaluated_at-sum.ensures in
    let before = c.loop-place.invariant.bound in
    record {
      sum = ap (λ n. c.loop-place.sum + n + sum_inside (c.args.terms / 2 ^ (place + 1)) (drop (place + 1) weights) (drop (place + 1) worths)) added
          ∙ sum-more c.args.terms place c.loop-place.sum weights worths some few c.loop-place.invariant.sum;
      bound = omega arith;
    }

pub returns-clause-value : goal.returns-clause-value
returns-clause-value c =
    let end = c.min-place-end.ensures in
    let all = c.loop-place-test.false in
    let eight = c.requires.weight_count in
    sum-all c.args.terms c.loop-place.place c.loop-place.sum c.args.weights.now.weight c.args.worths.now
    (elim (cases_lt c.loop-place.place (length c.args.worths.now)) [ inl less ↦ inl (omega arith) | inr most ↦ inr most ])
    c.loop-place.invariant.sum
