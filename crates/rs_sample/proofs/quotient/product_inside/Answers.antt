use Rattle.std.proofs.Common.{◌∙◌, ◌+◌, ◌*◌, ◌/◌, ◌^◌, ◌<◌, ◌≤◌, drop, length, sym, ap, subst, arith, rules}
use Rattle.std.proofs.Math.Nat.{pow-le-pow_right}
use Rattle.rs_sample.specs.Quotients.{most_expected, product_inside}
use Rattle.rs_sample.proofs.QuotientFacts.{factor, factor-limit, power-more, product-all, product-limit, product-more}
use Rattle.rs_sample.proofs.quotient.product_inside.Goals as goal

pub overflow_mul-product : goal.overflow_mul-product
overflow_mul-product c =
    let place = c.loop-place.place in
    let six = c.told-numbers in
    let less = c.loop-place-test.true in
    let within : place < length c.args.numbers.now = omega arith in
    let added = c.number_inside-product.ensures in
    let power : c.loop-place.product * c.number_inside-product.result ≤ 131072 ^ (place + 1) =
    subst (λ n. c.loop-place.product * n ≤ 131072 ^ (place + 1)) (sym added)
    (power-more 131072 place c.loop-place.product (factor c.args.mask c.args.numbers.now place) c.loop-place.invariant.bound
    (factor-limit 131072 c.args.mask place c.args.numbers.now (omega arith) c.requires within)) in
    let few : place + 1 ≤ 6 = omega arith in
    let most : 131072 ^ (place + 1) ≤ 131072 ^ 6 = pow-le-pow_right {n = 131072} (let some : 0 < 131072 = omega arith in some) few in
    let total : c.loop-place.product * c.number_inside-product.result ≤ 5070602400912917605986812821504 = omega arith in
    search rules

pub loop-place-preserved : goal.loop-place-preserved
loop-place-preserved c =
    let place = c.loop-place.place in
    let six = c.told-numbers in
    let less = c.loop-place-test.true in
    let within : place < length c.args.numbers.now = omega arith in
    let added = c.number_inside-product.ensures in
    record {
      whole = ap (λ n. c.loop-place.product * n * product_inside (c.args.mask / 2 ^ (place + 1)) (drop (place + 1) c.args.numbers.now)) added
          ∙ product-more c.args.mask place c.loop-place.product c.args.numbers.now within c.loop-place.invariant.whole;
      bound = subst (λ n. c.loop-place.product * n ≤ 131072 ^ (place + 1)) (sym added)
          (power-more 131072 place c.loop-place.product (factor c.args.mask c.args.numbers.now place) c.loop-place.invariant.bound
          (factor-limit 131072 c.args.mask place c.args.numbers.now (omega arith) c.requires within));
    }

pub returns-clause-limit : goal.returns-clause-limit
returns-clause-limit c =
    let six = c.told-numbers in
    let all = c.loop-place-test.false in
    subst (λ n. n ≤ most_expected c.args.mask) (sym (product-all c.args.mask c.loop-place.place c.loop-place.product c.args.numbers.now (omega arith) c.loop-place.invariant.whole))
    (product-limit c.args.mask c.args.numbers.now c.requires)
