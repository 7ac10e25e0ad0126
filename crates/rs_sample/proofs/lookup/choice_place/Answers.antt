use Rattle.std.proofs.Common.{suc, ◌≡◌, ◌∙◌, ◌+◌, ◌-◌, ◌*◌, ◌/◌, ◌%◌, ◌^◌, ◌<◌, ◌≤◌, drop, get_or, length, ap, ap₂, arith, rules}
use Rattle.std.proofs.lemmas.Nat.{mul-le}
use Rattle.std.proofs.Math.Nat.{pow-le-pow_right}
use Rattle.rs_order.proofs.EachFacts.{each-get_or}
use Rattle.rs_sample.specs.Finding.{choice_place}
use Rattle.rs_sample.specs.Quotients.{product_inside}
use Rattle.rs_sample.proofs.PlaceFacts.{place-more, place-none, product-more, product-none}
use Rattle.rs_sample.proofs.QuotientFacts.{power-more}
use Rattle.rs_sample.proofs.lookup.choice_place.Goals as goal

pub loop-behind-preserved-then-mask-place-eq0 : goal.loop-behind-preserved-then-mask-place-eq0
loop-behind-preserved-then-mask-place-eq0 c =
    let mask = c.args.mask in
    let sampled = c.args.sampled.now in
    let places = c.args.places.now in
    let behind = c.loop-behind.behind in
    let place = 5 - behind in
    let less = c.loop-behind-test.true in
    let six = c.told-sampled in
    let six_places = c.told-places in
    let p : place < length sampled = omega arith in
    let q : place < length places = omega arith in
    let here : 6 - behind ≡ suc place = omega arith in
    let there : place ≡ 6 - (behind + 1) = omega arith in
    let some = c.loop-behind.invariant.few in
    let more : 256 ^ behind ≤ 256 ^ (behind + 1) = pow-le-pow_right {n = 256} (let some : 0 < 256 = omega arith in some) (let one : behind ≤ behind + 1 = omega arith in one) in
    record {
      place = c.loop-behind.invariant.place ∙ ap (λ n. choice_place (mask / 2 ^ n) (drop n sampled) (drop n places)) here
          ∙ place-none mask place sampled places p q c.if-mask-place-eq0.true ∙ ap (λ n. choice_place (mask / 2 ^ n) (drop n sampled) (drop n places)) there;
      count = c.loop-behind.invariant.count ∙ ap (λ n. product_inside (mask / 2 ^ n) (drop n sampled)) here
          ∙ product-none mask place sampled places p q c.if-mask-place-eq0.true ∙ ap (λ n. product_inside (mask / 2 ^ n) (drop n sampled)) there;
      few = omega arith;
      small = (let before = c.loop-behind.invariant.small in omega arith);
    }

pub overflow_mul-at : goal.overflow_mul-at
overflow_mul-at c =
    let behind = c.loop-behind.behind in
    let place = 5 - behind in
    let less = c.loop-behind-test.true in
    let six_places = c.told-places in
    let few = c.loop-behind.invariant.few in
    let most : 256 ^ behind ≤ 256 ^ 5 = pow-le-pow_right {n = 256} (let some : 0 < 256 = omega arith in some) (let five : behind ≤ 5 = omega arith in five) in
    let small = each-get_or (λ n. n ≤ 256) c.args.places.now place 0 c.requires.places (omega arith) in
    let product = mul-le (get_or c.args.places.now place 0) c.loop-behind.choices 256 1099511627776 small (omega arith) in
    let total : get_or c.args.places.now place 0 * c.loop-behind.choices ≤ 281474976710656 = omega arith in
    search rules

pub overflow_mul-choices : goal.overflow_mul-choices
overflow_mul-choices c =
    let behind = c.loop-behind.behind in
    let place = 5 - behind in
    let less = c.loop-behind-test.true in
    let six = c.told-sampled in
    let few = c.loop-behind.invariant.few in
    let most : 256 ^ behind ≤ 256 ^ 5 = pow-le-pow_right {n = 256} (let some : 0 < 256 = omega arith in some) (let five : behind ≤ 5 = omega arith in five) in
    let small = each-get_or (λ n. n ≤ 256) c.args.sampled.now place 0 c.requires.sampled (omega arith) in
    let product = mul-le c.loop-behind.choices (get_or c.args.sampled.now place 0) 1099511627776 256 (omega arith) small in
    let total : c.loop-behind.choices * get_or c.args.sampled.now place 0 ≤ 281474976710656 = omega arith in
    search rules

pub loop-behind-preserved : goal.loop-behind-preserved
loop-behind-preserved c =
    let mask = c.args.mask in
    let sampled = c.args.sampled.now in
    let places = c.args.places.now in
    let behind = c.loop-behind.behind in
    let place = 5 - behind in
    let less = c.loop-behind-test.true in
    let six = c.told-sampled in
    let six_places = c.told-places in
    let p : place < length sampled = omega arith in
    let q : place < length places = omega arith in
    let here : 6 - behind ≡ suc place = omega arith in
    let there : place ≡ 6 - (behind + 1) = omega arith in
    let some = c.if-mask-place-eq0.false in
    let bit : mask / 2 ^ place % 2 ≡ 1 = omega arith in
    let few = c.loop-behind.invariant.few in
    let most : 256 ^ behind ≤ 256 ^ 5 = pow-le-pow_right {n = 256} (let some : 0 < 256 = omega arith in some) (let five : behind ≤ 5 = omega arith in five) in
    let small = each-get_or (λ n. n ≤ 256) places place 0 c.requires.places q in
    let product = mul-le (get_or places place 0) c.loop-behind.choices 256 1099511627776 small (omega arith) in
    let before = c.loop-behind.invariant.small in
    record {
      place = ap₂ (λ at n. at + get_or places place 0 * n) (c.loop-behind.invariant.place ∙ ap (λ n. choice_place (mask / 2 ^ n) (drop n sampled) (drop n places)) here)
          (c.loop-behind.invariant.count ∙ ap (λ n. product_inside (mask / 2 ^ n) (drop n sampled)) here)
          ∙ place-more mask place sampled places p q bit ∙ ap (λ n. choice_place (mask / 2 ^ n) (drop n sampled) (drop n places)) there;
      count = ap (λ n. n * get_or sampled place 0) (c.loop-behind.invariant.count ∙ ap (λ n. product_inside (mask / 2 ^ n) (drop n sampled)) here)
          ∙ product-more mask place sampled places p q bit ∙ ap (λ n. product_inside (mask / 2 ^ n) (drop n sampled)) there;
      few = power-more 256 behind c.loop-behind.choices (get_or sampled place 0) c.loop-behind.invariant.few (each-get_or (λ n. n ≤ 256) sampled place 0 c.requires.sampled p);
      small = omega arith;
    }
