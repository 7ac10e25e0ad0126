-- Each entry is taken in its turn.
use Rattle.std.proofs.Common.{ℕ, suc, ◌≡◌, ◌∙◌, ◌+◌, ◌-◌, ◌*◌, ◌/◌, ◌%◌, ◌^◌, ◌<◌, ◌≤◌, [], get_or, length, map, set, sym, ap, subst, subst₂, arith, mod-eq_of_lt}
use Rattle.std.specs.List.{AllByRecursion, filter, flat_map}
use Rattle.std.proofs.Math.Nat.{pow-le-pow_right}
use Rattle.rs_order.specs.Climbing.{In}
use Rattle.rs_query.specs.Combinations.{satisfies}
use Rattle.rs_sample.specs.Choosing.{sampled_choices}
use Rattle.rs_sample.specs.Estimates.{sampled_combinations}
use Rattle.rs_sample.proofs.EarlyFacts.{combinations-next, few-next, members-next, taken-adds, taken-skips}
use Rattle.rs_sample.proofs.combinations.combinations.Goals as goal

pub loop-behind-preserved-then-mask-place-eq0 : goal.loop-behind-preserved-then-mask-place-eq0
loop-behind-preserved-then-mask-place-eq0 c =
    let less = c.loop-behind-test.true in
    let place = 5 - c.loop-behind.behind in
    let before : 6 - c.loop-behind.behind ≡ suc place = omega arith in
    let after : place ≡ 6 - (c.loop-behind.behind + 1) = omega arith in
    record {
      taken = c.loop-behind.invariant.taken ∙ ap (λ n. c.args.mask / 2 ^ n * 2 ^ n) before ∙ taken-skips c.args.mask place c.if-mask-place-eq0.true
          ∙ ap (λ n. c.args.mask / 2 ^ n * 2 ^ n) after;
      few = c.loop-behind.invariant.few;
      value = c.loop-behind.invariant.value;
    }

-- the bit of a place
one-bit : (place : ℕ) → place ≤ 5 → 1 * 2 ^ place % 256 ≡ 2 ^ place
one-bit place few =
    let small : 2 ^ place ≤ 2 ^ 5 = pow-le-pow_right {n = 2} (omega arith) few in
    mod-eq_of_lt (omega arith) ∙ (let same : 1 * 2 ^ place ≡ 2 ^ place = omega arith in same)

pub loop-behind-preserved : goal.loop-behind-preserved
loop-behind-preserved c =
    let mask = c.args.mask in
    let samples = c.args.samples.now in
    let block = c.args.block.now in
    let less = c.loop-behind-test.true in
    let place = 5 - c.loop-behind.behind in
    let before : 6 - c.loop-behind.behind ≡ suc place = omega arith in
    let after : place ≡ 6 - (c.loop-behind.behind + 1) = omega arith in
    let some = c.if-mask-place-eq0.false in
    let bit : mask / 2 ^ place % 2 ≡ 1 = omega arith in
    let six = c.requires.six in
    let within : place < length samples = omega arith in
    let taken : c.loop-behind.taken ≡ mask / 2 ^ suc place * 2 ^ suc place = c.loop-behind.invariant.taken ∙ ap (λ n. mask / 2 ^ n * 2 ^ n) before in
    let one : 1 * 2 ^ place % 256 ≡ 2 ^ place = one-bit place (omega arith) in
    let more : c.loop-behind.taken + 1 * 2 ^ place % 256 ≡ mask / 2 ^ suc place * 2 ^ suc place + 2 ^ place = (λ i. taken i + one i) in
    let found = c.deref.ensures.value in
    record {
      taken = more ∙ taken-adds mask place bit ∙ ap (λ n. mask / 2 ^ n * 2 ^ n) after;
      few = subst (λ m. length c.in_ok-found-2.found.items ≤ length (sampled_choices m samples)) (sym more)
          (few-next mask place samples within bit (length c.loop-behind.found.items) (length c.in_ok-found-2.found.items)
          (subst (λ m. length c.loop-behind.found.items ≤ length (sampled_choices m samples)) taken c.loop-behind.invariant.few)
          (subst (λ cs. length c.in_ok-found-2.found.items ≤ length (get_or samples place []) * length cs) found c.in_ok-found-2.ensures.few));
      value = λ catalogue formed truths.
          let so_far : c.deref.result.now ≡ sampled_combinations catalogue block samples (mask / 2 ^ suc place * 2 ^ suc place) =
          found ∙ c.loop-behind.invariant.value catalogue formed truths ∙ ap (sampled_combinations catalogue block samples) taken in
          let each = subst₂ (λ m cs. AllByRecursion (λ row. AllByRecursion (λ rows. In (set rows place row) (sampled_choices m samples)) cs) (get_or samples place [])) (sym more) (sym so_far)
          (members-next mask place samples within bit catalogue block) in
          c.in_ok-found-2.ensures.value catalogue formed truths each
          ∙ (λ i. flat_map (λ row. filter (satisfies catalogue block (more i)) (map (λ rows. set rows place row) (so_far i))) (get_or samples place []))
          ∙ combinations-next mask place samples within bit catalogue block formed
          ∙ ap (sampled_combinations catalogue block samples) (sym more);
    }
