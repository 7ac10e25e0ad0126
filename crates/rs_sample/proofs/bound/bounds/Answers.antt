use Rattle.std.proofs.Common.{ℕ, suc, ◌≡◌, ◌∙◌, ◌+◌, ◌-◌, ◌*◌, ◌/◌, ◌%◌, ◌^◌, ◌<◌, ◌≤◌, cond, eqb, get_or, sym, ap, ap₂, arith}
use Rattle.std.proofs.Math.Nat.{pow-suc}
use Rattle.rs_order.proofs.EachFacts.{each-get_or}
use Rattle.rs_sample.proofs.BoundFacts.{bound-step, bound_from, either-limit}
use Rattle.rs_sample.proofs.bound.bounds.Goals as goal

pub loop-behind-preserved : goal.loop-behind-preserved
loop-behind-preserved c =
    let weights = c.args.weights.now in
    let worths = c.args.worths.now in
    let behind = c.loop-behind.behind in
    let place = 7 - behind in
    let less = c.loop-behind-test.true in
    let eight = c.requires.weight_count in
    let most_eight = c.requires.max_count in
    let long = c.told-worths in
    let here : 8 - behind ≡ suc place = omega arith in
    let there : place ≡ 8 - (behind + 1) = omega arith in
    let weight = get_or weights.weight place 0 in
    let worth = get_or worths place 0 in
    let most = get_or weights.max place 0 in
    let small : worth ≤ 4294967295 = (let fits = c.fits-worths place in omega arith) in
    let light = each-get_or (λ w. w ≤ 1000000) weights.weight place 0 c.requires.weight_limit (omega arith) in
    let few = each-get_or (λ m. m ≤ 4294967295) weights.max place 0 c.requires.max_limit (omega arith) in
    let value : (terms : ℕ) → terms < c.loop-behind.masks * 2 → get_or c.add_term.new.bounds terms 0 ≡ get_or c.loop-behind.bounds (terms / 2) 0 + cond (eqb (terms % 2) 1) (weight * worth) (weight * most) =
    λ terms within. c.add_term.ensures terms (omega arith)
    ∙ ap (λ w. get_or c.loop-behind.bounds (terms / 2) 0 + cond (eqb (terms % 2) 1) (w * c.from.result) (w * c.from-in-loop-behind.result)) c.from-weight.ensures
    ∙ ap₂ (λ v m. get_or c.loop-behind.bounds (terms / 2) 0 + cond (eqb (terms % 2) 1) (weight * v) (weight * m)) c.from.ensures c.from-in-loop-behind.ensures in
    record {
      count = ap (λ n. n * 2) c.loop-behind.invariant.count
          ∙ (let power = pow-suc 2 behind in let twice : 2 ^ behind * 2 ≡ 2 ^ suc behind = omega arith in twice)
          ∙ ap (λ n. 2 ^ n) (let one : suc behind ≡ behind + 1 = omega arith in one);
      each = λ terms within.
          value terms within
          ∙ ap (λ n. n + cond (eqb (terms % 2) 1) (weight * worth) (weight * most))
          (c.loop-behind.invariant.each (terms / 2) (omega arith) ∙ ap (λ p. bound_from weights worths p (terms / 2)) here)
          ∙ sym (bound-step weights worths place terms (omega arith) (omega arith) (omega arith))
          ∙ ap (λ p. bound_from weights worths p terms) there;
      few = λ terms within.
          let before = c.loop-behind.invariant.few (terms / 2) (omega arith) in
          let is = value terms within in
          let limit = either-limit (eqb (terms % 2) 1) weight worth most light small few in
          omega arith;
    }
