use Rattle.std.proofs.Common.{◌≡◌, ◌∙◌, ◌+◌, ◌<◌, ◌≤◌, Bool, true, false, [], cond, get_or, length, map, nat_le, take, sym, ap, ap₂, arith}
use Rattle.std.specs.List.{filter}
use Rattle.std.proofs.lemmas.List.{length-map, take_all}
use Rattle.rs_order.specs.Climbing.{In}
use Rattle.rs_rank.specs.Weights.{bound, rest}
use Rattle.rs_query.specs.Answers.{weights_of}
use Rattle.rs_sample.specs.Choosing.{sampled_choices}
use Rattle.rs_sample.specs.Finding.{known_reaches, known_worth}
use Rattle.rs_sample.proofs.BoundFacts.{sum-padded}
use Rattle.rs_sample.proofs.CountFacts.{count-more}
use Rattle.rs_sample.proofs.ListFacts.{each-at, get_or-other}
use Rattle.rs_sample.proofs.SixFacts.{each-number}
use Rattle.rs_sample.proofs.count.count_each.Goals as goal

at-most-one : (b : Bool) → cond b 1 0 ≤ 1
at-most-one true = omega arith
at-most-one false = omega arith

pub count_reached-requires-clause-room : goal.count_reached-requires-clause-room
count_reached-requires-clause-room c = λ k less.
    let few = c.loop-rows.invariant.few k less in
    let most = c.requires.few in
    let inside = c.loop-rows-test.true in
    omega arith

pub loop-rows-preserved : goal.loop-rows-preserved
loop-rows-preserved c =
    let choices = c.args.choices.now in
    let i = c.loop-rows.rows-index in
    let rows = get_or choices i [] in
    let within : i < length choices = c.loop-rows-test.true in
    let same = c.count_reached.ensures.length in
    record {
      count = same ∙ c.loop-rows.invariant.count;
      few = λ k less.
          let before : k < length c.loop-rows.counts.items = omega arith in
          let few = c.loop-rows.invariant.few k before in
          let each = c.count_reached.ensures.each k before in
          let one = at-most-one (nat_le c.args.cutoff (bound c.weights-weights.result k c.worths_for-worths.result)) in
          omega arith;
      value = λ answer catalogue formed are all k less.
          let before : k < length c.loop-rows.counts.items = omega arith in
          let block = c.args.block.now in
          let known = c.worths_for-worths.ensures answer catalogue formed are
          (each-at (λ rs. In rs (sampled_choices c.args.mask c.args.samples.now)) choices i rows all within (get_or-other choices i [] within)) in
          let long = length-map block.terms (known_worth answer catalogue block c.args.mask rows) in
          let few_terms = c.requires.few_terms in
          let same_bound : bound c.weights-weights.result k c.worths_for-worths.result ≡ bound (weights_of block) k (map (known_worth answer catalogue block c.args.mask rows) block.terms) =
          ap₂ (λ ws vs. bound ws k vs) c.weights-weights.ensures.value known
          ∙ ap (λ sum. sum + rest (weights_of block) k) (sum-padded k 8 (weights_of block).weight (map (known_worth answer catalogue block c.args.mask rows) block.terms) (omega arith)) in
          c.count_reached.ensures.each k before
          ∙ ap (λ n. n + cond (nat_le c.args.cutoff (bound c.weights-weights.result k c.worths_for-worths.result)) 1 0) (c.loop-rows.invariant.value answer catalogue formed are all k before)
          ∙ ap (λ n. length (filter (known_reaches answer catalogue block c.args.cutoff c.args.mask k) (take i choices)) + cond (nat_le c.args.cutoff n) 1 0) same_bound
          ∙ sym (count-more (known_reaches answer catalogue c.args.block.now c.args.cutoff c.args.mask k) choices i rows within (get_or-other choices i [] within));
    }

pub returns-clause-limit : goal.returns-clause-limit
returns-clause-limit c =
    each-number (length c.args.choices.now) c.loop-rows.counts.items (λ k less.
    let few = c.loop-rows.invariant.few k less in
    let end = c.loop-rows.auto.rows-index-end in
    omega arith)

pub returns-clause-value : goal.returns-clause-value
returns-clause-value c = λ answer catalogue formed are all k less.
    let count = c.loop-rows.invariant.count in
    c.loop-rows.invariant.value answer catalogue formed are all k (omega arith)
    ∙ ap (λ cs. length (filter (known_reaches answer catalogue c.args.block.now c.args.cutoff c.args.mask k) cs)) (take_all c.loop-rows.rows-index c.args.choices.now c.loop-rows-test.false)
