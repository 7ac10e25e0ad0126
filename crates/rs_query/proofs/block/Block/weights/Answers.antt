-- The next term's weight and maximum stand behind those of the terms so far.
use Rattle.std.proofs.Common.{◌≡◌, ◌∙◌, ◌<◌, ◌≤◌, length, get_or, refl}
use Rattle.std.proofs.lemmas.Option.{slice_get_read}
use Rattle.rs_rank.specs.declared.weights.Weights.{Weights}
use Rattle.rs_query.specs.declared.term.Term.{Term}
use Rattle.rs_order.proofs.EachFacts.{each-slice_get}
use Rattle.rs_query.proofs.WeightFacts.{IsWeights-set, padded-more}
use Rattle.rs_query.proofs.block.Block.weights.Goals as goal

pub loop-place-preserved : goal.loop-place-preserved
loop-place-preserved c =
    let terms = c.args.self.now.terms in
    let place = c.loop-place.place in
    let term : Term = c.term-item.result in
    let is : term ≡ get_or terms place term = rw (c.deref-term-items.ensures.value, c.items.ensures) at c.term-item.is in
    let within : place < length terms = rw (c.deref-term-items.ensures.value, c.items.ensures) at c.loop-place-test.true in
    let low : term.weight ≤ 1000000 =
    each-slice_get (λ (t : Term). t.weight ≤ 1000000) terms place term c.requires.limits (slice_get_read terms (length terms) place term refl within is) in
    let made : Weights = c.put.new.weights in
    record {
      weight = c.put.ensures.weight ∙ padded-more (λ (t : Term). t.weight) terms place term c.loop-place.weights.weight within c.requires.few is c.loop-place.invariant.weight;
      max = c.put.ensures.max ∙ padded-more (λ (t : Term). t.max) terms place term c.loop-place.weights.max within c.requires.few is c.loop-place.invariant.max;
      limits = IsWeights-set c.loop-place.weights made place term.weight term.max c.loop-place.invariant.limits c.put.ensures.weight c.put.ensures.max low c.put.ensures.limit;
    }
