use Rattle.std.proofs.Common.{◌≡◌, ◌∙◌, ◌+◌, ◌<◌, ◌≤◌, [], ◌∷◌, ◌++◌, length, get_or, take, sym, ap, subst, arith}
use Rattle.rs_sample.specs.Drawing.{Draws}
use Rattle.rs_sample.specs.Samples.{AreSamples, most_sampled}
use Rattle.rs_sample.specs.Taking.{taken_of}
use Rattle.rs_sample.proofs.DrawFacts.{AreSamples-all, AreSamples-more, DrawnSome, DrawnSome-all, DrawnSome-more, DrawnSome-none}
use Rattle.rs_sample.proofs.ListFacts.{get_or-other}
use Rattle.rs_sample.proofs.draw.take_samples.Goals as goal

pub loop-size-preserved : goal.loop-size-preserved
loop-size-preserved c =
    let sizes = c.args.sizes.now in
    let i = c.loop-size.size-index in
    let size = get_or sizes i 0 in
    let six = c.told-sizes in
    let within : i < length sizes = omega arith in
    let is = get_or-other sizes i 0 within in
    let pushed : c.push.new.self.items ≡ c.loop-size.samples.items ++ c.in_ok-rows.rows.items ∷ [] =
    c.in_ok-push.ensures.items ∙ ap (λ rows. c.loop-size.samples.items ++ rows ∷ []) c.of.ensures in
    record {
      are = subst (AreSamples (most_sampled c.args.entries) (take (i + 1) sizes)) (sym pushed)
          (AreSamples-more c.args.entries sizes i size c.sample_size.result c.loop-size.samples.items c.in_ok-rows.rows.items within is c.sample_size.ensures.value c.loop-size.invariant.are
          c.in_ok-rows.ensures.are);
      drawn = λ count enough.
          subst (λ samples. DrawnSome c.args.entries sizes (i + 1) samples c.args.words.now c.take_rows.new.words count) (sym pushed)
          (DrawnSome-more c.args.entries sizes i size c.loop-size.samples.items c.in_ok-rows.rows.items c.args.words.now c.loop-size.words c.take_rows.new.words count within is
          (c.loop-size.invariant.drawn count enough)
          (λ k all. subst (λ needed. Draws size (taken_of size needed) c.in_ok-rows.rows.items c.loop-size.words c.take_rows.new.words k) c.sample_size.ensures.value
          (c.in_ok-rows.ensures.drawn k all)));
    }

pub returns-clause-are : goal.returns-clause-are
returns-clause-are c =
    let six = c.told-sizes in
    let past : 6 ≤ c.loop-size.size-index = c.loop-size-test.false in
    AreSamples-all c.args.entries c.args.sizes.now c.loop-size.size-index c.loop-size.samples.items (omega arith) c.loop-size.invariant.are

pub returns-clause-drawn : goal.returns-clause-drawn
returns-clause-drawn c = λ count enough.
    let six = c.told-sizes in
    let past : 6 ≤ c.loop-size.size-index = c.loop-size-test.false in
    DrawnSome-all c.args.entries c.args.sizes.now c.loop-size.size-index c.loop-size.samples.items c.args.words.now c.loop-size.words count (omega arith)
    (c.loop-size.invariant.drawn count enough)

pub loop-size-init : goal.loop-size-init
loop-size-init c = record {
  are = subst (AreSamples (most_sampled c.args.entries) []) (sym c.new-samples.ensures.items) tt;
  drawn = λ count enough.
      subst (λ samples. DrawnSome c.args.entries c.args.sizes.now 0 samples c.args.words.now c.args.words.now count) (sym c.new-samples.ensures.items)
      (DrawnSome-none c.args.entries c.args.sizes.now c.args.words.now count enough);
}
