use Rattle.std.proofs.Common.{◌≡◌, ◌∙◌, ◌+◌, ◌≤◌, ◌^◌, [], ◌∷◌, ◌++◌, length, sym, ap, subst, inl, inr, arith}
use Rattle.std.specs.List.{AllByRecursion}
use Rattle.std.proofs.lemmas.Bool.{cases_lt}
use Rattle.std.proofs.lemmas.List.{length-append}
use Rattle.rs_order.proofs.EachFacts.{each-push}
use Rattle.rs_sample.specs.Finding.{known_estimate}
use Rattle.rs_sample.specs.Quotients.{most_expected, number_at}
use Rattle.rs_sample.proofs.FewFacts.{samples-small}
use Rattle.rs_sample.proofs.GridFacts.{grid-before, grid-last, limits-push}
use Rattle.rs_sample.proofs.sample.all_estimates.Goals as goal

pub sample_sizes-sampled-requires-clause-few : goal.sample_sizes-sampled-requires-clause-few
sample_sizes-sampled-requires-clause-few c =
    samples-small (length c.args.block.now.from) c.args.sizes.now c.args.samples.now c.requires.block.1.some_entries c.requires.block.1.most_entries c.requires.samples

pub loop-mask-preserved : goal.loop-mask-preserved
loop-mask-preserved c =
    let numbers = c.loop-mask.numbers.items in
    let mask = c.loop-mask.mask in
    let row = c.in_ok-row.row in
    let pushed = c.in_ok-push.ensures.items in
    let count = c.loop-mask.invariant.count in
    record {
      count = ap length pushed ∙ length-append numbers (row ∷ []) ∙ ap (λ n. n + 1) count;
      lengths = subst (AllByRecursion (λ r. length r ≡ 2 ^ length c.args.block.now.terms)) (sym pushed)
          (each-push (λ r. length r ≡ 2 ^ length c.args.block.now.terms) numbers row c.loop-mask.invariant.lengths c.in_ok-row.ensures.length);
      limits = λ m terms. subst (λ ns. number_at ns m terms ≤ most_expected m) (sym pushed) (limits-push numbers row mask count c.loop-mask.invariant.limits c.in_ok-row.ensures.limit m terms);
      value = λ answer catalogue formed truths are m terms less within.
          ap (λ ns. number_at ns m terms) pushed
          ∙ elim (cases_lt m mask) [
            | inl before ↦ grid-before numbers row m terms (omega arith) ∙ c.loop-mask.invariant.value answer catalogue formed truths are m terms before within
            | inr behind ↦
                let same : mask ≡ m = omega arith in
                subst (λ k. number_at (numbers ++ row ∷ []) k terms ≡ known_estimate answer catalogue c.args.block.now c.args.sizes.now c.args.samples.now c.args.cutoff k terms) same
                (grid-last numbers row mask terms count ∙ c.in_ok-row.ensures.value answer catalogue formed truths are terms within)
          ];
    }
