use Rattle.std.proofs.Common.{◌≡◌, ◌∙◌, ◌*◌, ◌^◌, ◌<◌, ◌≤◌, length, map, sym, ap, ap₂, subst, arith, pow_pos}
use Rattle.std.specs.Prelude.{IfOk, max}
use Rattle.std.specs.Int.{div_ceil}
use Rattle.std.specs.List.{AllByRecursion, filter}
use Rattle.rs_order.specs.Climbing.{In}
use Rattle.rs_order.proofs.ClimbingFacts.{AllByRecursion-from_In}
use Rattle.rs_order.proofs.EachFacts.{each-weaker}
use Rattle.rs_order.proofs.ItemFacts.{In-filter-back}
use Rattle.rs_query.specs.Answers.{score_of}
use Rattle.rs_query.specs.Combinations.{satisfies}
use Rattle.rs_query.specs.Tables.{all_entries}
use Rattle.rs_query.specs.WellFormed.{IsTerm}
use Rattle.rs_query.specs.declared.term.Term.{Term}
use Rattle.rs_sample.specs.Choosing.{sampled_choices}
use Rattle.rs_sample.specs.Estimates.{cutoff_of, cutoff_place, nth_greatest, planned_rows, sampled_combinations}
use Rattle.rs_sample.specs.Quotients.{product_inside}
use Rattle.rs_sample.specs.Samples.{most_sampled}
use Rattle.rs_sample.proofs.FewFacts.{mask-small, product-less, sampled-wide, samples-small}
use Rattle.rs_sample.proofs.sample.block_cutoff.Goals as goal

pub combinations-requires-clause-few : goal.combinations-requires-clause-few
combinations-requires-clause-few c =
    samples-small (length c.args.block.now.from) c.args.sizes.now c.args.samples.now c.requires.block.1.some_entries c.requires.block.1.most_entries c.requires.samples

pub combinations-requires-clause-mask : goal.combinations-requires-clause-mask
combinations-requires-clause-mask c =
    let same = c.all_entries-entries.ensures in
    let some : 0 < 2 ^ length c.args.block.now.from = pow_pos (length c.args.block.now.from) in
    mask-small (length c.args.block.now.from) c.all_entries-entries.result c.requires.block.1.most_entries (omega arith)

pub sample_sizes-sampled-requires-clause-few : goal.sample_sizes-sampled-requires-clause-few
sample_sizes-sampled-requires-clause-few c =
    samples-small (length c.args.block.now.from) c.args.sizes.now c.args.samples.now c.requires.block.1.some_entries c.requires.block.1.most_entries c.requires.samples

pub cutoff_place-place-requires-clause-sampled : goal.cutoff_place-place-requires-clause-sampled
cutoff_place-place-requires-clause-sampled c =
    subst (AllByRecursion (λ size. size ≤ 131072)) (sym c.sample_sizes-sampled.ensures)
    (sampled-wide (length c.args.block.now.from) c.args.sizes.now c.args.samples.now c.requires.block.1.some_entries c.requires.block.1.most_entries c.requires.samples)

pub cutoff_place-place-requires-clause-none : goal.cutoff_place-place-requires-clause-none
cutoff_place-place-requires-clause-none c = λ none.
    let entries = c.all_entries-entries.result in
    let less = product-less (most_sampled (length c.args.block.now.from)) entries c.args.sizes.now c.args.samples.now c.requires.samples in
    subst (λ ss. product_inside entries ss ≡ 0) (sym c.sample_sizes-sampled.ensures) (omega (arith, less, none))

pub cutoff-requires-clause-few_rows : goal.cutoff-requires-clause-few_rows
cutoff-requires-clause-few_rows c =
    samples-small (length c.args.block.now.from) c.args.sizes.now c.args.samples.now c.requires.block.1.some_entries c.requires.block.1.most_entries c.requires.samples

pub cutoff-requires-clause-limits : goal.cutoff-requires-clause-limits
cutoff-requires-clause-limits c =
    each-weaker (IsTerm c.requires.block.0 c.args.block.now) (λ (t : Term). t.weight ≤ 1000000) (λ t is. is.most_weight) c.args.block.now.terms c.requires.block.1.terms

pub returns : goal.returns
returns c = λ answer catalogue formed truths are.
    let block = c.args.block.now in
    let sizes = c.args.sizes.now in
    let samples = c.args.samples.now in
    let combos = c.deref.ensures.value ∙ c.in_ok-rows.ensures.value catalogue formed truths ∙ ap (sampled_combinations catalogue block samples) c.all_entries-entries.ensures in
    let each = subst (AllByRecursion (λ rows. In rows (sampled_choices (all_entries block) samples))) (sym combos)
    (AllByRecursion-from_In (λ rows. In rows (sampled_choices (all_entries block) samples)) (filter (satisfies catalogue block (all_entries block)) (sampled_choices (all_entries block) samples))
    (λ rows h. (In-filter-back (satisfies catalogue block (all_entries block)) rows (sampled_choices (all_entries block) samples) h).0)) in
    let place : c.cutoff_place-place.result ≡ cutoff_place block sizes samples c.args.limit =
    c.cutoff_place-place.ensures.value
    ∙ ap₂ (λ mask ss. max 1 (div_ceil (planned_rows c.args.limit * product_inside mask ss) (product_inside mask sizes))) c.all_entries-entries.ensures c.sample_sizes-sampled.ensures in
    let cut : nth_greatest c.cutoff_place-place.result (map (λ rows. score_of answer catalogue block rows block.terms) c.deref.result.now) ≡ cutoff_of answer catalogue block sizes samples c.args.limit =
    ap₂ nth_greatest place (ap (map (λ rows. score_of answer catalogue block rows block.terms)) combos) in
    subst (λ n. IfOk c.cutoff.result (λ k. k ≡ n)) cut (c.cutoff.ensures answer catalogue formed are each)
