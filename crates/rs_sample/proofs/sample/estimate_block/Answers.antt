use Rattle.std.proofs.Common.{◌∙◌, ◌≤◌, length, map, ap, subst}
use Rattle.std.proofs.lemmas.List.{length-map}
use Rattle.rs_order.proofs.EachFacts.{each-weaker}
use Rattle.rs_query.specs.Answers.{worth_of}
use Rattle.rs_query.specs.WellFormed.{IsTerm}
use Rattle.rs_query.specs.declared.term.Term.{Term}
use Rattle.rs_sample.specs.Choosing.{sampled_choices}
use Rattle.rs_sample.specs.Samples.{AreBlockSamples, most_sampled}
use Rattle.rs_sample.proofs.DrawFacts.{length-samples}
use Rattle.rs_sample.proofs.EstimateFacts.{AreCards-estimated}
use Rattle.rs_sample.proofs.FewFacts.{terms-less}
use Rattle.rs_sample.proofs.IndexFacts.{worths-lengths}
use Rattle.rs_sample.proofs.TruthFacts.{truths-length}
use Rattle.rs_sample.proofs.sample.estimate_block.Goals as goal

pub block_cutoff-requires-clause-block : goal.block_cutoff-requires-clause-block
block_cutoff-requires-clause-block c = (c.args.catalog.now, c.requires.block)

pub block_cutoff-requires-clause-six : goal.block_cutoff-requires-clause-six
block_cutoff-requires-clause-six c =
    length-samples (most_sampled (length c.args.block.now.from)) c.args.sizes.now c.args.samples.now c.requires.samples ∙ ap length c.requires.sizes

pub block_cutoff-requires-clause-truths : goal.block_cutoff-requires-clause-truths
block_cutoff-requires-clause-truths c = ap length (c.deref.ensures.value ∙ c.in_ok-truths.ensures) ∙ truths-length c.args.catalog.now c.args.block.now c.args.samples.now

pub all_estimates-requires-clause-block : goal.all_estimates-requires-clause-block
all_estimates-requires-clause-block c = (c.args.catalog.now, c.requires.block)

pub all_estimates-requires-clause-six : goal.all_estimates-requires-clause-six
all_estimates-requires-clause-six c =
    length-samples (most_sampled (length c.args.block.now.from)) c.args.sizes.now c.args.samples.now c.requires.samples ∙ ap length c.requires.sizes

pub all_estimates-requires-clause-truths : goal.all_estimates-requires-clause-truths
all_estimates-requires-clause-truths c = ap length (c.deref-2.ensures.value ∙ c.in_ok-truths.ensures) ∙ truths-length c.args.catalog.now c.args.block.now c.args.samples.now

pub evaluate_conjuncts-requires-clause-samples : goal.evaluate_conjuncts-requires-clause-samples
evaluate_conjuncts-requires-clause-samples c =
    subst (λ sizes. AreBlockSamples (length c.args.block.now.from) sizes c.args.samples.now) c.requires.sizes c.requires.samples

pub block_cutoff-requires-clause-worths : goal.block_cutoff-requires-clause-worths
block_cutoff-requires-clause-worths c =
    let are = c.requires.worths in
    ap length are.1 ∙ length-map c.args.block.now.terms (λ (t : Term). map (λ rows. worth_of are.0 c.args.catalog.now c.args.block.now rows t) (sampled_choices t.entries c.args.samples.now))

pub all_estimates-requires-clause-worths : goal.all_estimates-requires-clause-worths
all_estimates-requires-clause-worths c =
    let are = c.requires.worths in
    ap length are.1 ∙ length-map c.args.block.now.terms (λ (t : Term). map (λ rows. worth_of are.0 c.args.catalog.now c.args.block.now rows t) (sampled_choices t.entries c.args.samples.now))

pub estimates_of-requires-clause-limits : goal.estimates_of-requires-clause-limits
estimates_of-requires-clause-limits c =
    each-weaker (IsTerm c.args.catalog.now c.args.block.now) (λ (t : Term). t.weight ≤ 1000000) (λ t is. is.most_weight) c.args.block.now.terms c.requires.block.terms

pub estimates_of-requires-clause-inside : goal.estimates_of-requires-clause-inside
estimates_of-requires-clause-inside c = terms-less c.args.catalog.now c.args.block.now c.requires.block

pub estimates_of-requires-clause-worths : goal.estimates_of-requires-clause-worths
estimates_of-requires-clause-worths c =
    worths-lengths c.requires.worths.0 c.args.catalog.now c.args.block.now c.args.samples.now c.args.worths.now c.requires.worths.1

pub returns : goal.returns
returns c = λ answer are.
    let catalogue = c.args.catalog.now in
    let block = c.args.block.now in
    let samples = c.args.samples.now in
    let truths = c.deref.ensures.value ∙ c.in_ok-truths.ensures in
    let same = c.deref-2.ensures.value ∙ c.in_ok-truths.ensures in
    let cut = c.in_ok-cutoff.ensures answer catalogue c.requires.block truths are in
    let value = c.in_ok-numbers.ensures.value answer catalogue c.requires.block same are in
    AreCards-estimated answer catalogue block c.args.sizes.now samples c.args.worths.now c.args.limit c.in_ok-cutoff.cutoff c.in_ok-numbers.numbers c.estimates_of.result c.requires.block.most_terms
    cut are value c.estimates_of.ensures.entries c.estimates_of.ensures.reads c.estimates_of.ensures.numbers c.estimates_of.ensures.index_numbers
