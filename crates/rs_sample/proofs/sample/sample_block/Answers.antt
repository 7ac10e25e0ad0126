use Rattle.std.proofs.Common.{◌∙◌, ◌≤◌, [], length, sum, refl, sym, ap, subst}
use Rattle.rand_core.specs.Steps.{first_words}
use Rattle.rand_pcg.specs.Pcg.{pcg32}
use Rattle.rs_query.specs.Tables.{sizes_of}
use Rattle.rs_sample.specs.Drawing.{Draws}
use Rattle.rs_sample.specs.Kept.{block_cards}
use Rattle.rs_sample.specs.Samples.{AreBlockSamples, samples_from}
use Rattle.rs_sample.specs.Sampling.{AreCards, block_questions, done, done_of, worths_by_term}
use Rattle.rs_sample.specs.declared.fault.SampleFault.TheVariants.{Memory}
use Rattle.rs_sample.proofs.AskingFacts.{Asked-none, Inquires-within, value-ok}
use Rattle.rs_sample.proofs.BlockFacts.{block-ended, block-faulted, block-stopped}
use Rattle.rs_value.proofs.ResultFacts.{given-err}
use Rattle.rs_sample.proofs.sample.sample_block.Goals as goal

pub ask_terms-requires-clause-samples : goal.ask_terms-requires-clause-samples
ask_terms-requires-clause-samples g c =
    subst (AreBlockSamples (length c.args.block.now.from) (sizes_of c.args.catalog.now c.args.block.now)) (sym c.deref.ensures.value)
    (subst (λ zs. AreBlockSamples (length c.args.block.now.from) zs c.in_ok-samples.samples.items) c.sizes_of-sizes.ensures.value
    (subst (λ n. AreBlockSamples n c.sizes_of-sizes.result c.in_ok-samples.samples.items) c.len.ensures c.in_ok-samples.ensures.are))

pub returns-in_err-samples-clause-asks : goal.returns-in_err-samples-clause-asks
returns-in_err-samples-clause-asks g c = λ count enough.
    let old = g.S.Scorer.state c.args.scorer.now in
    let sizes = sizes_of c.args.catalog.now c.args.block.now in
    let questions = block_questions c.args.number c.args.block.now (samples_from (length c.args.block.now.from) sizes (first_words pcg32 count c.args.words.now)).0 in
    Inquires-within c.args.catalog.now [] questions questions done (done_of c.from_residual.result) old old refl
    (ap done_of (given-err c.from_residual.result Memory c.from_residual.ensures)) (Asked-none c.args.catalog.now old)

pub returns-in_err-worths-clause-asks : goal.returns-in_err-worths-clause-asks
returns-in_err-worths-clause-asks g c = λ count enough.
    let old = g.S.Scorer.state c.args.scorer.now in
    let new = g.S.Scorer.state c.ask_terms.new.scorer in
    let sizes = c.sizes_of-sizes.ensures.value in
    let drawn = subst (λ zs. Draws (sum zs) (samples_from (length c.args.block.now.from) zs) c.in_ok-samples.samples.items c.args.words.now c.take_samples.new.words count) sizes
    (subst (λ n. Draws (sum c.sizes_of-sizes.result) (samples_from n c.sizes_of-sizes.result) c.in_ok-samples.samples.items c.args.words.now c.take_samples.new.words count) c.len.ensures
    (c.in_ok-samples.ensures.drawn count (subst (λ zs. sum zs ≤ count) (sym sizes) enough))) in
    let are = ap (λ p. p.0) drawn.gives ∙ sym c.deref.ensures.value in
    block-faulted c.args.catalog.now c.args.number c.args.block.now (samples_from (length c.args.block.now.from) (sizes_of c.args.catalog.now c.args.block.now) (first_words pcg32 count c.args.words.now)).0
    c.deref.result.now are (worths_by_term old.answer c.args.catalog.now c.args.block.now c.deref.result.now) old new c.in_err-worths.field-0.0 (done_of c.from_residual-in_err-worths.result)
    (ap done_of (given-err c.from_residual-in_err-worths.result c.in_err-worths.field-0.0 c.from_residual-in_err-worths.ensures)) c.in_err-worths.ensures

pub returns-in_err-estimates-clause-asks : goal.returns-in_err-estimates-clause-asks
returns-in_err-estimates-clause-asks g c = λ count enough.
    let old = g.S.Scorer.state c.args.scorer.now in
    let new = g.S.Scorer.state c.ask_terms.new.scorer in
    let sizes = c.sizes_of-sizes.ensures.value in
    let drawn = subst (λ zs. Draws (sum zs) (samples_from (length c.args.block.now.from) zs) c.in_ok-samples.samples.items c.args.words.now c.take_samples.new.words count) sizes
    (subst (λ n. Draws (sum c.sizes_of-sizes.result) (samples_from n c.sizes_of-sizes.result) c.in_ok-samples.samples.items c.args.words.now c.take_samples.new.words count) c.len.ensures
    (c.in_ok-samples.ensures.drawn count (subst (λ zs. sum zs ≤ count) (sym sizes) enough))) in
    let are = ap (λ p. p.0) drawn.gives ∙ sym c.deref.ensures.value in
    block-stopped c.args.catalog.now c.args.number c.args.block.now (samples_from (length c.args.block.now.from) (sizes_of c.args.catalog.now c.args.block.now) (first_words pcg32 count c.args.words.now)).0
    c.deref.result.now are (worths_by_term old.answer c.args.catalog.now c.args.block.now c.deref.result.now) old new c.in_ok-worths.worths.items (done_of c.from_residual-in_err-estimates.result)
    (ap done_of (given-err c.from_residual-in_err-estimates.result Memory c.from_residual-in_err-estimates.ensures)) c.in_ok-worths.ensures

pub returns-clause-asks : goal.returns-clause-asks
returns-clause-asks g c = λ count enough.
    let old = g.S.Scorer.state c.args.scorer.now in
    let new = g.S.Scorer.state c.ask_terms.new.scorer in
    let sizes = c.sizes_of-sizes.ensures.value in
    let drawn = subst (λ zs. Draws (sum zs) (samples_from (length c.args.block.now.from) zs) c.in_ok-samples.samples.items c.args.words.now c.take_samples.new.words count) sizes
    (subst (λ n. Draws (sum c.sizes_of-sizes.result) (samples_from n c.sizes_of-sizes.result) c.in_ok-samples.samples.items c.args.words.now c.take_samples.new.words count) c.len.ensures
    (c.in_ok-samples.ensures.drawn count (subst (λ zs. sum zs ≤ count) (sym sizes) enough))) in
    let are = ap (λ p. p.0) drawn.gives ∙ sym c.deref.ensures.value in
    block-ended c.args.catalog.now c.args.number c.args.block.now (samples_from (length c.args.block.now.from) (sizes_of c.args.catalog.now c.args.block.now) (first_words pcg32 count c.args.words.now)).0
    c.deref.result.now are (worths_by_term old.answer c.args.catalog.now c.args.block.now c.deref.result.now) old new c.in_ok-worths.worths.items c.in_ok-worths.ensures

pub returns-clause-words : goal.returns-clause-words
returns-clause-words g c = λ count enough.
    let sizes = c.sizes_of-sizes.ensures.value in
    let drawn = subst (λ zs. Draws (sum zs) (samples_from (length c.args.block.now.from) zs) c.in_ok-samples.samples.items c.args.words.now c.take_samples.new.words count) sizes
    (subst (λ n. Draws (sum c.sizes_of-sizes.result) (samples_from n c.sizes_of-sizes.result) c.in_ok-samples.samples.items c.args.words.now c.take_samples.new.words count) c.len.ensures
    (c.in_ok-samples.ensures.drawn count (subst (λ zs. sum zs ≤ count) (sym sizes) enough))) in
    subst (λ samples. Draws (sum (sizes_of c.args.catalog.now c.args.block.now)) (samples_from (length c.args.block.now.from) (sizes_of c.args.catalog.now c.args.block.now)) samples
    c.args.words.now c.take_samples.new.words count) (sym (ap (λ p. p.0) drawn.gives)) drawn

pub returns-clause-cards : goal.returns-clause-cards
returns-clause-cards g c = λ count enough.
    let old = g.S.Scorer.state c.args.scorer.now in
    let catalogue = c.args.catalog.now in
    let block = c.args.block.now in
    let new = g.S.Scorer.state c.ask_terms.new.scorer in
    let asked = c.deref.result.now in
    let samples = c.deref-2.result.now in
    let sizes = c.sizes_of-sizes.ensures.value in
    let drawn = subst (λ zs. Draws (sum zs) (samples_from (length c.args.block.now.from) zs) c.in_ok-samples.samples.items c.args.words.now c.take_samples.new.words count) sizes
    (subst (λ n. Draws (sum c.sizes_of-sizes.result) (samples_from n c.sizes_of-sizes.result) c.in_ok-samples.samples.items c.args.words.now c.take_samples.new.words count) c.len.ensures
    (c.in_ok-samples.ensures.drawn count (subst (λ zs. sum zs ≤ count) (sym sizes) enough))) in
    let are = ap (λ p. p.0) drawn.gives ∙ sym c.deref-2.ensures.value in
    let worths = c.deref-3.ensures.value
    ∙ value-ok catalogue (block_questions c.args.number block asked) (worths_by_term old.answer catalogue block asked) c.in_ok-worths.worths.items old new c.in_ok-worths.ensures
    ∙ ap (worths_by_term old.answer catalogue block) (c.deref.ensures.value ∙ sym c.deref-2.ensures.value) in
    subst (λ ss. AreCards old.answer catalogue block (sizes_of catalogue block) ss c.args.limit (block_cards c.in_ok-estimates.estimates)) (sym are)
    (subst (λ zs. AreCards old.answer catalogue block zs samples c.args.limit (block_cards c.in_ok-estimates.estimates)) sizes
    (c.in_ok-estimates.ensures old.answer worths))
