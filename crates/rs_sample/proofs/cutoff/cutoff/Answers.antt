use Rattle.std.proofs.Common.{◌∙◌, ◌<◌, [], ◌∷◌, ◌++◌, get_or, length, map, take, sym, ap, ap₂, subst, arith}
use Rattle.std.proofs.lemmas.List.{length-map}
use Rattle.rs_order.specs.Climbing.{In}
use Rattle.rs_rank.specs.Weights.{evaluated}
use Rattle.rs_query.specs.Answers.{all_terms, padded, score_of, weights_of, worth_of, worths_of}
use Rattle.rs_query.specs.Tables.{all_entries}
use Rattle.rs_query.proofs.EntryFacts.{terms-inside}
use Rattle.rs_query.proofs.ScoreFacts.{score-evaluated}
use Rattle.rs_sample.specs.Choosing.{sampled_choices}
use Rattle.rs_sample.specs.Finding.{known_worth}
use Rattle.rs_sample.proofs.BoundFacts.{sum-padded}
use Rattle.rs_sample.proofs.CountFacts.{known-all}
use Rattle.rs_sample.proofs.ListFacts.{each-at, get_or-other, map-with}
use Rattle.rs_sample.proofs.cutoff.cutoff.Goals as goal

pub loop-rows-preserved : goal.loop-rows-preserved
loop-rows-preserved c = λ answer catalogue formed are all.
    let samples = c.args.samples.now in
    let block = c.args.block.now in
    let combos = c.args.combinations.now in
    let i = c.loop-rows.rows-index in
    let rows = get_or combos i [] in
    let within : i < length combos = c.loop-rows-test.true in
    let own = get_or-other combos i [] within in
    let inside = subst (λ mask. In rows (sampled_choices mask samples)) (sym c.all_entries.ensures) (each-at (λ rs. In rs (sampled_choices (all_entries block) samples)) combos i rows all within own) in
    let worths = c.worths_for-worths.ensures answer catalogue formed are inside
    ∙ ap (λ mask. padded 8 (map (known_worth answer catalogue block mask rows) block.terms)) c.all_entries.ensures
    ∙ ap (padded 8) (known-all answer catalogue block (all_entries block) rows block.terms (terms-inside catalogue block formed)) in
    c.in_ok-push.ensures.items
    ∙ ap (λ ss. ss ++ c.evaluated_score.result ∷ []) (c.loop-rows.invariant answer catalogue formed are all)
    ∙ ap (λ s. map (λ rs. score_of answer catalogue block rs block.terms) (take i combos) ++ s ∷ [])
    (c.evaluated_score.ensures.value ∙ ap (λ terms. evaluated c.weights-weights.result terms c.worths_for-worths.result) c.all_terms.ensures
    ∙ ap₂ (λ ws vs. evaluated ws (all_terms block) vs) c.weights-weights.ensures.value worths
    ∙ sum-padded (all_terms block) 8 (weights_of block).weight (worths_of answer catalogue block rows)
    (let long = length-map block.terms (worth_of answer catalogue block rows) in let few = c.requires.few_terms in omega arith)
    ∙ score-evaluated answer catalogue block rows 8 block.terms formed.most_terms)
    ∙ sym (map-with (λ rs. score_of answer catalogue block rs block.terms) combos i rows within own)
