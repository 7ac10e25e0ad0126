use Rattle.std.proofs.Common.{◌≡◌, map, take}
use Rattle.std.specs.List.{AllByRecursion}
use Rattle.rs_order.specs.Climbing.{In}
use Rattle.rs_expr.specs.Scoring.{Answering}
use Rattle.rs_catalog.specs.Catalog.{CatalogDef}
use Rattle.rs_query.specs.Answers.{score_of}
use Rattle.rs_query.specs.Tables.{all_entries}
use Rattle.rs_query.specs.WellFormed.{IsBlock}
use Rattle.rs_sample.specs.Choosing.{sampled_choices}
use Rattle.rs_sample.specs.Sampling.{worths_by_term}
use Rattle.rs_sample.proofs.cutoff.cutoff.Given as goal

-- the first combinations have their scores
abbrev pub invariant-loop-rows : goal.invariant-loop-rows
invariant-loop-rows l =
    (answer : Answering) (catalogue : CatalogDef) → IsBlock catalogue l.block → l.worths ≡ worths_by_term answer catalogue l.block l.samples
    → AllByRecursion (λ rows. In rows (sampled_choices (all_entries l.block) l.samples)) l.combinations
    → l.scores.items ≡ map (λ rows. score_of answer catalogue l.block rows l.block.terms) (take l.rows-index l.combinations)
