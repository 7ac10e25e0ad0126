use Rattle.std.proofs.Common.{◌≡◌, map, take}
use Rattle.rs_order.specs.Climbing.{In}
use Rattle.rs_expr.specs.Scoring.{Answering}
use Rattle.rs_catalog.specs.Catalog.{CatalogDef}
use Rattle.rs_query.specs.Answers.{padded}
use Rattle.rs_query.specs.WellFormed.{IsBlock}
use Rattle.rs_sample.specs.Choosing.{sampled_choices}
use Rattle.rs_sample.specs.Finding.{known_worth}
use Rattle.rs_sample.specs.Sampling.{worths_by_term}
use Rattle.rs_sample.proofs.lookup.worths_for.Given as goal

-- the first terms have their worths
abbrev pub invariant-loop-place : goal.invariant-loop-place
invariant-loop-place l =
    (answer : Answering) (catalogue : CatalogDef) → IsBlock catalogue l.block → l.worths ≡ worths_by_term answer catalogue l.block l.samples
    → In l.rows (sampled_choices l.mask l.samples)
    → l.known ≡ padded 8 (map (known_worth answer catalogue l.block l.mask l.rows) (take l.place l.block.terms))
