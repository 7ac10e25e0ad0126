use Rattle.std.proofs.Common.{◌≡◌, take, true}
use Rattle.std.specs.List.{list_all}
use Rattle.rs_order.specs.Climbing.{In}
use Rattle.rs_catalog.specs.Catalog.{CatalogDef}
use Rattle.rs_query.specs.Combinations.{holds_inside}
use Rattle.rs_query.specs.WellFormed.{IsBlock}
use Rattle.rs_sample.specs.Choosing.{sampled_choices}
use Rattle.rs_sample.specs.Finding.{truths_by_conjunct}
use Rattle.rs_sample.proofs.combinations.satisfies.Given as goal

-- the first conjuncts hold
abbrev pub invariant-loop-place : goal.invariant-loop-place
invariant-loop-place l =
    (catalogue : CatalogDef) → IsBlock catalogue l.block → l.truths ≡ truths_by_conjunct catalogue l.block l.samples
    → In l.rows (sampled_choices l.mask l.samples)
    → list_all (holds_inside catalogue l.block l.mask l.rows) (take l.place l.block.conjuncts) ≡ true
