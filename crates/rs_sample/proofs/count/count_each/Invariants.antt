use Rattle.std.proofs.Common.{ℕ, ◌≡◌, ◌≤◌, ◌<◌, ◌^◌, get_or, length, take}
use Rattle.std.specs.List.{AllByRecursion, filter}
use Rattle.rs_order.specs.Climbing.{In}
use Rattle.rs_expr.specs.Scoring.{Answering}
use Rattle.rs_catalog.specs.Catalog.{CatalogDef}
use Rattle.rs_query.specs.WellFormed.{IsBlock}
use Rattle.rs_sample.specs.Choosing.{sampled_choices}
use Rattle.rs_sample.specs.Finding.{known_reaches}
use Rattle.rs_sample.specs.Sampling.{worths_by_term}
use Rattle.rs_sample.proofs.count.count_each.Given as goal

-- the first choices were counted for each mask of terms
abbrev pub invariant-loop-rows : goal.invariant-loop-rows
invariant-loop-rows l = record {
  count : length l.counts.items ≡ 2 ^ length l.block.terms;
  few : (k : ℕ) → k < length l.counts.items → get_or l.counts.items k 0 ≤ l.rows-index;
  value : (answer : Answering) (catalogue : CatalogDef) → IsBlock catalogue l.block → l.worths ≡ worths_by_term answer catalogue l.block l.samples
      → AllByRecursion (λ rows. In rows (sampled_choices l.mask l.samples)) l.choices
      → (k : ℕ) → k < length l.counts.items → get_or l.counts.items k 0 ≡ length (filter (known_reaches answer catalogue l.block l.cutoff l.mask k) (take l.rows-index l.choices));
}
