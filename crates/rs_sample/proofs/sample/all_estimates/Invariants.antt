use Rattle.std.proofs.Common.{ℕ, ◌≡◌, ◌≤◌, ◌<◌, ◌^◌, length}
use Rattle.std.specs.List.{AllByRecursion}
use Rattle.rs_expr.specs.Scoring.{Answering}
use Rattle.rs_catalog.specs.Catalog.{CatalogDef}
use Rattle.rs_query.specs.WellFormed.{IsBlock}
use Rattle.rs_sample.specs.Finding.{known_estimate, truths_by_conjunct}
use Rattle.rs_sample.specs.Quotients.{most_expected, number_at}
use Rattle.rs_sample.specs.Sampling.{worths_by_term}
use Rattle.rs_sample.proofs.sample.all_estimates.Given as goal

-- the first masks of entries have their numbers
abbrev pub invariant-loop-mask : goal.invariant-loop-mask
invariant-loop-mask l = record {
  count : length l.numbers.items ≡ l.mask;
  lengths : AllByRecursion (λ row. length row ≡ 2 ^ length l.block.terms) l.numbers.items;
  limits : (mask terms : ℕ) → number_at l.numbers.items mask terms ≤ most_expected mask;
  value : (answer : Answering) (catalogue : CatalogDef) → IsBlock catalogue l.block → l.truths ≡ truths_by_conjunct catalogue l.block l.samples
      → l.worths ≡ worths_by_term answer catalogue l.block l.samples
      → (mask terms : ℕ) → mask < l.mask → terms < 2 ^ length l.block.terms
      → number_at l.numbers.items mask terms ≡ known_estimate answer catalogue l.block l.sizes l.samples l.cutoff mask terms;
}
