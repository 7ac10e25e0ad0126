use Rattle.std.proofs.Common.{◌≡◌, ◌-◌, ◌*◌, ◌/◌, ◌^◌, ◌≤◌, length}
use Rattle.rs_catalog.specs.Catalog.{CatalogDef}
use Rattle.rs_query.specs.WellFormed.{IsBlock}
use Rattle.rs_sample.specs.Choosing.{sampled_choices}
use Rattle.rs_sample.specs.Estimates.{sampled_combinations}
use Rattle.rs_sample.specs.Finding.{truths_by_conjunct}
use Rattle.rs_sample.proofs.combinations.combinations.Given as goal

-- the last entries of the mask were taken
abbrev pub invariant-loop-behind : goal.invariant-loop-behind
invariant-loop-behind l = record {
  taken : l.taken ≡ l.mask / 2 ^ (6 - l.behind) * 2 ^ (6 - l.behind);
  few : length l.found.items ≤ length (sampled_choices l.taken l.samples);
  value : (catalogue : CatalogDef) → IsBlock catalogue l.block → l.truths ≡ truths_by_conjunct catalogue l.block l.samples
      → l.found.items ≡ sampled_combinations catalogue l.block l.samples l.taken;
}
