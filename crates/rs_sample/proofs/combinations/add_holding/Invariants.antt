use Rattle.std.proofs.Common.{◌≡◌, ◌+◌, ◌≤◌, ◌++◌, length, map, set, take}
use Rattle.std.specs.List.{AllByRecursion, filter}
use Rattle.rs_order.specs.Climbing.{In}
use Rattle.rs_catalog.specs.Catalog.{CatalogDef}
use Rattle.rs_query.specs.Combinations.{satisfies}
use Rattle.rs_query.specs.WellFormed.{IsBlock}
use Rattle.rs_sample.specs.Choosing.{sampled_choices}
use Rattle.rs_sample.specs.Finding.{truths_by_conjunct}
use Rattle.rs_sample.proofs.combinations.add_holding.Given as goal

-- of the first choices those are added that satisfy the conjuncts
abbrev pub invariant-loop-rows : goal.invariant-loop-rows
invariant-loop-rows l = record {
  few : length l.all.items ≤ length l.fn.all.items + l.rows-index;
  value : (catalogue : CatalogDef) → IsBlock catalogue l.block → l.truths ≡ truths_by_conjunct catalogue l.block l.samples
      → AllByRecursion (λ rows. In (set rows l.place l.row) (sampled_choices l.mask l.samples)) l.choices
      → l.all.items ≡ l.fn.all.items ++ filter (satisfies catalogue l.block l.mask) (map (λ rows. set rows l.place l.row) (take l.rows-index l.choices));
}
