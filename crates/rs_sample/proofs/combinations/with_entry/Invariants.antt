use Rattle.std.proofs.Common.{◌≡◌, ◌*◌, ◌≤◌, length, map, set, take}
use Rattle.std.specs.List.{AllByRecursion, filter, flat_map}
use Rattle.rs_order.specs.Climbing.{In}
use Rattle.rs_catalog.specs.Catalog.{CatalogDef}
use Rattle.rs_query.specs.Combinations.{satisfies}
use Rattle.rs_query.specs.WellFormed.{IsBlock}
use Rattle.rs_sample.specs.Choosing.{sampled_choices}
use Rattle.rs_sample.specs.Finding.{truths_by_conjunct}
use Rattle.rs_sample.proofs.combinations.with_entry.Given as goal

-- the first rows were put at the place
abbrev pub invariant-loop-row : goal.invariant-loop-row
invariant-loop-row l = record {
  few : length l.all.items ≤ l.row-index * length l.choices;
  value : (catalogue : CatalogDef) → IsBlock catalogue l.block → l.truths ≡ truths_by_conjunct catalogue l.block l.samples
      → AllByRecursion (λ row. AllByRecursion (λ rows. In (set rows l.place row) (sampled_choices l.mask l.samples)) l.choices) l.row-items
      → l.all.items ≡ flat_map (λ row. filter (satisfies catalogue l.block l.mask) (map (λ rows. set rows l.place row) l.choices)) (take l.row-index l.row-items);
}
