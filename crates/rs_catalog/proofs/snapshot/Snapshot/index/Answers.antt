-- An index of the catalogue is one of the snapshot, with the entries of the rows that are seen.
use Rattle.std.proofs.Common.{ℕ, Bor, List, length, subst}
use Rattle.std.specs.Prelude.{Option, option_map}
use Rattle.rs_catalog.specs.Catalog.{CatalogDef}
use Rattle.rs_catalog.specs.Indexes.{IsIndex, IsRanking, predicate_for, ranking_at, rows_for}
use Rattle.rs_catalog.proofs.SeenFacts.{HaveSeen-borrowed, IsIndex-seen, IsRanking-seen}
use Rattle.rs_catalog.proofs.snapshot.Snapshot.index.Goals as goal

pub returns-clause-fits : goal.returns-clause-fits
returns-clause-fits c =
    let sizes : Option (List ℕ) = option_map (λ (s : Bor (List ℕ)). s.now) c.self.inside.sizes in
    subst (λ (seen : CatalogDef). IsIndex seen c.index.result.now) c.self.view_is (IsIndex-seen sizes c.self.inside.catalog.now c.index.result.now c.index.ensures.fits)

pub returns-clause-ranking : goal.returns-clause-ranking
returns-clause-ranking c =
    let sizes : Option (List ℕ) = option_map (λ (s : Bor (List ℕ)). s.now) c.self.inside.sizes in
    let catalogue = c.self.inside.catalog.now in
    let def = c.index.result.now in
    subst (λ (seen : CatalogDef). IsRanking (length (rows_for seen def)) (predicate_for seen def).max (ranking_at seen c.args.number)) c.self.view_is
    (IsRanking-seen sizes catalogue c.args.number def (HaveSeen-borrowed c.self.inside.sizes catalogue c.self.invariant) c.index.ensures.value c.index.ensures.ranking)
