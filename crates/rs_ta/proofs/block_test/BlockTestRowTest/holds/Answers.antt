-- The conjuncts within the only FROM entry are all. The catalogue as it is shows all that is in it.
use Rattle.std.proofs.Common.{◌≡◌, ◌∙◌, subst}
use Rattle.rs_catalog.specs.Catalog.{CatalogDef}
use Rattle.rs_ta.specs.BlockTests.{BlockTestState, holds_on}
use Rattle.rs_ta.proofs.BlockTestFacts.{holds_on-all}
use Rattle.rs_ta.proofs.block_test.BlockTestRowTest.holds.Goals as goal

pub returns-clause-truth : goal.returns-clause-truth
returns-clause-truth c =
    let seen : c.holds.result ≡ holds_on c.current-seen.result c.self.inside.block.now c.args.row =
    c.holds.ensures ∙ holds_on-all c.current-seen.result c.self.inside.block.now c.args.row c.self.invariant.1 c.within-conjuncts.result c.within-conjuncts.ensures.value in
    let held = subst (λ (catalogue : CatalogDef). c.holds.result ≡ holds_on catalogue c.self.inside.block.now c.args.row) c.current-seen.ensures seen in
    subst (λ (t : BlockTestState). c.holds.result ≡ holds_on t.catalogue t.block c.args.row) c.self.view_is held
