-- All combinations are new to an empty view.
use Rattle.std.proofs.Common.{◌≡◌, IfOk, subst}
use Rattle.rs_query.proofs.FreshFacts.{fresh-all}
use Rattle.rs_query.proofs.block.Block.combinations.Goals as goal

pub returns-clause-value : goal.returns-clause-value
returns-clause-value c =
    subst (λ all. IfOk c.fresh.result (λ rows. rows.items ≡ all)) (fresh-all c.args.catalog.now c.args.self.now c.requires) c.fresh.ensures.value
