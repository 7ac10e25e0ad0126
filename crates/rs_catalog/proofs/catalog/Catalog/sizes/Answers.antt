-- The size of the next table joins.
use Rattle.std.proofs.Common.{◌∙◌, ◌++◌, ◌∷◌, [], ap, length, sym, List, ℕ}
use Rattle.rs_catalog.proofs.SnapshotFacts.{sizes-more}
use Rattle.rs_catalog.proofs.catalog.Catalog.sizes.Goals as goal

pub loop-number-preserved : goal.loop-number-preserved
loop-number-preserved c =
    c.in_ok-push.ensures.items
    ∙ ap (λ (n : ℕ). c.loop-number.sizes.items ++ n ∷ []) c.len.ensures.value
    ∙ ap (λ (sizes : List ℕ). sizes ++ length c.table.result.now.rows ∷ []) c.loop-number.invariant
    ∙ sym (sizes-more c.args.self.now.tables c.loop-number.number c.table.result.now c.table.ensures)
