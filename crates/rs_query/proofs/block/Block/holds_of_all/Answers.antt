-- The conditions within no entry are those without columns.
use Rattle.std.proofs.Common.{◌∙◌, ap, replicate}
use Rattle.rs_query.specs.Meaning.{all_hold}
use Rattle.rs_query.proofs.WithinFacts.{all_hold-within}
use Rattle.rs_query.proofs.block.Block.holds_of_all.Goals as goal

pub returns : goal.returns
returns c =
    let catalogue = c.args.catalog.now in
    let block = c.args.self.now in
    c.holds.ensures
    ∙ ap (λ conjuncts. all_hold catalogue block conjuncts (replicate 6 0) block.conjuncts) c.within.ensures.value
    ∙ all_hold-within catalogue block 0 (replicate 6 0)
