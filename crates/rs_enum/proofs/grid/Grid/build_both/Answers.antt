-- Both blocks have as many terms.
use Rattle.std.proofs.Common.{◌∙◌, ◌^◌, ◌<◌, length, sym, ap, subst}
use Rattle.rs_query.specs.declared.block.Block.{Block}
use Rattle.rs_sample.specs.Kept.{cards_of}
use Rattle.rs_enum.proofs.WholeFacts.{right-terms-below}
use Rattle.rs_enum.proofs.grid.Grid.build_both.Goals as goal

pub build_complete-requires-2-clause-evaluated : goal.build_complete-requires-2-clause-evaluated
build_complete-requires-2-clause-evaluated c =
    subst (λ n. c.args.evaluated < 2 ^ n)
    (right-terms-below c.args.planning.now.catalog.now c.args.planning.now.query.now (cards_of c.args.planning.now.cards.now) c.requires.planning.query c.requires.both
    ∙ ap (λ (b : Block). length b.terms) (sym c.block_in-2.ensures)) c.requires.evaluated
