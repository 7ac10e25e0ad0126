-- The cards of the block are those at its number.
use Rattle.std.proofs.Common.{subst}
use Rattle.rs_sample.specs.Cards.{BlockCards, IsEstimated}
use Rattle.rs_sample.specs.Kept.{cards_of}
use Rattle.rs_enum.specs.QueryCards.{cards_at}
use Rattle.rs_enum.proofs.CostFacts.{at-block, block-at}
use Rattle.rs_enum.proofs.costs.rows_of.Goals as goal

pub est-requires-clause-masks : goal.est-requires-clause-masks
est-requires-clause-masks c = λ own there.
    subst (λ (k : BlockCards). IsEstimated k c.args.of.entries c.args.of.terms) (at-block (cards_of c.args.cards.now) c.args.number own there) c.requires.masks

pub returns-clause-value : goal.returns-clause-value
returns-clause-value c =
    c.est.ensures.value (cards_at (cards_of c.args.cards.now) c.args.number) (block-at (cards_of c.args.cards.now) c.args.number c.requires.number)
