-- The cards of the block are those at its number.
use Rattle.std.proofs.Common.{subst}
use Rattle.rs_sample.specs.Cards.{BlockCards, IsIndexed}
use Rattle.rs_sample.specs.Kept.{cards_of}
use Rattle.rs_enum.specs.QueryCards.{cards_at}
use Rattle.rs_enum.proofs.CostFacts.{at-block, block-at}
use Rattle.rs_enum.proofs.costs.index_rows.Goals as goal

pub est_index-requires-clause-numbers : goal.est_index-requires-clause-numbers
est_index-requires-clause-numbers c = λ own there.
    subst (λ (k : BlockCards). IsIndexed k c.args.entry c.args.term) (at-block (cards_of c.args.cards.now) c.args.number own there) c.requires.alone

pub returns-clause-value : goal.returns-clause-value
returns-clause-value c =
    c.est_index.ensures.value (cards_at (cards_of c.args.cards.now) c.args.number) (block-at (cards_of c.args.cards.now) c.args.number c.requires.number)
