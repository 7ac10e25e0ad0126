-- They have as many entries, and their terms read the same ones.
use Rattle.rs_enum.proofs.SameCards.{sampled-are}
use Rattle.rs_enum.proofs.laws.sampled_cards_are_those_of_the_query.Goals as goal

pub returns : goal.returns
returns c = sampled-are
