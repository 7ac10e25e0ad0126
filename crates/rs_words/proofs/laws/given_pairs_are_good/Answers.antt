use Rattle.rs_words.proofs.GivenGoodFacts.{given-good}
use Rattle.rs_words.proofs.laws.given_pairs_are_good.Goals as goal

pub returns : goal.returns
returns c = λ join k pairs kept given enough. given-good join k pairs kept given enough
