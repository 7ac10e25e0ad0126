use Rattle.rs_words.proofs.GivenFacts.{given-more, given-same}
use Rattle.rs_words.proofs.laws.next_pairs_are_given.Goals as goal

pub returns-clause-given : goal.returns-clause-given
returns-clause-given c = λ old new pair pairs gave given. given-more old new pair pairs gave given

pub returns-clause-none : goal.returns-clause-none
returns-clause-none c = λ old new pairs gave given. given-same old new pairs gave given
