use Rattle.rs_words.proofs.GivenGoodFacts.{given-good}
use Rattle.rs_words.proofs.cert_of_join.cert_of.Goals as goal

pub returns-in_err-left-clause-good : goal.returns-in_err-left-clause-good
returns-in_err-left-clause-good c = given-good c.args.join.now c.args.k c.args.pairs.now c.side_of.ensures.kept

pub returns-in_err-right-clause-good : goal.returns-in_err-right-clause-good
returns-in_err-right-clause-good c = given-good c.args.join.now c.args.k c.args.pairs.now c.side_of.ensures.kept

pub returns-in_err-pairs-clause-good : goal.returns-in_err-pairs-clause-good
returns-in_err-pairs-clause-good c = given-good c.args.join.now c.args.k c.args.pairs.now c.side_of.ensures.kept

pub returns-clause-good : goal.returns-clause-good
returns-clause-good c = given-good c.args.join.now c.args.k c.args.pairs.now c.side_of.ensures.kept
