use Rattle.rs_view.proofs.CallFacts.{nothing-asked}
use Rattle.rs_view.proofs.laws.nothing_new_asks_nothing.Goals as goal

pub returns : goal.returns
returns c = λ answer catalogue view same. nothing-asked answer catalogue view same
