use Rattle.rs_cert.proofs.RefusalFacts.{left-deserved, pairs-deserved, right-deserved, right-unreached, short-deserved}
use Rattle.rs_cert.proofs.SoundFacts.{tied-sound}
use Rattle.rs_cert.proofs.laws.refusals_are_deserved.Goals as goal

pub returns-clause-pairs : goal.returns-clause-pairs
returns-clause-pairs c = λ cert refused. pairs-deserved cert refused

pub returns-clause-short : goal.returns-clause-short
returns-clause-short c = λ cert refused. short-deserved cert refused

pub returns-clause-left : goal.returns-clause-left
returns-clause-left c = λ cert refused below. left-deserved cert refused below

pub returns-clause-right : goal.returns-clause-right
returns-clause-right c = λ cert refused. right-deserved cert refused

pub returns-clause-tied : goal.returns-clause-tied
returns-clause-tied c = λ cert refused least right. tied-sound cert refused.1 refused.2 least right

pub returns-clause-tied_unreached : goal.returns-clause-tied_unreached
returns-clause-tied_unreached c = λ cert refused unreached. right-unreached cert refused.0 refused.1 unreached
