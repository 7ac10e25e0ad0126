use Rattle.rs_words.proofs.GoodFacts.{good-yes, put-good}
use Rattle.rs_words.proofs.laws.certificates_are_checked_as_good.Goals as goal

pub returns-clause-good : goal.returns-clause-good
returns-clause-good c = λ told words run bytes wanted is put. put-good told words bytes wanted run is put

pub returns-clause-yes : goal.returns-clause-yes
returns-clause-yes c = λ told file bytes wanted run good there within is. good-yes told file bytes wanted run good there within is
