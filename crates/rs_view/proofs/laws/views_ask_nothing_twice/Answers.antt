use Rattle.rs_view.proofs.LifeFacts.{combinations-parts, life-calls}
use Rattle.rs_view.proofs.laws.views_ask_nothing_twice.Goals as goal

pub returns-clause-combinations : goal.returns-clause-combinations
returns-clause-combinations c = λ old new block grows is. combinations-parts old new block grows is

pub returns-clause-calls : goal.returns-clause-calls
returns-clause-calls c = λ answer query first later rows formed keepable turns ends. life-calls answer query first later rows formed keepable turns ends
