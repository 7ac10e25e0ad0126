use Rattle.rs_view.proofs.StandFacts.{Stands-grown}
use Rattle.rs_view.proofs.laws.views_go_on_to_stand.Goals as goal

pub returns : goal.returns
returns c = λ answer old new view grows stands. Stands-grown answer old new view grows stands
