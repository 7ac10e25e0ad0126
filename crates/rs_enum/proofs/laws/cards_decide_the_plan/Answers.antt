-- Plans cost the same, so the same one is least.
use Rattle.rs_enum.proofs.SameCards.{same-least}
use Rattle.rs_enum.proofs.laws.cards_decide_the_plan.Goals as goal

pub returns : goal.returns
returns c = λ catalogue query cards other formed are same. same-least catalogue query formed cards other are same
