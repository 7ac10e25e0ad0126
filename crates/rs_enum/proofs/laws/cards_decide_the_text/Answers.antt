-- Each node is told the same number of rows and the same cost.
use Rattle.rs_enum.proofs.SameCards.{same-text}
use Rattle.rs_enum.proofs.laws.cards_decide_the_text.Goals as goal

pub returns : goal.returns
returns c = λ catalogue query cards other tree counts formed are same is. same-text catalogue query formed cards other are same tree is counts
