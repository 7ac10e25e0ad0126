-- Nothing is asked yet.
use Rattle.rs_setop.proofs.ComparedFacts.{new-stands}
use Rattle.rs_setop.proofs.compared_laws.new_comparison_stands.Goals as goal

pub returns : goal.returns
returns c = λ s shared lefts rights input. new-stands s shared lefts rights input
