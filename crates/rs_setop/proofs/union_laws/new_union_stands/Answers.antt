-- Nothing is asked yet.
use Rattle.rs_setop.proofs.UnionFacts.{new-stands}
use Rattle.rs_setop.proofs.union_laws.new_union_stands.Goals as goal

pub returns : goal.returns
returns c = λ s distinct lefts rights input. new-stands s distinct lefts rights input
