-- One term after another is inside or outside.
use Rattle.rs_rank.proofs.WeightFacts.{sum_inside-outside}
use Rattle.rs_rank.proofs.weight_laws.terms_are_inside_or_outside.Goals as goal

pub returns : goal.returns
returns c = λ weights terms. sum_inside-outside terms weights.weight weights.max
