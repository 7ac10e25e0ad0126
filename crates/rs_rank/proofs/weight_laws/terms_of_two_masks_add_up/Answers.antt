-- Each term is in one mask, in the other, or in none.
use Rattle.rs_rank.proofs.WeightFacts.{sum_inside-union}
use Rattle.rs_rank.proofs.weight_laws.terms_of_two_masks_add_up.Goals as goal

pub returns-clause-evaluated : goal.returns-clause-evaluated
returns-clause-evaluated c = λ weights left right worths apart. sum_inside-union left right weights.weight worths apart

pub returns-clause-most : goal.returns-clause-most
returns-clause-most c = λ weights left right apart. sum_inside-union left right weights.weight weights.max apart
