-- The test decides which of the two first items is taken.
use Rattle.rs_order.proofs.MergingFacts.{merged-left, merged-none, merged-right}
use Rattle.rs_order.proofs.merging.merges_go_on_with_the_lesser.Goals as goal

pub returns-clause-left : goal.returns-clause-left
returns-clause-left g c = λ key x y xs ys e. merged-left g.K.Ord.cmp key x y xs ys e

pub returns-clause-right : goal.returns-clause-right
returns-clause-right g c = λ key x y xs ys e. merged-right g.K.Ord.cmp key x y xs ys e

pub returns-clause-left_alone : goal.returns-clause-left_alone
returns-clause-left_alone g c = λ key xs. merged-none g.K.Ord.cmp key xs
