-- Putting items in one after another only moves them.
use Rattle.rs_order.proofs.SortingFacts.{IsPermutation-sorted}
use Rattle.rs_order.proofs.sorting.sorted_is_permutation.Goals as goal

pub returns : goal.returns
returns g c = λ key xs. IsPermutation-sorted g.K.Ord.cmp key xs
