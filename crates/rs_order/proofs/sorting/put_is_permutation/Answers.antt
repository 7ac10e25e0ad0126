-- Putting an item in only moves it.
use Rattle.rs_order.proofs.SortingFacts.{IsPermutation-put}
use Rattle.rs_order.proofs.sorting.put_is_permutation.Goals as goal

pub returns : goal.returns
returns g c = λ key x xs. IsPermutation-put g.K.Ord.cmp key x xs
