-- Both have rising keys and the same items.
use Rattle.rs_order.proofs.ItemFacts.{sorted-filter}
use Rattle.rs_order.proofs.sorting.sorting_commutes_with_filtering.Goals as goal

pub returns : goal.returns
returns g c = λ key passes xs distinct. sorted-filter g.K.Ord.cmp key g.met.K.Ord.total passes xs distinct
