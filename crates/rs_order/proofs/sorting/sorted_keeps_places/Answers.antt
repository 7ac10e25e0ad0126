-- Each item is put behind all of its key, whose places come before its own.
use Rattle.rs_order.proofs.SortingFacts.{sorted-places}
use Rattle.rs_order.proofs.sorting.sorted_keeps_places.Goals as goal

pub returns : goal.returns
returns g c = λ key place xs climbs. sorted-places g.K.Ord.cmp key g.L.Ord.cmp g.met.L.Ord.total place xs climbs
