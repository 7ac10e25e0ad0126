use Rattle.std.proofs.Common.{◌≡◌, map, take}
use Rattle.rs_bind.proofs.unranked.columns_of.Given as goal

abbrev pub invariant-loop-item : goal.invariant-loop-item
invariant-loop-item l = l.columns.items ≡ map (λ item. item.0) (take l.item-index l.items)
