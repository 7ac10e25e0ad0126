use Rattle.std.proofs.Common.{◌≡◌, map, take}
use Rattle.rs_bind.specs.Queries.{name_of}
use Rattle.rs_bind.proofs.unranked.names_of.Given as goal

abbrev pub invariant-loop-item : goal.invariant-loop-item
invariant-loop-item l = l.names.items ≡ map (λ item. name_of l.catalog l.block item.0) (take l.item-index l.block.items)
