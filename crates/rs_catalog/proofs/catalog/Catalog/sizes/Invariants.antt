use Rattle.std.proofs.Common.{◌≡◌, take}
use Rattle.rs_catalog.specs.Snapshot.{sizes_in}
use Rattle.rs_catalog.proofs.catalog.Catalog.sizes.Given as goal

abbrev pub invariant-loop-number : goal.invariant-loop-number
invariant-loop-number l = l.sizes.items ≡ take l.number (sizes_in l.self)
