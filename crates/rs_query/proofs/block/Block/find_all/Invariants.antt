-- The combinations whose first new row is that of an entry so far were found.
use Rattle.rs_query.specs.Searching.{Adds, IsNewBefore}
use Rattle.rs_query.proofs.block.Block.find_all.Given as goal

abbrev pub invariant-loop-place : goal.invariant-loop-place
invariant-loop-place l = Adds (IsNewBefore l.catalog l.self l.old l.place) l.initial.found.items l.found.items
