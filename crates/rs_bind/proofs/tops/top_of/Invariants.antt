-- The top is that over the entries from the place on.
use Rattle.std.proofs.Common.{◌≡◌, ◌+◌, drop}
use Rattle.rs_query.specs.Tops.{top_from, top_of}
use Rattle.rs_bind.proofs.tops.top_of.Given as goal

abbrev pub invariant-loop-place : goal.invariant-loop-place
invariant-loop-place l = top_from l.catalog l.term (l.place + 1) (drop l.place l.block.from) ≡ top_of l.catalog l.block l.term
