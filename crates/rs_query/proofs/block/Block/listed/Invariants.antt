-- The rows are equal in the two columns and in those of the others so far.
use Rattle.std.proofs.Common.{◌∷◌, take}
use Rattle.rs_query.specs.Searching.{AreEqualRows}
use Rattle.rs_query.proofs.block.Block.listed.Given as goal

abbrev pub invariant-loop-columns : goal.invariant-loop-columns
invariant-loop-columns l = AreEqualRows l.catalog l.self l.fn.left.0 l.fn.right.0 ((l.fn.left, l.fn.right) ∷ take l.columns-index l.columns-items) l.rows
