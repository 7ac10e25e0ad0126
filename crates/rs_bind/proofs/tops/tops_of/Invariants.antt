-- The tops so far are those of the first terms.
use Rattle.std.proofs.Common.{◌≡◌, take}
use Rattle.rs_query.specs.Answers.{padded}
use Rattle.rs_query.specs.Tops.{tops_of}
use Rattle.rs_bind.proofs.tops.tops_of.Given as goal

abbrev pub invariant-loop-place : goal.invariant-loop-place
invariant-loop-place l = l.tops ≡ padded 8 (take l.place (tops_of l.catalog l.block))
