-- The tops so far are those of the first terms.
use Rattle.std.proofs.Common.{◌≡◌, take}
use Rattle.rs_query.specs.Answers.{padded}
use Rattle.rs_query.specs.Tops.{set_tops}
use Rattle.rs_bind.proofs.tops.set_tops.Given as goal

abbrev pub invariant-loop-place : goal.invariant-loop-place
invariant-loop-place l = l.tops ≡ padded 8 (take l.place (set_tops l.catalog l.left l.right))
