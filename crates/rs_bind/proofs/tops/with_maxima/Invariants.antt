-- The terms in front of the place have their maxima.
use Rattle.std.proofs.Common.{◌≡◌, take}
use Rattle.rs_query.specs.Tops.{with_maxima}
use Rattle.rs_bind.proofs.tops.with_maxima.Given as goal

abbrev pub invariant-loop-place : goal.invariant-loop-place
invariant-loop-place l = l.bounded.items ≡ with_maxima (take l.place l.maxima) l.fn.terms
