use Rattle.std.proofs.Common.{◌≡◌, drop}
use Rattle.rs_scores.specs.Names.{has_marked}
use Rattle.rs_scores.proofs.names.has_marked.Given as goal

abbrev pub invariant-loop-place : goal.invariant-loop-place
invariant-loop-place l = has_marked (drop l.place l.names) ≡ has_marked l.names
