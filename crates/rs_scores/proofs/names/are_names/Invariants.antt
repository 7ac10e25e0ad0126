use Rattle.std.proofs.Common.{◌≡◌, drop}
use Rattle.rs_scores.specs.Names.{are_names}
use Rattle.rs_scores.proofs.names.are_names.Given as goal

abbrev pub invariant-loop-place : goal.invariant-loop-place
invariant-loop-place l = are_names (drop l.place l.names) ≡ are_names l.names
