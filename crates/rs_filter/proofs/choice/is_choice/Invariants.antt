-- The entries so far have such numbers, so the others decide.
use Rattle.std.proofs.Common.{◌≡◌, ◌/◌, ◌^◌, drop}
use Rattle.rs_filter.specs.Matching.{is_choice}
use Rattle.rs_filter.proofs.choice.is_choice.Given as goal

abbrev pub invariant-loop-place : goal.invariant-loop-place
invariant-loop-place l = is_choice (l.mask / 2 ^ l.place) (drop l.place l.sizes) (drop l.place l.rows) ≡ is_choice l.mask l.sizes l.rows
