use Rattle.std.proofs.Common.{◌≤◌}
use Rattle.std.specs.Prelude.{vec_capacity}
use Rattle.rs_enum.proofs.FoundFacts.{IsRowFilled}
use Rattle.rs_enum.proofs.fill.fill_distinct.Given as goal

-- as many places of the row are filled as were counted, and there is room for all
abbrev pub invariant-loop-place : goal.invariant-loop-place
invariant-loop-place l = IsRowFilled l.planning l.number l.places.items l.place × (16640 ≤ vec_capacity l.places)
