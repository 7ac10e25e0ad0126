use Rattle.std.proofs.Common.{◌≡◌, ◌≤◌, length}
use Rattle.std.specs.Prelude.{vec_capacity}
use Rattle.rs_enum.specs.Given.{AreSetFound}
use Rattle.rs_enum.proofs.fill.fill_set.Given as goal

-- as many masks are tried as were counted, and there is room for all
abbrev pub invariant-loop-place : goal.invariant-loop-place
invariant-loop-place l = AreSetFound l.planning l.left l.right l.both.items l.place × (length l.both.items ≡ l.place) × (256 ≤ vec_capacity l.both)
