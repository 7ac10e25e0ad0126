-- The rows behind some have their ends, and these still their next rows.
use Rattle.std.proofs.Common.{◌≤◌, length}
use Rattle.rs_query.proofs.EndFacts.{IsEnded}
use Rattle.rs_query.proofs.equal_rows.next_ends.Given as goal

abbrev pub invariant-loop-place : goal.invariant-loop-place
invariant-loop-place l = record { most : l.place ≤ length l.fn.next.items; ended : IsEnded l.fn.next.items l.next.items l.place }

abbrev pub decreases-loop-place : goal.decreases-loop-place
decreases-loop-place l = l.place
