-- The first rows so far have become their ends.
use Rattle.rs_query.proofs.EndFacts.{AreEnded}
use Rattle.rs_query.proofs.equal_rows.first_ends.Given as goal

abbrev pub invariant-loop-place : goal.invariant-loop-place
invariant-loop-place l = AreEnded l.fn.first.items l.ends l.first.items l.place
