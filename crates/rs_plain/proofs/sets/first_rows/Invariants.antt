use Rattle.rs_plain.proofs.FirstFacts.{AreKept}
use Rattle.rs_plain.proofs.sets.first_rows.Given as goal

-- of the rows so far the first ones are kept
abbrev pub invariant-loop-row : goal.invariant-loop-row
invariant-loop-row l = AreKept l.yielded l.kept.items l.seen.lists
