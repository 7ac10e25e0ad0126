use Rattle.rs_sample.proofs.ReachFacts.{CountedTo}
use Rattle.rs_sample.proofs.bound.count_reached.Given as goal

-- the masks so far were counted, and the others weren't
abbrev pub invariant-loop-terms : goal.invariant-loop-terms
invariant-loop-terms l = CountedTo l.weights l.worths l.cutoff l.fn.counts.items l.counts.items l.terms
