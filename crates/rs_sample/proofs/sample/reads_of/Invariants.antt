use Rattle.std.proofs.Common.{◌≡◌, map, take}
use Rattle.rs_query.specs.declared.term.Term.{Term}
use Rattle.rs_sample.proofs.sample.reads_of.Given as goal

abbrev pub invariant-loop-term : goal.invariant-loop-term
invariant-loop-term l = l.reads.items ≡ map (λ (t : Term). t.entries) (take l.term-index l.block.terms)
