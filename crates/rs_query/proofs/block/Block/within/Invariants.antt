-- The mask so far, with the mask of the conjuncts to come above it, is the whole.
use Rattle.std.proofs.Common.{◌≡◌, ◌+◌, ◌*◌, ◌^◌, drop}
use Rattle.rs_query.specs.Meaning.{conjuncts_within}
use Rattle.rs_query.proofs.block.Block.within.Given as goal

abbrev pub invariant-loop-place : goal.invariant-loop-place
invariant-loop-place l = l.mask + conjuncts_within l.entries (drop l.place l.self.conjuncts) * 2 ^ l.place ≡ conjuncts_within l.entries l.self.conjuncts
