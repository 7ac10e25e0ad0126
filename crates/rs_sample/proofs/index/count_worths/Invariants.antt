use Rattle.std.proofs.Common.{◌≡◌, ◌+◌, ◌*◌, length, nat_le, take}
use Rattle.std.specs.List.{filter}
use Rattle.rs_sample.proofs.index.count_worths.Given as goal

-- this many of the worths so far reach the cutoff
abbrev pub invariant-loop-worth : goal.invariant-loop-worth
invariant-loop-worth l = l.count ≡ length (filter (λ worth. nat_le l.cutoff (l.weight * worth + l.rest)) (take l.worth-index l.worths))
