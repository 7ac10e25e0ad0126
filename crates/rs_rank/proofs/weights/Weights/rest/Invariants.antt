-- What the terms so far and those to come give, outside the mask, is the whole.
use Rattle.std.proofs.Common.{◌≡◌, ◌+◌, ◌/◌, ◌^◌, drop}
use Rattle.rs_rank.specs.Weights.{rest, sum_outside}
use Rattle.rs_rank.proofs.weights.Weights.rest.Given as goal

abbrev pub invariant-loop-place : goal.invariant-loop-place
invariant-loop-place l =
    l.sum + sum_outside (l.terms / 2 ^ l.place) (drop l.place l.self.weight) (drop l.place l.self.max) ≡ rest l.self l.terms
