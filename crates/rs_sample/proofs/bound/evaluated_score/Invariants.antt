use Rattle.std.proofs.Common.{◌≡◌, ◌≤◌, ◌+◌, ◌*◌, ◌/◌, ◌^◌, drop}
use Rattle.rs_rank.specs.Weights.{sum_inside}
use Rattle.rs_sample.proofs.bound.evaluated_score.Given as goal

-- what the terms so far and those to come give is the whole
abbrev pub invariant-loop-place : goal.invariant-loop-place
invariant-loop-place l = record {
  sum : l.sum + sum_inside (l.terms / 2 ^ l.place) (drop l.place l.weights.weight) (drop l.place l.worths) ≡ sum_inside l.terms l.weights.weight l.worths;
  bound : l.sum ≤ l.place * 4294967295000000;
}
