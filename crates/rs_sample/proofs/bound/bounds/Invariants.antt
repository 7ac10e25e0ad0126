use Rattle.std.proofs.Common.{ℕ, ◌≡◌, ◌-◌, ◌*◌, ◌^◌, ◌<◌, ◌≤◌, get_or}
use Rattle.rs_sample.proofs.BoundFacts.{bound_from}
use Rattle.rs_sample.proofs.bound.bounds.Given as goal

-- the bounds by the last terms
abbrev pub invariant-loop-behind : goal.invariant-loop-behind
invariant-loop-behind l = record {
  count : l.masks ≡ 2 ^ l.behind;
  each : (terms : ℕ) → terms < l.masks → get_or l.bounds terms 0 ≡ bound_from l.weights l.worths (8 - l.behind) terms;
  few : (terms : ℕ) → terms < l.masks → get_or l.bounds terms 0 ≤ l.behind * 4294967295000000;
}
