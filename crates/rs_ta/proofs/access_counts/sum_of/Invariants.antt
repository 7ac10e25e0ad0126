-- The sum so far, within its limit.
use Rattle.std.proofs.Common.{◌≡◌, ◌-◌, ◌^◌, sum, take}
use Rattle.std.specs.Prelude.{min}
use Rattle.rs_ta.proofs.access_counts.sum_of.Given as goal

abbrev pub invariant-loop-count : goal.invariant-loop-count
invariant-loop-count l = l.sum ≡ min (sum (take l.count-index l.count-items)) (2 ^ 64 - 1)
