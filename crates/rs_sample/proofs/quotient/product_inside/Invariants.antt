use Rattle.std.proofs.Common.{◌≡◌, ◌≤◌, ◌*◌, ◌/◌, ◌^◌, drop}
use Rattle.rs_sample.specs.Quotients.{product_inside}
use Rattle.rs_sample.proofs.quotient.product_inside.Given as goal

-- the product of the entries so far, times that of those to come, is the whole
abbrev pub invariant-loop-place : goal.invariant-loop-place
invariant-loop-place l = record {
  whole : l.product * product_inside (l.mask / 2 ^ l.place) (drop l.place l.numbers) ≡ product_inside l.mask l.numbers;
  bound : l.product ≤ 131072 ^ l.place;
}
