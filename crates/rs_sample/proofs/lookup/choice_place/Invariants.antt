use Rattle.std.proofs.Common.{◌≡◌, ◌-◌, ◌*◌, ◌/◌, ◌^◌, ◌≤◌, drop}
use Rattle.rs_sample.specs.Finding.{choice_place}
use Rattle.rs_sample.specs.Quotients.{product_inside}
use Rattle.rs_sample.proofs.lookup.choice_place.Given as goal

-- the place among the choices for the last entries, and how many these are
abbrev pub invariant-loop-behind : goal.invariant-loop-behind
invariant-loop-behind l = record {
  place : l.at ≡ choice_place (l.mask / 2 ^ (6 - l.behind)) (drop (6 - l.behind) l.sampled) (drop (6 - l.behind) l.places);
  count : l.choices ≡ product_inside (l.mask / 2 ^ (6 - l.behind)) (drop (6 - l.behind) l.sampled);
  few : l.choices ≤ 256 ^ l.behind;
  small : l.at ≤ l.behind * 281474976710656;
}
