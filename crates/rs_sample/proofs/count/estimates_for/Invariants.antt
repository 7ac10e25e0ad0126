use Rattle.std.proofs.Common.{◌≡◌, ◌≤◌, ◌*◌, map, take}
use Rattle.std.specs.Int.{div_ceil}
use Rattle.std.specs.List.{AllByRecursion}
use Rattle.rs_sample.specs.Quotients.{most_expected, product_inside}
use Rattle.rs_sample.proofs.count.estimates_for.Given as goal

-- the first counts were scaled up
abbrev pub invariant-loop-count : goal.invariant-loop-count
invariant-loop-count l = record {
  value : l.numbers.items ≡ map (λ count. div_ceil (count * product_inside l.mask l.sizes) (product_inside l.mask l.sampled)) (take l.count-index l.count-items);
  limit : AllByRecursion (λ number. number ≤ most_expected l.mask) l.numbers.items;
}
