use Rattle.std.proofs.Common.{ℕ, ◌≡◌, ◌<◌, [], get_or, length}
use Rattle.rs_sample.specs.Finding.{place_in}
use Rattle.rs_sample.proofs.lookup.places_of.Given as goal

-- the rows of the first entries have their places
abbrev pub invariant-loop-place : goal.invariant-loop-place
invariant-loop-place l = record {
  count : length l.places ≡ 6;
  are : (k : ℕ) → k < l.place → get_or l.places k 0 ≡ place_in (get_or l.rows k 0) (get_or l.samples k []);
}
