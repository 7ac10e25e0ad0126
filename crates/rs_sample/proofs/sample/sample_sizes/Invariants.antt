use Rattle.std.proofs.Common.{ℕ, ◌≡◌, ◌<◌, [], get_or, length}
use Rattle.rs_sample.proofs.sample.sample_sizes.Given as goal

abbrev pub invariant-loop-place : goal.invariant-loop-place
invariant-loop-place l = record { count : length l.sizes ≡ 6; are : (k : ℕ) → k < l.place → get_or l.sizes k 0 ≡ length (get_or l.samples k []) }
