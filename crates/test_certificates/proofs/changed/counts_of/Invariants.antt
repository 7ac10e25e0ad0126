use Rattle.std.proofs.Common.{◌≡◌, ◌<◌, length, vec_len}
use Rattle.test_certificates.proofs.changed.counts_of.Given as goal

abbrev pub invariant-loop-place : goal.invariant-loop-place
invariant-loop-place l = vec_len l.changed ≡ length l.bytes

abbrev pub invariant-loop-other : goal.invariant-loop-other
invariant-loop-other l = (vec_len l.changed ≡ length l.bytes) × (l.place < length l.bytes)
