use Rattle.std.proofs.Common.{◌≡◌, ◌+◌, drop}
use Rattle.rs_sample.specs.Finding.{place_in}
use Rattle.rs_sample.proofs.lookup.place_of.Given as goal

-- the row isn't among the first ones
abbrev pub invariant-loop-place : goal.invariant-loop-place
invariant-loop-place l = place_in l.row l.sample ≡ l.place + place_in l.row (drop l.place l.sample)
