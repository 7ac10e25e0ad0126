use Rattle.std.proofs.Common.{ℕ, ◌≡◌, ◌≤◌}
use Rattle.rs_rank.specs.Masks.{mask_of}
use Rattle.rs_enum.proofs.find.number_of.Given as goal

-- no number so far has the mask
abbrev pub invariant-loop-place : goal.invariant-loop-place
invariant-loop-place l = (number : ℕ) → 1 ≤ number → number ≤ l.place → mask_of number ≡ l.mask → ⊥
