use Rattle.std.proofs.Common.{◌≡◌, ℕ, ◌<◌, get_or, length}
use Rattle.rs_enum.specs.Within.{terms_within}
use Rattle.rs_enum.proofs.find.masks_inside.Given as goal

-- the masks so far
abbrev pub invariant-loop-entries : goal.invariant-loop-entries
invariant-loop-entries l = (length l.masks ≡ 64) × ((entries : ℕ) → entries < l.entries → get_or l.masks entries 0 ≡ terms_within entries l.block.terms)
