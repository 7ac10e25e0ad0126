-- Scores: whole numbers from 0 to a greatest one.
use Rattle.std.specs.Prelude.{ℕ, ℤ, pos, negsuc, nat_le, Bool, false, Option, Some, None, if◌then◌else◌}

-- whether a number lies from 0 to max
abbrev pub is_score : ℕ → ℤ → Bool
is_score max (pos n) = nat_le n max
is_score max (negsuc n) = false

-- a number as a score, which is never below 0
abbrev pub as_score : ℤ → ℕ
as_score (pos n) = n
as_score (negsuc n) = 0

-- the number as a score, where it is one
abbrev pub score_within : ℕ → ℤ → Option ℕ
score_within max got = if is_score max got then Some (as_score got) else None
