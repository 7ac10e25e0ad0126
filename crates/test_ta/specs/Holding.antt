-- Tests of one row.
use Rattle.std.specs.Prelude.{ℕ, ◌==◌, Bool, true, Option, Some, None}

-- whether a test of one row holds for another one; without a row it holds for all
abbrev pub holds_for : Option ℕ → ℕ → Bool
holds_for None row = true
holds_for (Some one) row = row == one
