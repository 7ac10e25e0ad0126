-- What a rank join that keeps its rows keeps after a number of asks of each side and of answers.
use Rattle.std.specs.Prelude.{ℕ, List, take}
use Rattle.rs_rank.specs.declared.row.RankRow.{RankRow}
use Rattle.rs_ripple.specs.Joined.{Joined}
use Rattle.rs_ripple.specs.Stands.{Join, state_after}

-- the core, and the rows that came of each side
abbrev pub joined_after : Join → List RankRow → List RankRow → ℕ → ℕ → ℕ → Joined
joined_after j lefts rights left_asks right_asks count =
    record { ripple = state_after j lefts rights left_asks right_asks count; lefts = take left_asks lefts; rights = take right_asks rights }
