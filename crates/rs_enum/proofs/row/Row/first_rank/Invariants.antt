use Rattle.std.proofs.Common.{ℕ, ◌+◌}
use Rattle.std.specs.Prelude.{Option}
use Rattle.rs_enum.specs.Given.{AreTopsIn, IsTheFirstIn}
use Rattle.rs_enum.specs.Places.{Placed}
use Rattle.rs_enum.proofs.row.Row.first_rank.Given as goal

-- what is first of all that were tried
abbrev pub invariant-loop-place : goal.invariant-loop-place
invariant-loop-place l = (base : Option Placed) (tops : ℕ → Option Placed) → AreTopsIn l.self l.evaluated tops → IsTheFirstIn l.self base tops l.evaluated (l.place + 1) l.best
