-- The rows and the lists stand where the next answer may take one more round; the places that are left fall.
use Rattle.std.proofs.Common.{◌-◌}
use Rattle.rs_ta.specs.Lists.{rows_in}
use Rattle.rs_ta.specs.Rounds.{input_with}
use Rattle.rs_ta.proofs.AdvanceFacts.{Rounding}
use Rattle.rs_ta.proofs.round.advance.Given as goal

abbrev pub invariant-loop-rows : goal.invariant-loop-rows
invariant-loop-rows g l =
    Rounding (input_with l.terms (g.L.Lists.state l.fn.lists) (g.T.RowTest.truth l.test)) l.fn.rows l.rows l.last (g.L.Lists.state l.lists)

abbrev pub decreases-loop-rows : goal.decreases-loop-rows
decreases-loop-rows g l = rows_in (g.L.Lists.state l.lists).lists - l.rows.rounds
