-- The round stands behind the lists so far.
use Rattle.rs_ta.specs.Rounds.{input_with}
use Rattle.rs_ta.proofs.RoundFacts.{Going}
use Rattle.rs_ta.proofs.round.round.Given as goal

abbrev pub invariant-loop-place : goal.invariant-loop-place
invariant-loop-place g l =
    Going (input_with l.terms (g.L.Lists.state l.fn.lists) (g.T.RowTest.truth l.test)) l.fn.rows l.rows (g.L.Lists.state l.lists) l.place l.bound l.greatest
