-- The lists so far are looked up, and their products summed.
use Rattle.rs_ta.proofs.LookupFacts.{Looking}
use Rattle.rs_ta.proofs.lookup.sum_of.Given as goal

abbrev pub invariant-loop-place : goal.invariant-loop-place
invariant-loop-place g l = Looking l.weights.weight l.shown l.row (g.L.Lists.state l.fn.lists) (g.L.Lists.state l.lists) l.place l.sum
