-- The other side's turns don't count, and a side's own ones come in their order.
use Rattle.rs_rank.proofs.TurnFacts.{left_numbers, right_numbers}
use Rattle.rs_rank.proofs.turn_laws.turns_are_the_asks.Goals as goal

pub returns-clause-left : goal.returns-clause-left
returns-clause-left g c = λ merge lefts rights bar climbs. left_numbers g.K.Ord.cmp g.met.K.Ord.total merge lefts rights bar climbs

pub returns-clause-right : goal.returns-clause-right
returns-clause-right g c = λ merge lefts rights bar climbs. right_numbers g.K.Ord.cmp g.met.K.Ord.total merge lefts rights bar climbs
