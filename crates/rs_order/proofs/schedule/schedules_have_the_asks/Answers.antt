-- The other side's turns don't count, and a side's own ones come in their order.
use Rattle.rs_order.proofs.ScheduleFacts.{left_scheduled, right_scheduled}
use Rattle.rs_order.proofs.schedule.schedules_have_the_asks.Goals as goal

pub returns-clause-left : goal.returns-clause-left
returns-clause-left g c = λ lefts rights bar climbs. left_scheduled g.K.Ord.cmp g.met.K.Ord.total lefts rights bar climbs

pub returns-clause-right : goal.returns-clause-right
returns-clause-right g c = λ lefts rights bar climbs. right_scheduled g.K.Ord.cmp g.met.K.Ord.total lefts rights bar climbs
