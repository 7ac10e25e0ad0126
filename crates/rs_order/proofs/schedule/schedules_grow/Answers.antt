-- The merge of the turns never falls, so those before a bar are its first ones.
use Rattle.rs_order.proofs.AscendingFacts.{schedule-begin}
use Rattle.rs_order.proofs.schedule.schedules_grow.Goals as goal

pub returns : goal.returns
returns g c = λ lefts rights bar further a b le. schedule-begin g.K.Ord.cmp g.met.K.Ord.total lefts rights bar further a b le
