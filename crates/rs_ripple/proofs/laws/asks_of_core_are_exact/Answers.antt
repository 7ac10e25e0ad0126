-- What the next ask tells decides which one it is.
use Rattle.std.proofs.Common.{suc, length}
use Rattle.rs_rank.proofs.TurnFacts.{next-ask}
use Rattle.rs_ripple.specs.Ripple.{ask_of}
use Rattle.rs_ripple.specs.Stands.{answers, schedule_of}
use Rattle.rs_ripple.proofs.StandFacts.{stands-tells}
use Rattle.rs_ripple.proofs.laws.asks_of_core_are_exact.Goals as goal

pub returns : goal.returns
returns c = λ j lefts rights made count ripple s.
    next-ask (schedule_of j lefts rights (suc count)) made count (length (answers j lefts rights)) (ask_of ripple) (stands-tells j lefts rights made count ripple s)
