use Rattle.rs_exec.proofs.SetAskFacts.{left-asks, right-asks}
use Rattle.rs_exec.proofs.SetStepFacts.{set-facts}
use Rattle.rs_exec.proofs.set_laws.set_operators_ask_their_sides.Goals as goal

pub returns-clause-order : goal.returns-clause-order
returns-clause-order c = λ w left right n formed bounded weights part.
    (set-facts w.catalogue w.answer w.view w.query 1 left right formed bounded weights part).asks n

pub returns-clause-left : goal.returns-clause-left
returns-clause-left c = λ w left right n part. left-asks w.catalogue w.answer w.view left right n w.query part

pub returns-clause-right : goal.returns-clause-right
returns-clause-right c = λ w left right n part. right-asks w.catalogue w.answer w.view left right n w.query part
