-- The asks are those of the join's core.
use Rattle.rs_plan.specs.Trees.{Hash, Nested}
use Rattle.rs_exec.proofs.JoinStepFacts.{join-left_asks, join-right_asks, join-schedule, kind-asks}
use Rattle.rs_exec.proofs.join_laws.joins_ask_their_sides.Goals as goal

pub returns-clause-order : goal.returns-clause-order
returns-clause-order c = λ w number kind left right n formed bounded weights view part.
    join-schedule w number kind left right (record { formed = formed; bounded = bounded; weights = weights; view = view; left_part = part.0; right_part = part.1; joined = part.2 }) n

pub returns-clause-left : goal.returns-clause-left
returns-clause-left c = λ w number kind left right n formed bounded weights view part.
    join-left_asks w number kind left right (record { formed = formed; bounded = bounded; weights = weights; view = view; left_part = part.0; right_part = part.1; joined = part.2 }) n

pub returns-clause-right : goal.returns-clause-right
returns-clause-right c = λ w number kind left right n formed bounded weights view part.
    join-right_asks w number kind left right (record { formed = formed; bounded = bounded; weights = weights; view = view; left_part = part.0; right_part = part.1; joined = part.2 }) n

pub returns-clause-hashed : goal.returns-clause-hashed
returns-clause-hashed c = λ w number left right n. kind-asks w number Hash Nested left right n
