-- What it asks tells.
use Rattle.std.proofs.Common.{suc, length, ap, refl}
use Rattle.rs_rank.proofs.TurnFacts.{next-ask}
use Rattle.rs_setop.specs.Heads.{ask_of}
use Rattle.rs_setop.specs.Sides.{answers, schedule_of}
use Rattle.rs_setop.specs.Stands.{union_op}
use Rattle.rs_setop.specs.Union.{Union}
use Rattle.rs_setop.proofs.UnionFacts.{tells}
use Rattle.rs_setop.proofs.union_laws.asks_of_union_are_exact.Goals as goal

pub returns-clause-next : goal.returns-clause-next
returns-clause-next c = λ s distinct lefts rights made count u st.
    next-ask (schedule_of s (union_op distinct) lefts rights (suc count)) made count (length (answers s (union_op distinct) lefts rights)) (ask_of u.heads) (tells s distinct lefts rights made count u st (ask_of u.heads) refl)

pub returns-clause-alive : goal.returns-clause-alive
returns-clause-alive c = λ s distinct lefts rights made count u st. ap (λ (v : Union). v.spent) st.place.state
