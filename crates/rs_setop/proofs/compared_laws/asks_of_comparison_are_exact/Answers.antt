-- What it asks tells.
use Rattle.std.proofs.Common.{suc, length, ap, refl}
use Rattle.rs_rank.proofs.TurnFacts.{next-ask}
use Rattle.rs_setop.specs.Compared.{Comparison, ask_of}
use Rattle.rs_setop.specs.Sides.{answers, schedule_of}
use Rattle.rs_setop.specs.Stands.{op_of}
use Rattle.rs_setop.proofs.ComparedStandFacts.{tells}
use Rattle.rs_setop.proofs.compared_laws.asks_of_comparison_are_exact.Goals as goal

pub returns-clause-next : goal.returns-clause-next
returns-clause-next c = λ s shared lefts rights made count d st.
    next-ask (schedule_of s (op_of shared) lefts rights (suc count)) made count (length (answers s (op_of shared) lefts rights)) (ask_of d) (tells s shared lefts rights made count d st (ask_of d) refl)

pub returns-clause-alive : goal.returns-clause-alive
returns-clause-alive c = λ s shared lefts rights made count d st. ap (λ (v : Comparison). v.spent) st.place.state
