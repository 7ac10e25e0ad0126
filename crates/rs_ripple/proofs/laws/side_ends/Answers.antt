-- All rows of the side are drawn already.
use Rattle.std.proofs.Common.{ap}
use Rattle.rs_ripple.specs.Ripple.{Ripple}
use Rattle.rs_ripple.proofs.LawFacts.{left-ended-stands, right-ended-stands}
use Rattle.rs_ripple.proofs.laws.side_ends.Goals as goal

pub returns-clause-left : goal.returns-clause-left
returns-clause-left c = λ j lefts rights made count ripple s need over. (
  record { alive = ap (λ (r : Ripple). r.spent) s.state; need = need },
  left-ended-stands j lefts rights made count ripple s need over,
)

pub returns-clause-right : goal.returns-clause-right
returns-clause-right c = λ j lefts rights made count ripple s need over. (
  record { alive = ap (λ (r : Ripple). r.spent) s.state; need = need },
  right-ended-stands j lefts rights made count ripple s need over,
)
