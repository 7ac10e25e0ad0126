-- The pair taken last came at or before both thresholds.
use Rattle.std.proofs.Common.{◌∙◌, ap, subst}
use Rattle.rs_ripple.specs.Joined.{Joined}
use Rattle.rs_ripple.specs.Ripple.{HasReached}
use Rattle.rs_nrjn.proofs.nested.Nrjn.ask.Goals as goal

pub returns-clause-reached : goal.returns-clause-reached
returns-clause-reached c =
    subst (λ (joined : Joined). HasReached joined.ripple) c.self.view_is
    (c.self.invariant (ap (λ (joined : Joined). joined.ripple.spent) c.self.view_is ∙ c.requires)).reached
