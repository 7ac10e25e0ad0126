-- The pair taken last came at or before both thresholds.
use Rattle.std.proofs.Common.{◌∙◌, ap, subst}
use Rattle.rs_ripple.specs.Ripple.{HasReached}
use Rattle.rs_hrjn.specs.Hashed.{Hashed}
use Rattle.rs_hrjn.proofs.hashed.Hrjn.ask.Goals as goal

pub returns-clause-reached : goal.returns-clause-reached
returns-clause-reached c =
    subst (λ (hashed : Hashed). HasReached hashed.ripple) c.self.view_is
    (c.self.invariant (ap (λ (hashed : Hashed). hashed.ripple.spent) c.self.view_is ∙ c.requires)).reached
