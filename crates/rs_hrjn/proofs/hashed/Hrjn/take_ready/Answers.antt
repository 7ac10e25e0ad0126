-- The pair that is taken was at both thresholds, and those behind it are left.
use Rattle.std.proofs.Common.{◌≡◌, false, sym, ◌∙◌, ap, subst}
use Rattle.rs_ripple.specs.Joined.{Fits, IsJoined}
use Rattle.rs_ripple.specs.Ripple.{Ripple}
use Rattle.rs_ripple.proofs.RestFacts.{rest-fits, rest-joined}
use Rattle.rs_hrjn.specs.Hashed.{Hashed, joined_of}
use Rattle.rs_hrjn.proofs.hashed.Hrjn.take_ready.Goals as goal

pub invariant_of-self : goal.invariant_of-self
invariant_of-self c = λ alive.
    let old : Hashed = record { ripple = c.self.inside.core; lefts = c.self.inside.lefts; rights = c.self.inside.rights } in
    let before : c.self.inside.core.spent ≡ false = ap (λ (h : Hashed). h.ripple.spent) c.self.view_is ∙ c.requires.alive in
    subst (λ (r : Ripple). IsJoined (joined_of (record old { ripple = r }))) (sym c.take_ready.ensures.left) (rest-joined (joined_of old) (c.self.invariant before))

pub returns-clause-fits : goal.returns-clause-fits
returns-clause-fits c = λ matches fits.
    let old : Hashed = record { ripple = c.self.inside.core; lefts = c.self.inside.lefts; rights = c.self.inside.rights } in
    let before : c.self.inside.core.spent ≡ false = ap (λ (h : Hashed). h.ripple.spent) c.self.view_is ∙ c.requires.alive in
    subst (λ (r : Ripple). Fits matches (joined_of (record old { ripple = r }))) (sym c.take_ready.ensures.left)
    (rest-fits (joined_of old) (c.self.invariant before) matches (subst (λ h. Fits matches (joined_of h)) (sym c.self.view_is) fits))
