-- The pair that is taken was at both thresholds, and those behind it are left.
use Rattle.std.proofs.Common.{◌≡◌, false, sym, ◌∙◌, ap, subst}
use Rattle.rs_ripple.specs.Joined.{Fits, IsJoined, Joined}
use Rattle.rs_ripple.specs.Ripple.{Ripple}
use Rattle.rs_ripple.proofs.RestFacts.{rest-fits, rest-joined}
use Rattle.rs_nrjn.proofs.nested.Nrjn.take_ready.Goals as goal

pub invariant_of-self : goal.invariant_of-self
invariant_of-self c = λ alive.
    let old : Joined = record { ripple = c.self.inside.core; lefts = c.self.inside.lefts.items; rights = c.self.inside.rights.items } in
    let before : c.self.inside.core.spent ≡ false = ap (λ (j : Joined). j.ripple.spent) c.self.view_is ∙ c.requires.alive in
    subst (λ (r : Ripple). IsJoined (record { ripple = r; lefts = c.self.inside.lefts.items; rights = c.self.inside.rights.items })) (sym c.take_ready.ensures.left)
    (rest-joined old (c.self.invariant before))

pub returns-clause-fits : goal.returns-clause-fits
returns-clause-fits c = λ matches fits.
    let old : Joined = record { ripple = c.self.inside.core; lefts = c.self.inside.lefts.items; rights = c.self.inside.rights.items } in
    let before : c.self.inside.core.spent ≡ false = ap (λ (j : Joined). j.ripple.spent) c.self.view_is ∙ c.requires.alive in
    subst (λ (r : Ripple). Fits matches (record { ripple = r; lefts = c.self.inside.lefts.items; rights = c.self.inside.rights.items })) (sym c.take_ready.ensures.left)
    (rest-fits old (c.self.invariant before) matches (subst (Fits matches) (sym c.self.view_is) fits))
