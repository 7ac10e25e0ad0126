-- The end of a side leaves the rows, and puts a threshold beyond all keys.
use Rattle.std.proofs.Common.{sym, ◌∙◌, ap, subst}
use Rattle.rs_ripple.specs.Joined.{IsJoined}
use Rattle.rs_ripple.specs.Ripple.{Ripple}
use Rattle.rs_ripple.proofs.RestFacts.{right_end-joined}
use Rattle.rs_hrjn.specs.Hashed.{joined_of}
use Rattle.rs_hrjn.proofs.hashed.Hrjn.right_ended.Goals as goal

pub invariant_of-self : goal.invariant_of-self
invariant_of-self c = λ alive.
    subst (λ (r : Ripple). IsJoined (joined_of (record { ripple = r; lefts = c.self.inside.lefts; rights = c.self.inside.rights }))) (sym c.right_ended.ensures)
    (right_end-joined (joined_of (record { ripple = c.self.inside.core; lefts = c.self.inside.lefts; rights = c.self.inside.rights }))
    (c.self.invariant (sym (ap (λ (r : Ripple). r.spent) c.right_ended.ensures) ∙ alive)))
