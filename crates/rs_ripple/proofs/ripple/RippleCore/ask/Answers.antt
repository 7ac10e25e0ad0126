-- The first key held is that of the first row, the keys are in order in the queue, and the pair taken last was reached.
use Rattle.std.proofs.Common.{sym, ◌∙◌, ap, subst}
use Rattle.rs_order.specs.Climbing.{Climbs}
use Rattle.rs_rank.specs.Keys.{key_cmp}
use Rattle.rs_rank.specs.Rows.{first_key, rows_of_sums}
use Rattle.rs_ripple.specs.Ripple.{HasReached, Ripple}
use Rattle.rs_ripple.proofs.HeldFacts.{first_key-sums, rising-sums}
use Rattle.rs_ripple.proofs.ReachedFacts.{sides-reached}
use Rattle.rs_ripple.proofs.ripple.RippleCore.ask.Goals as goal

pub ask_by-requires : goal.ask_by-requires
ask_by-requires c =
    c.peek.ensures.first ∙ sym (first_key-sums c.self.inside.held) ∙ ap (λ (ripple : Ripple). first_key ripple.held) c.self.view_is

pub returns-clause-ordered : goal.returns-clause-ordered
returns-clause-ordered c =
    subst (λ (ripple : Ripple). Climbs key_cmp (λ pair. pair.0) ripple.held) c.self.view_is (rising-sums c.self.inside.held c.peek.ensures.ordered)

pub returns-clause-reached : goal.returns-clause-reached
returns-clause-reached c =
    let kept = c.self.inside in
    let now : Ripple = record { weights = kept.weights; left = kept.left; right = kept.right; taken = kept.taken; held = rows_of_sums kept.held; spent = kept.spent } in
    subst HasReached c.self.view_is (sides-reached now kept.taken kept.left.drawn kept.right.drawn c.self.invariant.5)
