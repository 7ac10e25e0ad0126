-- Where both sides have a row, the kept thresholds and the first key held tell what is next.
use Rattle.std.proofs.Common.{sym, ◌∙◌, ap}
use Rattle.rs_rank.specs.Rows.{first_key, rows_of_sums}
use Rattle.rs_ripple.specs.Ripple.{Ripple, ask_first, ask_of}
use Rattle.rs_ripple.proofs.HeldFacts.{ask_of-kept}
use Rattle.rs_ripple.proofs.ripple.RippleCore.ask_by.Goals as goal

pub returns : goal.returns
returns c =
    let kept = c.self.inside in
    let now : Ripple = record { weights = kept.weights; left = kept.left; right = kept.right; taken = kept.taken; held = rows_of_sums kept.held; spent = kept.spent } in
    c.ask_first.ensures
    ∙ ap (ask_first kept.to_left kept.to_right) (c.requires ∙ ap (λ (ripple : Ripple). first_key ripple.held) (sym c.self.view_is))
    ∙ ask_of-kept now c.in-Some.field-0 c.in-Some-drawn.field-0 kept.to_left kept.to_right c.in-Some.is c.in-Some-drawn.is c.self.invariant.1
    ∙ ap ask_of c.self.view_is
