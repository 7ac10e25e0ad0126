-- The threshold of the side goes on with its key, and the other one stays.
use Rattle.std.proofs.Common.{Some, rules, sym, subst}
use Rattle.rs_rank.specs.Rows.{rows_of_sums}
use Rattle.rs_ripple.specs.declared.side.Input.{Input}
use Rattle.rs_ripple.specs.Ripple.{CanDrawRight, IsTakenReached, Ripple, drawn_with, right_drawn, sides_of}
use Rattle.rs_ripple.proofs.ReachedFacts.{right_drawn-reached, reached-sides, sides-reached}
use Rattle.rs_ripple.proofs.ripple.RippleCore.right_drawn.Goals as goal

pub invariant_of-self : goal.invariant_of-self
invariant_of-self c =
    let kept = c.self.inside in
    let key = c.args.key in
    let now : Ripple = record { weights = kept.weights; left = kept.left; right = kept.right; taken = kept.taken; held = rows_of_sums kept.held; spent = kept.spent } in
    let can = subst (CanDrawRight key) (sym c.self.view_is) c.requires in
    let is = c.self.invariant.0 in (
      search rules,
      search rules,
      search rules,
      search rules,
      search rules,
      subst (λ (input : Input). IsTakenReached kept.taken kept.left.drawn input.drawn (sides_of kept.weights kept.left input)) (sym c.draw.ensures)
          (reached-sides (right_drawn key now) kept.taken kept.left.drawn (Some (drawn_with kept.right.drawn key))
          (right_drawn-reached now is.sides key can.own kept.taken kept.left.drawn kept.right.drawn is.left_keys is.right_keys is.block can.left_block can.behind
          (sides-reached now kept.taken kept.left.drawn kept.right.drawn c.self.invariant.5))),
    )
