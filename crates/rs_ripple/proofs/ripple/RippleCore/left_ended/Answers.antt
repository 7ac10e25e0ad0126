-- The end of a side puts its threshold beyond all keys.
use Rattle.std.proofs.Common.{rules, sym, subst}
use Rattle.rs_rank.specs.Rows.{rows_of_sums}
use Rattle.rs_ripple.specs.declared.side.Input.{Input}
use Rattle.rs_ripple.specs.Ripple.{IsTakenReached, Ripple, left_ended, sides_of}
use Rattle.rs_ripple.proofs.ReachedFacts.{left_end-reached, reached-sides, sides-reached}
use Rattle.rs_ripple.proofs.ripple.RippleCore.left_ended.Goals as goal

pub invariant_of-self : goal.invariant_of-self
invariant_of-self c =
    let kept = c.self.inside in
    let now : Ripple = record { weights = kept.weights; left = kept.left; right = kept.right; taken = kept.taken; held = rows_of_sums kept.held; spent = kept.spent } in (
      search rules,
      search rules,
      search rules,
      search rules,
      search rules,
      subst (λ (input : Input). IsTakenReached kept.taken input.drawn kept.right.drawn (sides_of kept.weights input kept.right)) (sym c.end.ensures)
          (reached-sides (left_ended now) kept.taken kept.left.drawn kept.right.drawn
          (left_end-reached now kept.taken kept.left.drawn kept.right.drawn (sides-reached now kept.taken kept.left.drawn kept.right.drawn c.self.invariant.5))),
    )
