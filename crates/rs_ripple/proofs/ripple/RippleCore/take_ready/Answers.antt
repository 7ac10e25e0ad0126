-- The pair that is taken is at both thresholds.
use Rattle.std.proofs.Common.{◌≡◌, Some, rules, sym, ◌∙◌, ap, subst}
use Rattle.std.specs.Option.{option_map}
use Rattle.rs_rank.specs.declared.ask.JoinAsk.TheVariants.{Ready}
use Rattle.rs_rank.specs.Rows.{first_key, rows_of_sums}
use Rattle.rs_ripple.specs.Ripple.{IsTakenReached, Ripple, ask_of, left_for, sides_of}
use Rattle.rs_ripple.proofs.HeldFacts.{first_key-sums}
use Rattle.rs_ripple.proofs.ReachedFacts.{reached-sides}
use Rattle.rs_ripple.proofs.RestFacts.{ready-reached}
use Rattle.rs_ripple.proofs.ripple.RippleCore.take_ready.Goals as goal

pub invariant_of-self : goal.invariant_of-self
invariant_of-self c =
    let kept = c.self.inside in
    let now : Ripple = record { weights = kept.weights; left = kept.left; right = kept.right; taken = kept.taken; held = rows_of_sums kept.held; spent = kept.spent } in
    let first : first_key (rows_of_sums kept.held) ≡ Some c.in-Some.key =
    first_key-sums kept.held ∙ ap (option_map (λ pair. pair.0)) (sym c.pop.ensures.first ∙ c.in-Some.is) in (
      search rules,
      search rules,
      search rules,
      search rules,
      search rules,
      subst (λ taken. IsTakenReached taken kept.left.drawn kept.right.drawn (sides_of kept.weights kept.left kept.right)) first
          (reached-sides (left_for Ready now) (first_key now.held) kept.left.drawn kept.right.drawn
          (ready-reached now kept.left.drawn kept.right.drawn (ap ask_of c.self.view_is ∙ c.requires.ready))),
    )
