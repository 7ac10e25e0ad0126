use Rattle.std.proofs.Common.{◌≡◌, true, subst, sym}
use Rattle.rs_expr.specs.Formulas.{Formula}
use Rattle.rs_expr.specs.Uses.{has_argument, uses}
use Rattle.rs_expr.proofs.UsesFacts.{uses_arguments}
use Rattle.rs_expr.proofs.scorer.formula_value.Goals as goal

pub eval-requires-clause-args : goal.eval-requires-clause-args
eval-requires-clause-args c =
    let predicate = c.args.predicate.now in
    subst (λ (f : Formula). uses (has_argument c.args.args.now) f ≡ true) (sym c.formula.ensures.value)
    (uses_arguments predicate.params c.args.args.now predicate.formula c.requires c.formula.ensures.is_predicate.fits)
