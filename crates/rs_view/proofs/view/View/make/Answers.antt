use Rattle.std.proofs.Common.{sym, subst}
use Rattle.std.specs.Prelude.{IfErr, IfOk}
use Rattle.rs_expr.specs.InOrder.{Inquires}
use Rattle.rs_plain.specs.Results.{NamesCalled}
use Rattle.rs_plain.specs.declared.fault.PlainFault.TheVariants.{Memory}
use Rattle.rs_value.proofs.ResultFacts.{given-err}
use Rattle.rs_view.specs.Fresh.{making}
use Rattle.rs_view.specs.Views.{Stands}
use Rattle.rs_view.proofs.GrowFacts.{Makes-grown, Stands-none}
use Rattle.rs_view.proofs.view.View.make.Goals as goal

pub grow-requires : goal.grow-requires
grow-requires g c = Stands-none (g.S.Scorer.state c.args.scorer.now).answer c.args.catalog.now c.args.query c.new.result.items c.new.ensures.items c.requires.query c.requires.keepable

pub returns-in_err-grow : goal.returns-in_err-grow
returns-in_err-grow g c =
    let before = g.S.Scorer.state c.args.scorer.now in
    let after = g.S.Scorer.state c.grow.new.scorer in
    let is = given-err c.from_residual.result c.in_err-grow.field-0.0 c.from_residual.ensures in
    record {
      makes = subst (λ r. Inquires Memory (making before.answer c.args.catalog.now c.args.query) r before after) (sym is)
          (Makes-grown c.args.catalog.now c.args.query c.new.result.items _ before after c.requires.query c.requires.keepable c.in_err-grow.ensures.grows);
      stands = subst (λ r. IfOk r (Stands after.answer c.args.catalog.now)) (sym is) tt;
      names = subst (λ r. IfErr r (NamesCalled c.args.catalog.now c.args.query)) (sym is) c.in_err-grow.ensures.names;
    }

pub returns : goal.returns
returns g c =
    let before = g.S.Scorer.state c.args.scorer.now in
    let after = g.S.Scorer.state c.grow.new.scorer in
    record {
      makes = Makes-grown c.args.catalog.now c.args.query c.new.result.items _ before after c.requires.query c.requires.keepable c.in_ok-grow.ensures.grows;
      stands = c.in_ok-grow.ensures.stands;
      names = tt;
    }
