use Rattle.std.proofs.Common.{subst, sym}
use Rattle.rs_view.specs.Views.{Stands}
use Rattle.cases_data.proofs.views.grow_behind.Goals as goal

pub returns-in_err-join : goal.returns-in_err-join
returns-in_err-join g c =
    subst (λ answer. Stands answer c.join.new.catalog c.args.view.now) (sym c.in_err-join.ensures.answers)
    (c.views_go_on_to_stand.ensures (g.S.Scorer.state c.args.scorer.now).answer c.args.catalog.now c.join.new.catalog c.args.view.now c.in_err-join.ensures.grows c.requires.stands)

pub grow-requires : goal.grow-requires
grow-requires g c =
    subst (λ answer. Stands answer c.join.new.catalog c.args.view.now) (sym c.in_ok-join.ensures.answers)
    (c.views_go_on_to_stand.ensures (g.S.Scorer.state c.args.scorer.now).answer c.args.catalog.now c.join.new.catalog c.args.view.now c.in_ok-join.ensures.grows c.requires.stands)
