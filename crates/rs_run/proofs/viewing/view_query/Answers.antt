use Rattle.std.proofs.Common.{◌≡◌, ◌∙◌, sym}
use Rattle.std.specs.Prelude.{Ok}
use Rattle.std.proofs.lemmas.Bool.{true≢false}
use Rattle.rs_value.proofs.ResultFacts.{given-err}
use Rattle.rs_run.specs.Parts.Holding.{kept_of, views_in}
use Rattle.rs_run.specs.Viewing.{named_step}
use Rattle.rs_run.specs.declared.fault.RunFault.TheVariants.{Statement}
use Rattle.rs_run.proofs.ScanSteps.{Stepped-told_err, Stepped-told_ok}
use Rattle.rs_run.proofs.ViewSteps.{Stepped-unkeepable, Stepped-viewed}
use Rattle.rs_run.proofs.viewing.view_query.Goals as goal

pub make_view-requires : goal.make_view-requires
make_view-requires g c = record { query = c.requires.formed; keepable = c.is_keepable.ensures.0 c.if-not-is_keepable.false; stand = c.requires.stand }

pub returns-then-not-is_keepable : goal.returns-then-not-is_keepable
returns-then-not-is_keepable g c =
    let old = g.S.Scorer.state c.args.scorer.now in record {
      makes = λ beside. Stepped-unkeepable old.answer c.args.number c.args.name.now (kept_of c.args.catalog.now (views_in c.args.held.now)) c.args.query c.not_eligible.result (record beside { scorer = old })
          (λ keepable. true≢false (sym (c.is_keepable.ensures.1 keepable) ∙ c.if-not-is_keepable.true)) c.not_eligible.ensures;
      stand = tt;
    }

pub returns-in_err-make_view : goal.returns-in_err-make_view
returns-in_err-make_view g c =
    let old = g.S.Scorer.state c.args.scorer.now in
    let new = g.S.Scorer.state c.make_view.new.scorer in
    let kept = kept_of c.args.catalog.now (views_in c.args.held.now) in
    let left = kept_of c.args.catalog.now (views_in c.make_view.new.held) in
    rw (given-err c.from_residual.result (Statement c.in_err-make_view.field-0.0) c.from_residual.ensures) (record {
      makes = λ beside. Stepped-viewed old.answer c.args.number c.args.name.now kept c.args.query left _ (record beside { scorer = old }) (record beside { scorer = new })
          (c.is_keepable.ensures.0 c.if-not-is_keepable.false)
          (Stepped-told_err (λ step. step ≡ named_step old.answer c.args.name.now kept c.args.query) left (record beside { scorer = old }) (record beside { scorer = new }) c.in_err-make_view.field-0.0
          (c.in_err-make_view.ensures.makes beside));
      stand = tt;
    })

pub returns : goal.returns
returns g c =
    let old = g.S.Scorer.state c.args.scorer.now in
    let new = g.S.Scorer.state c.make_view.new.scorer in
    let kept = kept_of c.args.catalog.now (views_in c.args.held.now) in
    let left = kept_of c.args.catalog.now (views_in c.make_view.new.held) in record {
      makes = λ beside. Stepped-viewed old.answer c.args.number c.args.name.now kept c.args.query left (Ok tt) (record beside { scorer = old }) (record beside { scorer = new })
          (c.is_keepable.ensures.0 c.if-not-is_keepable.false)
          (Stepped-told_ok (λ step. step ≡ named_step old.answer c.args.name.now kept c.args.query) left (record beside { scorer = old }) (record beside { scorer = new }) (c.in_ok-make_view.ensures.makes beside));
      stand = c.in_ok-make_view.ensures.stand;
    }
