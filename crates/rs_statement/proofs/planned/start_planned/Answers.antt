use Rattle.std.proofs.Common.{◌≡◌, ◌∙◌, subst, sym}
use Rattle.rs_value.proofs.ResultFacts.{given-err}
use Rattle.rs_query.specs.Tops.{HasTops}
use Rattle.rs_statement.specs.Sampled.{sample_step}
use Rattle.rs_statement.specs.declared.fault.Fault.TheVariants.{Memory}
use Rattle.rs_events.proofs.SteppedFacts.{Stepped-cut}
use Rattle.rs_statement.proofs.planned.start_planned.Goals as goal

pub make-requires : goal.make-requires
make-requires g c = c.requires.formed

pub returns-in_err-planned : goal.returns-in_err-planned
returns-in_err-planned g c = rw (given-err c.from_residual.result c.in_err-planned.field-0.0 c.from_residual.ensures)
    (record { calls = c.in_err-planned.ensures.calls; starts = tt; stands = tt })

pub start-requires : goal.start-requires
start-requires g c = c.in_ok-planned.ensures.planned.whole

-- the sample was taken, and then there was no memory for the cursor
pub returns-in_err-start : goal.returns-in_err-start
returns-in_err-start g c = rw (given-err c.from_residual-in_err-start.result Memory c.from_residual-in_err-start.ensures) (record {
  calls = λ beside. Stepped-cut (λ step. step ≡ sample_step c.args.catalog.now c.args.sampling c.args.query) c.args.catalog.now
      (record beside { scorer = g.S.Scorer.state c.args.scorer.now }) (record beside { scorer = g.S.Scorer.state c.make.new.scorer }) (c.in_ok-planned.ensures.calls beside);
  starts = tt;
  stands = tt;
})

pub returns : goal.returns
returns g c =
    let planned = c.in_ok-planned.ensures.planned in
    let new = c.in_ok-start.ensures.new in record {
      calls = c.in_ok-planned.ensures.calls;
      starts = record { query_is = new.query_is ∙ planned.query_is; plan_is = new.plan_is ∙ planned.plan_is; asks_are = new.unasked };
      stands = c.in_ok-start.ensures.stands (g.S.Scorer.state c.args.scorer.now).answer c.requires.held
          (subst (HasTops c.args.catalog.now) (sym planned.query_is) c.requires.tops);
    }
