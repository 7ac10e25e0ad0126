use Rattle.std.proofs.Common.{ap, refl}
use Rattle.rs_expr.specs.FormulaScorer.{formula_state}
use Rattle.rs_query.specs.Views.{all_rows}
use Rattle.rs_sample.specs.Sampling.{done, done_of, questions_of}
use Rattle.rs_statement.proofs.SampleSteps.{steady-asking}
use Rattle.rs_statement.proofs.planning.take_by_guesses.Goals as goal

-- no call of a formula fails
pub unreachable-requires : goal.unreachable-requires
unreachable-requires c =
    let is = c.in-Err-Probe.is in
    let fault = c.in-Err-Probe.field-0-is in
    let memory = steady-asking c.args.catalog.now (questions_of c.args.query.now (all_rows c.args.catalog.now c.args.query.now) c.args.seed) done (done_of c.take.result) c.in-Err-Probe.field-0 (formula_state c.new-formulas.result) _ refl
    c.take.ensures.asks (ap done_of is) in
    cc

pub returns-in-Ok-clause-cards : goal.returns-in-Ok-clause-cards
returns-in-Ok-clause-cards c = λ answer. c.in-Ok.ensures.cards
