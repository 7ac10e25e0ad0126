use Rattle.std.proofs.Common.{◌≡◌, refl}
use Rattle.rs_syntax.specs.Syntax.{query_of}
use Rattle.rs_statement.specs.Statements.{analyze_step, explain_outcome}
use Rattle.rs_statement.specs.declared.evaluating.Evaluating.TheVariants.{Plainly}
use Rattle.rs_events.proofs.SteppedFacts.{Stepped-still}
use Rattle.rs_statement.proofs.select.run_analyze.Goals as goal

pub returns-in-Plainly : goal.returns-in-Plainly
returns-in-Plainly g c =
    let query = query_of c.args.select.now in
    let old = g.W.Host.state c.args.host.now in
    rw c.in-Plainly.is (Stepped-still (λ step. step ≡ analyze_step Plainly old.scorer.answer c.args.catalog.now query) (explain_outcome c.args.catalog.now query)
    c.args.catalog.now c.explain_query.result old refl c.explain_query.ensures)

pub returns-in-Planned : goal.returns-in-Planned
returns-in-Planned g c = rw c.in-Planned.is c.analyze_planned.ensures
