use Rattle.std.proofs.Common.{drop, suc, sym, subst, take}
use Rattle.std.specs.Prelude.{Result}
use Rattle.rs_value.proofs.ResultFacts.{given-err}
use Rattle.rs_view.specs.Views.{rows_in}
use Rattle.rs_events.specs.Run.{lines_run}
use Rattle.rs_events.proofs.RanFacts.{Ran-first}
use Rattle.rs_statement.specs.declared.fault.Fault.{Fault}
use Rattle.rs_statement.specs.declared.fault.Fault.TheVariants.{Memory}
use Rattle.rs_statement.specs.Lines.{rank_lines}
use Rattle.rs_statement.specs.Parts.Steps.{Ran}
use Rattle.rs_run.proofs.views.put_some.Goals as goal

pub returns-in_err-rows : goal.returns-in_err-rows
returns-in_err-rows g c = λ beside.
    let lines = rank_lines (suc c.args.given) (take c.args.some (drop c.args.given (rows_in c.args.catalog.now c.args.view.now))) in
    let old = record beside { out = g.O.Sink.state c.args.out.now } in
    subst (λ (result : Result (Unit {0}) Fault). Ran (lines_run lines) result old old) (sym (given-err c.from_residual.result Memory c.from_residual.ensures)) (Ran-first (lines_run lines) old)
