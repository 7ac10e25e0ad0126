use Rattle.std.proofs.Common.{◌≡◌, ◌∙◌, [], ◌∷◌, ap, subst, sym}
use Rattle.rs_value.proofs.ResultFacts.{given-err}
use Rattle.rs_lines.specs.Row.{line_of}
use Rattle.rs_statement.specs.Parts.Steps.{Ran}
use Rattle.rs_events.specs.Run.{lines_run}
use Rattle.rs_statement.specs.declared.fault.Fault.TheVariants.{Memory}
use Rattle.rs_events.proofs.RanFacts.{Ran-first}
use Rattle.rs_statement.proofs.put.put_row.Goals as goal

pub returns-in_err-line : goal.returns-in_err-line
returns-in_err-line g c = λ beside.
    let run = lines_run (line_of c.args.rank c.args.row.now.score c.args.row.now.values ∷ []) in
    let at = record beside { out = g.O.Sink.state c.args.out.now } in
    subst (λ result. Ran run result at at) (sym (given-err c.from_residual.result Memory c.from_residual.ensures)) (Ran-first run at)

pub returns : goal.returns
returns g c = λ beside.
    let row = c.args.row.now in
    let line : c.in_ok-line.line.now ≡ line_of c.args.rank row.score row.values =
    c.in_ok-line.ensures ∙ ap (λ values. line_of c.args.rank row.score values) (c.deref.ensures.value ∙ c.items.ensures) in
    subst (λ line. Ran (lines_run (line ∷ [])) c.put_text.result (record beside { out = g.O.Sink.state c.args.out.now }) (record beside { out = g.O.Sink.state c.put_text.new.out })) line
    (c.put_text.ensures beside)
