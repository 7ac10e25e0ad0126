use Rattle.std.proofs.Common.{◌≡◌, ◌+◌, ◌-◌, ap, arith, drop, subst, suc, take}
use Rattle.std.specs.Prelude.{Err, Ok}
use Rattle.rs_value.proofs.ResultFacts.{given-err}
use Rattle.rs_statement.specs.Lines.{rank_lines}
use Rattle.rs_statement.specs.Parts.Steps.{Ran}
use Rattle.rs_events.specs.Run.{lines_run}
use Rattle.rs_statement.specs.Session.{next_rows}
use Rattle.rs_statement.proofs.session.fetch_ready.Goals as goal

pub returns-in_err-put_rows : goal.returns-in_err-put_rows
returns-in_err-put_rows g c =
    let rows = c.args.rows.now in
    let given = c.args.given.now in
    let same : (given + c.min-wanted.result) - given ≡ next_rows rows given c.args.count = omega (arith, c.min-wanted.ensures) in
    rw (given-err c.from_residual.result c.in_err-put_rows.field-0.0 c.from_residual.ensures) (record {
      puts = λ beside. subst (λ n. Ran (lines_run (rank_lines (suc given) (take n (drop given rows)))) (Err c.in_err-put_rows.field-0.0)
          (record beside { out = g.O.Sink.state c.args.out.now }) (record beside { out = g.O.Sink.state c.put_rows.new.out })) same (c.in_err-put_rows.ensures beside);
      count = tt;
    })

pub returns : goal.returns
returns g c =
    let rows = c.args.rows.now in
    let given = c.args.given.now in
    let wanted : c.min-wanted.result ≡ next_rows rows given c.args.count = omega (arith, c.min-wanted.ensures) in
    let same : (given + c.min-wanted.result) - given ≡ next_rows rows given c.args.count = omega (arith, c.min-wanted.ensures) in record {
      puts = λ beside. subst (λ n. Ran (lines_run (rank_lines (suc given) (take n (drop given rows)))) (Ok tt)
          (record beside { out = g.O.Sink.state c.args.out.now }) (record beside { out = g.O.Sink.state c.put_rows.new.out })) same (c.in_ok-put_rows.ensures beside);
      count = ap (λ n. given + n) wanted;
    }
