use Rattle.std.proofs.Common.{◌≤◌, ◌+◌, suc, take, drop, length, map, refl, sym, subst, arith}
use Rattle.std.specs.Prelude.{Ok}
use Rattle.std.proofs.lemmas.List.{take_all}
use Rattle.rs_value.proofs.ResultFacts.{given-err}
use Rattle.rs_lines.specs.Row.{line_of}
use Rattle.rs_statement.specs.Lines.{rank_lines}
use Rattle.rs_events.specs.Running.{HasDone}
use Rattle.rs_statement.specs.Parts.Steps.{Ran}
use Rattle.rs_events.specs.Run.{lines_run}
use Rattle.rs_events.specs.Events.{Put}
use Rattle.rs_statement.proofs.PrintFacts.{length-rank_lines, rank_lines-more, rank_lines-next}
use Rattle.rs_events.proofs.RanFacts.{HasDone-line, HasDone-none, Ran-all, Ran-lines}
use Rattle.rs_statement.proofs.put.put_rows.Goals as goal

pub loop-index-init : goal.loop-index-init
loop-index-init g c = record { has = λ beside. HasDone-none (record beside { out = g.O.Sink.state c.args.out.now }); rows_same = refl }

pub returns-in_err-put_row : goal.returns-in_err-put_row
returns-in_err-put_row g c = λ beside.
    let rows = c.args.rows.now in
    let i = c.loop-index.index in
    let row = c.index-rows-index.result in
    let lines = rank_lines (suc c.args.given) rows in
    let old = record beside { out = g.O.Sink.state c.args.out.now } in
    let new = record beside { out = g.O.Sink.state c.put_row.new.out } in
    subst (λ result. Ran (lines_run lines) result old new) (sym (given-err c.from_residual.result c.in_err-put_row.field-0.0 c.from_residual.ensures))
    (Ran-lines lines (take i lines) (drop (i + 1) lines) (line_of (c.args.given + i + 1) row.score row.values) c.in_err-put_row.field-0.0 old (record beside { out = g.O.Sink.state c.loop-index.out }) new
    (rank_lines-next c.args.given rows i row _ c.loop-index-test.true c.index-rows-index.is refl) (c.loop-index.invariant.has beside) (c.in_err-put_row.ensures beside))

pub loop-index-preserved : goal.loop-index-preserved
loop-index-preserved g c =
    let rows = c.args.rows.now in
    let i = c.loop-index.index in
    let row = c.index-rows-index.result in
    let lines = rank_lines (suc c.args.given) rows in record {
      has = λ beside. HasDone-line (take (i + 1) lines) (take i lines) (line_of (c.args.given + i + 1) row.score row.values)
          (record beside { out = g.O.Sink.state c.args.out.now }) (record beside { out = g.O.Sink.state c.loop-index.out }) (record beside { out = g.O.Sink.state c.put_row.new.out })
          (rank_lines-more c.args.given rows i row _ c.loop-index-test.true c.index-rows-index.is refl) (c.loop-index.invariant.has beside) (c.in_ok-put_row.ensures beside);
      rows_same = refl;
    }

pub returns : goal.returns
returns g c = λ beside.
    let lines = rank_lines (suc c.args.given) c.args.rows.now in
    let all : length lines ≤ c.loop-index.index = omega (arith, length-rank_lines (suc c.args.given) c.args.rows.now, c.loop-index-test.false) in
    let old = record beside { out = g.O.Sink.state c.args.out.now } in
    let new = record beside { out = g.O.Sink.state c.loop-index.out } in
    Ran-all (lines_run lines) (Ok tt) old new
    (subst (λ done. HasDone (map Put done) old new) (take_all c.loop-index.index lines all) (c.loop-index.invariant.has beside)) refl
