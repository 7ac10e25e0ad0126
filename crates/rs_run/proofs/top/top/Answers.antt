use Rattle.std.proofs.Common.{subst}
use Rattle.rs_value.proofs.ResultFacts.{given-err}
use Rattle.rs_events.specs.Run.{lines_run}
use Rattle.rs_statement.specs.Lines.{rank_lines}
use Rattle.rs_statement.specs.Parts.Steps.{Ran}
use Rattle.rs_run.specs.Parts.CommandLine.{words_of}
use Rattle.rs_run.proofs.RunFacts.{RanTop-no_table, RanTop-ranked, RanTop-unranked}
use Rattle.rs_run.proofs.top.top.Goals as goal

pub returns-in_err-table : goal.returns-in_err-table
returns-in_err-table g c =
    let old = g.W.Host.state c.args.host.now in
    rw (given-err c.from_residual.result c.in_err-table.field-0.0 c.from_residual.ensures, g.met.W.Host.after_files)
    (RanTop-no_table old.scorer.answer (words_of c.args.words) old (g.W.Files.Files.state c.fetch_table.new.files) c.in_err-table.field-0.0
    (rw c.files.ensures.value at c.in_err-table.ensures.fetches))

pub returns-in_err-rows : goal.returns-in_err-rows
returns-in_err-rows g c =
    let old = g.W.Host.state c.args.host.now in
    rw (given-err c.from_residual-in_err-rows.result c.in_err-rows.field-0.0 c.from_residual-in_err-rows.ensures, g.met.W.Host.after_files)
    (RanTop-unranked old.scorer.answer (words_of c.args.words) old (g.W.Files.Files.state c.fetch_table.new.files)
    c.in_ok-table.table c.in_err-rows.field-0.0 (rw c.files.ensures.value at c.in_ok-table.ensures.fetches) c.in_err-rows.ensures)

pub returns : goal.returns
returns g c =
    let old = g.W.Host.state c.args.host.now in
    let fetched = record old { files = g.W.Files.Files.state c.fetch_table.new.files } in
    let new = record fetched { out = g.W.Out.Sink.state c.put_rows.new.out } in
    rw (g.met.W.Host.after_out, g.met.W.Host.after_files)
    (RanTop-ranked old.scorer.answer (words_of c.args.words) old (g.W.Files.Files.state c.fetch_table.new.files)
    c.in_ok-table.table c.in_ok-rows.rows.items c.put_rows.result new (rw c.files.ensures.value at c.in_ok-table.ensures.fetches) c.in_ok-rows.ensures
    (subst (λ rows. Ran (lines_run (rank_lines 1 rows)) c.put_rows.result fetched new)
    c.deref.ensures.value (rw (c.out.ensures.value, g.met.W.Host.after_files) at c.put_rows.ensures fetched)))
