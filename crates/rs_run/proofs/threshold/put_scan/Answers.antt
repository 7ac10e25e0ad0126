use Rattle.std.proofs.Common.{◌++◌, [], ◌∷◌, sym, subst}
use Rattle.rs_value.proofs.ResultFacts.{given-err}
use Rattle.rs_events.specs.Run.{lines_run}
use Rattle.rs_events.specs.Running.{Ran}
use Rattle.rs_statement.specs.Lines.{rank_lines}
use Rattle.rs_run.specs.Faults.{run_faults}
use Rattle.rs_run.specs.Parts.Scanning.{scan_input, scanned_rows}
use Rattle.rs_run.specs.Threshold.{access_line, scan_asks}
use Rattle.rs_ta.specs.IndexLists.{index_lists_state}
use Rattle.rs_ta.proofs.ExtensionFacts.{on_err_from}
use Rattle.rs_events.proofs.RanFacts.{Ran-done}
use Rattle.rs_run.proofs.ScanHaltFacts.{broken-last, broken-longer, on_err_each, on_ok_from, only_entry, somebody}
use Rattle.rs_run.proofs.ScanFacts.{accessed, lines-stop, lines-then, unspent}
use Rattle.rs_run.proofs.threshold.put_scan.Goals as goal

pub put_accesses-requires : goal.put_accesses-requires
put_accesses-requires g c =
    let i = scan_input c.args.test.now c.args.scan.now c.args.lists.now in
    unspent i (scan_asks c.args.limit i) c.put_scanned_rows.new.scan c.put_scanned_rows.new.lists c.in_ok-put_scanned_rows.ensures.asked

pub returns-in_err-put_scanned_rows-clause-puts : goal.returns-in_err-put_scanned_rows-clause-puts
returns-in_err-put_scanned_rows-clause-puts g c = λ beside.
    let i = scan_input c.args.test.now c.args.scan.now c.args.lists.now in
    let rows = rank_lines 1 (scanned_rows c.args.test.now c.args.limit i) in
    let last = access_line i (scan_asks c.args.limit i) ∷ [] in
    let old = record beside { out = g.O.Sink.state c.args.out.now } in
    let new = record beside { out = g.O.Sink.state c.put_scanned_rows.new.out } in
    subst (λ result. Ran run_faults (lines_run (rows ++ last)) result old new) (sym (given-err c.from_residual.result c.in_err-put_scanned_rows.field-0.0 c.from_residual.ensures))
    (lines-stop rows last old new new c.in_err-put_scanned_rows.field-0.0 (c.in_err-put_scanned_rows.ensures.puts beside))

pub returns-in_err-put_scanned_rows-clause-broken : goal.returns-in_err-put_scanned_rows-clause-broken
returns-in_err-put_scanned_rows-clause-broken g c =
    let i = scan_input c.args.test.now c.args.scan.now c.args.lists.now in
    on_err_from c.from_residual.result
    (broken-longer i (scan_asks c.args.limit i) (rank_lines 1 (scanned_rows c.args.test.now c.args.limit i)) (access_line i (scan_asks c.args.limit i) ∷ [])
    (g.O.Sink.state c.args.out.now) (g.O.Sink.state c.put_scanned_rows.new.out) (index_lists_state c.put_scanned_rows.new.lists) c.in_err-put_scanned_rows.ensures.broken)

pub returns-clause-accessed : goal.returns-clause-accessed
returns-clause-accessed g c =
    let i = scan_input c.args.test.now c.args.scan.now c.args.lists.now in
    on_ok_from c.put_accesses.result (accessed i (scan_asks c.args.limit i) c.put_scanned_rows.new.scan c.put_scanned_rows.new.lists c.in_ok-put_scanned_rows.ensures.asked)

pub returns-clause-broken : goal.returns-clause-broken
returns-clause-broken g c =
    let i = scan_input c.args.test.now c.args.scan.now c.args.lists.now in
    let rows = rank_lines 1 (scanned_rows c.args.test.now c.args.limit i) in
    let old = record somebody { out = g.O.Sink.state c.args.out.now } in
    let middle = record somebody { out = g.O.Sink.state c.put_scanned_rows.new.out } in
    let new = record somebody { out = g.O.Sink.state c.put_accesses.new.out } in
    let asked = c.in_ok-put_scanned_rows.ensures.asked in
    on_err_each c.put_accesses.result (λ fault is.
    broken-last c.args.test.now c.args.limit i (only_entry c.args.scan.now.entry c.requires.scanning.entry_is) c.lists.ensures.ranked c.requires.scanning.have (access_line i (scan_asks c.args.limit i))
    (g.O.Sink.state c.args.out.now) (g.O.Sink.state c.put_scanned_rows.new.out) (g.O.Sink.state c.put_accesses.new.out) (index_lists_state c.put_scanned_rows.new.lists)
    (Ran-done (lines_run rows) old middle (c.in_ok-put_scanned_rows.ensures.puts somebody)).has
    (accessed i (scan_asks c.args.limit i) c.put_scanned_rows.new.scan c.put_scanned_rows.new.lists asked) fault
    (subst (λ result. Ran run_faults (lines_run (access_line i (scan_asks c.args.limit i) ∷ [])) result middle new) is (c.put_accesses.ensures somebody i (scan_asks c.args.limit i) asked)))

pub returns-clause-puts : goal.returns-clause-puts
returns-clause-puts g c = λ beside.
    let i = scan_input c.args.test.now c.args.scan.now c.args.lists.now in
    let rows = rank_lines 1 (scanned_rows c.args.test.now c.args.limit i) in
    let last = access_line i (scan_asks c.args.limit i) ∷ [] in
    lines-then rows last (record beside { out = g.O.Sink.state c.args.out.now }) (record beside { out = g.O.Sink.state c.put_scanned_rows.new.out })
    (record beside { out = g.O.Sink.state c.put_accesses.new.out }) c.put_accesses.result (c.in_ok-put_scanned_rows.ensures.puts beside)
    (c.put_accesses.ensures beside i (scan_asks c.args.limit i) c.in_ok-put_scanned_rows.ensures.asked)
