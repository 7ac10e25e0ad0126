use Rattle.std.proofs.Common.{◌≡◌, ◌∙◌, ◌+◌, ◌<◌, [], ◌∷◌, length, refl, sym, ap, subst, inl, inr, arith}
use Rattle.std.specs.Prelude.{Err, Ok}
use Rattle.rs_value.proofs.ResultFacts.{given-err}
use Rattle.rs_lines.specs.Row.{line_of}
use Rattle.rs_ta.specs.BlockTests.{BlockTestState}
use Rattle.rs_ta.specs.Depths.{ScanInput, answers}
use Rattle.rs_ta.specs.Eligible.{answer_for}
use Rattle.rs_ta.specs.IndexLists.{index_lists_state}
use Rattle.rs_ta.proofs.ExtensionFacts.{on_err_from}
use Rattle.rs_events.specs.Run.{lines_run}
use Rattle.rs_events.specs.Running.{Ran}
use Rattle.rs_events.proofs.RanFacts.{HasDone-none}
use Rattle.rs_statement.specs.declared.fault.Fault.TheVariants.{Memory}
use Rattle.rs_statement.specs.Lines.{rank_lines}
use Rattle.rs_run.specs.declared.fault.RunFault.TheVariants.{Statement}
use Rattle.rs_run.specs.Faults.{run_faults}
use Rattle.rs_run.specs.Parts.Scanning.{most_asks, scan_input, scanned_rows}
use Rattle.rs_run.proofs.ScanFacts.{at-ended, at-more, at-most, at-row, few-answers, lines-all, lines-broken, lines-cut, lines-more, next-is}
use Rattle.rs_run.proofs.ScanHaltFacts.{broken-refused, broken-row, only_entry, somebody}
use Rattle.rs_run.proofs.threshold.put_scanned_rows.Goals as goal

pub loop-given-init : goal.loop-given-init
loop-given-init g c = record {
  has = λ beside. HasDone-none (record beside { out = g.O.Sink.state c.args.out.now });
  at = record { given_is = c.requires.unasked.given; open_is = c.requires.unasked.open_is; scanning = c.requires.scanning; input_same = refl; lists_same = refl };
  test_same = refl;
  block_same = refl;
  catalog_same = refl;
}

pub returns-in_err-found-clause-puts : goal.returns-in_err-found-clause-puts
returns-in_err-found-clause-puts g c = λ beside.
    let i = scan_input c.args.test.now c.args.scan.now c.args.lists.now in
    let old = record beside { out = g.O.Sink.state c.args.out.now } in
    let new = record beside { out = g.O.Sink.state c.loop-given.out } in
    subst (λ result. Ran run_faults (lines_run (rank_lines 1 (scanned_rows c.args.test.now c.args.limit i))) result old new) (sym (given-err c.from_residual.result (Statement Memory) c.from_residual.ensures))
    (lines-cut c.args.test.now c.args.limit i c.loop-given.given old new (c.loop-given.invariant.has beside))

pub returns-in_err-found-clause-broken : goal.returns-in_err-found-clause-broken
returns-in_err-found-clause-broken g c =
    let test = c.args.test.now in
    let within : c.loop-given.given < most_asks c.args.limit = subst (λ most. c.loop-given.given < most) c.most_asks-given-end.ensures c.loop-given-test.true in
    on_err_from c.from_residual.result
    (broken-refused test c.args.scan.now c.args.lists.now c.loop-given.given c.loop-given.scan c.loop-given.lists c.loop-given.invariant.at c.args.limit within
    (g.O.Sink.state c.args.out.now) (g.O.Sink.state c.loop-given.out) (index_lists_state c.next.new.lists) (c.loop-given.invariant.has somebody) c.in_err-found.ensures.refused)

pub returns-in_err-put_scanned_row-in-Some-clause-broken : goal.returns-in_err-put_scanned_row-in-Some-clause-broken
returns-in_err-put_scanned_row-in-Some-clause-broken g c =
    let test = c.args.test.now in
    let given = c.loop-given.given in
    let middle = record somebody { out = g.O.Sink.state c.loop-given.out } in
    let new = record somebody { out = g.O.Sink.state c.put_scanned_row.new.out } in
    let within : given < most_asks c.args.limit = subst (λ most. given < most) c.most_asks-given-end.ensures c.loop-given-test.true in
    let e = sym c.in-Some.is ∙ next-is test c.args.scan.now c.args.lists.now given c.loop-given.scan c.loop-given.lists c.loop-given.invariant.at c.in_ok-found.found c.next.new.self c.next.new.lists
    c.in_ok-found.ensures.row c.in_ok-found.ensures.after c.in_ok-found.ensures.stands c.in_ok-found.ensures.input c.in_ok-found.ensures.lists in
    on_err_from c.from_residual-in_err-put_scanned_row-in-Some.result
    (broken-row test c.args.scan.now c.args.lists.now given c.loop-given.scan c.loop-given.lists c.loop-given.invariant.at c.args.limit within
    (only_entry c.args.scan.now.entry c.requires.scanning.entry_is) c.lists.ensures.ranked c.requires.scanning.have c.in-Some.row e
    (g.O.Sink.state c.args.out.now) (g.O.Sink.state c.loop-given.out) (g.O.Sink.state c.put_scanned_row.new.out) (index_lists_state c.next.new.lists)
    (c.loop-given.invariant.has somebody) c.in_ok-found.ensures.accessed c.in_err-put_scanned_row-in-Some.field-0.0
    (subst (λ (t : BlockTestState). Ran run_faults (lines_run (line_of (given + 1) c.in-Some.row.sum (answer_for t.catalogue t.block c.in-Some.row).values ∷ [])) (Err c.in_err-put_scanned_row-in-Some.field-0.0) middle new)
    (sym c.requires.test) (c.in_err-put_scanned_row-in-Some.ensures somebody)))

pub put_scanned_row-requires-clause-row : goal.put_scanned_row-requires-clause-row
put_scanned_row-requires-clause-row g c =
    at-row c.args.test.now c.args.scan.now c.args.lists.now c.loop-given.given c.loop-given.scan c.loop-given.lists c.loop-given.invariant.at c.args.catalog.now c.args.block.now c.requires.test c.in-Some.row
    (sym c.in-Some.is ∙ c.in_ok-found.ensures.row)

pub returns-in_err-put_scanned_row-in-Some-clause-puts : goal.returns-in_err-put_scanned_row-in-Some-clause-puts
returns-in_err-put_scanned_row-in-Some-clause-puts g c = λ beside.
    let test = c.args.test.now in
    let given = c.loop-given.given in
    let i = scan_input test c.args.scan.now c.args.lists.now in
    let old = record beside { out = g.O.Sink.state c.args.out.now } in
    let middle = record beside { out = g.O.Sink.state c.loop-given.out } in
    let new = record beside { out = g.O.Sink.state c.put_scanned_row.new.out } in
    let within : given < most_asks c.args.limit = subst (λ most. given < most) c.most_asks-given-end.ensures c.loop-given-test.true in
    let e = sym c.in-Some.is ∙ next-is test c.args.scan.now c.args.lists.now given c.loop-given.scan c.loop-given.lists c.loop-given.invariant.at c.in_ok-found.found c.next.new.self c.next.new.lists
    c.in_ok-found.ensures.row c.in_ok-found.ensures.after c.in_ok-found.ensures.stands c.in_ok-found.ensures.input c.in_ok-found.ensures.lists in
    subst (λ result. Ran run_faults (lines_run (rank_lines 1 (scanned_rows test c.args.limit i))) result old new)
    (sym (given-err c.from_residual-in_err-put_scanned_row-in-Some.result c.in_err-put_scanned_row-in-Some.field-0.0 c.from_residual-in_err-put_scanned_row-in-Some.ensures))
    (lines-broken test c.args.limit i given c.in-Some.row within e c.in_err-put_scanned_row-in-Some.field-0.0 old middle new (c.loop-given.invariant.has beside)
    (subst (λ (t : BlockTestState). Ran run_faults (lines_run (line_of (given + 1) c.in-Some.row.sum (answer_for t.catalogue t.block c.in-Some.row).values ∷ [])) (Err c.in_err-put_scanned_row-in-Some.field-0.0) middle new)
    (sym c.requires.test) (c.in_err-put_scanned_row-in-Some.ensures beside)))

pub loop-given-preserved : goal.loop-given-preserved
loop-given-preserved g c =
    let test = c.args.test.now in
    let given = c.loop-given.given in
    let i = scan_input test c.args.scan.now c.args.lists.now in
    let within : given < most_asks c.args.limit = subst (λ most. given < most) c.most_asks-given-end.ensures c.loop-given-test.true in
    let e = sym c.in-Some.is ∙ next-is test c.args.scan.now c.args.lists.now given c.loop-given.scan c.loop-given.lists c.loop-given.invariant.at c.in_ok-found.found c.next.new.self c.next.new.lists
    c.in_ok-found.ensures.row c.in_ok-found.ensures.after c.in_ok-found.ensures.stands c.in_ok-found.ensures.input c.in_ok-found.ensures.lists in record {
      has = λ beside.
          let old = record beside { out = g.O.Sink.state c.args.out.now } in
          let middle = record beside { out = g.O.Sink.state c.loop-given.out } in
          let new = record beside { out = g.O.Sink.state c.put_scanned_row.new.out } in
          lines-more test c.args.limit i given c.in-Some.row within e old middle new (c.loop-given.invariant.has beside)
          (subst (λ (t : BlockTestState). Ran run_faults (lines_run (line_of (given + 1) c.in-Some.row.sum (answer_for t.catalogue t.block c.in-Some.row).values ∷ [])) (Ok tt) middle new)
          (sym c.requires.test) (c.in_ok-put_scanned_row-in-Some.ensures beside));
      at = at-more test c.args.scan.now c.args.lists.now given c.loop-given.scan c.loop-given.lists c.loop-given.invariant.at c.in_ok-found.found c.next.new.self c.next.new.lists
          c.in_ok-found.ensures.row c.in_ok-found.ensures.after c.in_ok-found.ensures.stands c.in_ok-found.ensures.input c.in_ok-found.ensures.lists c.in-Some.row c.in-Some.is;
      test_same = refl;
      block_same = refl;
      catalog_same = refl;
    }

pub returns-in-None : goal.returns-in-None
returns-in-None g c =
    let test = c.args.test.now in
    let given = c.loop-given.given in
    let i = scan_input test c.args.scan.now c.args.lists.now in
    let at = c.loop-given.invariant.at in
    let within : given < most_asks c.args.limit = subst (λ most. given < most) c.most_asks-given-end.ensures c.loop-given-test.true in
    let few = few-answers i c.lists.ensures.ranked (c.thresholds_and_answers_rise.ensures.count i) in
    let ends = c.in_ok-found.ensures.end.0 c.in-None.is in
    let all : given ≡ length (answers i) = sym at.given_is ∙ ends ∙ ap (λ (i : ScanInput). length (answers i)) at.input_same in record {
      puts = λ beside. lines-all test c.args.limit i given (record beside { out = g.O.Sink.state c.args.out.now }) (record beside { out = g.O.Sink.state c.loop-given.out }) (inr all) few
          (c.loop-given.invariant.has beside);
      asked = at-ended test c.args.scan.now c.args.lists.now given c.loop-given.scan c.loop-given.lists at c.in_ok-found.found c.next.new.self c.next.new.lists
          c.in_ok-found.ensures.row c.in_ok-found.ensures.after c.in_ok-found.ensures.stands c.in_ok-found.ensures.input c.in_ok-found.ensures.lists c.args.limit c.in-None.is ends within;
      broken = tt;
    }

pub returns : goal.returns
returns g c =
    let test = c.args.test.now in
    let given = c.loop-given.given in
    let i = scan_input test c.args.scan.now c.args.lists.now in
    let few = few-answers i c.lists.ensures.ranked (c.thresholds_and_answers_rise.ensures.count i) in
    let end : c.most_asks-given-end.result ≡ most_asks c.args.limit = c.most_asks-given-end.ensures in
    let most : given ≡ c.most_asks-given-end.result = omega (arith, c.loop-given.auto.given-end, c.loop-given-test.false) in record {
      puts = λ beside. lines-all test c.args.limit i given (record beside { out = g.O.Sink.state c.args.out.now }) (record beside { out = g.O.Sink.state c.loop-given.out }) (inl (most ∙ end)) few
          (c.loop-given.invariant.has beside);
      asked = at-most test c.args.scan.now c.args.lists.now given c.loop-given.scan c.loop-given.lists c.loop-given.invariant.at c.args.limit (most ∙ end) few;
      broken = tt;
    }
