use Rattle.std.proofs.Common.{◌≡◌, ◌∙◌, ◌-◌, ◌^◌, [], ◌∷◌, true, ap, subst, sym}
use Rattle.rs_value.proofs.ResultFacts.{given-err}
use Rattle.rs_lines.specs.Row.{line_of}
use Rattle.rs_rank.specs.declared.ids.Ids.{Ids}
use Rattle.rs_catalog.specs.Catalog.{CatalogDef}
use Rattle.rs_query.specs.Meaning.{is_inside, outputs_of}
use Rattle.rs_query.specs.Tables.{HasRows}
use Rattle.rs_query.specs.WellFormed.{IsBlock, entries_mask}
use Rattle.rs_query.proofs.EntryFacts.{items-inside}
use Rattle.rs_ta.proofs.BlockTestFacts.{HasRows-one}
use Rattle.rs_events.specs.Run.{lines_run}
use Rattle.rs_events.specs.Running.{Ran}
use Rattle.rs_events.proofs.RanFacts.{Ran-first}
use Rattle.rs_statement.specs.declared.fault.Fault.TheVariants.{Memory}
use Rattle.rs_run.specs.declared.fault.RunFault.TheVariants.{Statement}
use Rattle.rs_run.specs.Faults.{run_faults}
use Rattle.rs_run.proofs.threshold.put_scanned_row.Goals as goal

pub outputs-requires : goal.outputs-requires
outputs-requires g c =
    let catalogue = c.args.catalog.now in
    let block = c.args.block.now in
    let row = c.requires.row in
    let inside : is_inside (entries_mask block.items) 1 ≡ true =
    ap (is_inside (entries_mask block.items)) (ap (λ n. 2 ^ n - 1) (sym c.requires.one_entry)) ∙ items-inside catalogue block c.requires.formed in record {
      block = subst (λ (seen : CatalogDef). IsBlock seen block) (sym c.current.ensures) c.requires.formed;
      inside = subst (λ (ids : Ids). is_inside (entries_mask block.items) ids.mask ≡ true) (sym row.ids_are) inside;
      rows = subst (λ (ids : Ids). HasRows c.current.result block ids.mask ids.rows) (sym row.ids_are)
          (subst (λ (seen : CatalogDef). HasRows seen block 1 (row.number ∷ 0 ∷ 0 ∷ 0 ∷ 0 ∷ 0 ∷ [])) (sym c.current.ensures) (HasRows-one catalogue block row.number c.requires.one_entry row.is_row));
    }

pub returns-in_err-values : goal.returns-in_err-values
returns-in_err-values g c = λ beside.
    let run = lines_run (line_of c.args.rank c.args.row.sum (outputs_of c.args.catalog.now c.args.block.now c.args.row.ids.rows) ∷ []) in
    let at = record beside { out = g.O.Sink.state c.args.out.now } in
    subst (λ result. Ran run_faults run result at at) (sym (given-err c.from_residual.result (Statement Memory) c.from_residual.ensures)) (Ran-first run at)

pub returns-in_err-line : goal.returns-in_err-line
returns-in_err-line g c = λ beside.
    let run = lines_run (line_of c.args.rank c.args.row.sum (outputs_of c.args.catalog.now c.args.block.now c.args.row.ids.rows) ∷ []) in
    let at = record beside { out = g.O.Sink.state c.args.out.now } in
    subst (λ result. Ran run_faults run result at at) (sym (given-err c.from_residual-in_err-line.result (Statement Memory) c.from_residual-in_err-line.ensures)) (Ran-first run at)

pub returns : goal.returns
returns g c = λ beside.
    let row = c.args.row in
    let values : c.deref.result.now ≡ outputs_of c.args.catalog.now c.args.block.now row.ids.rows =
    c.deref.ensures.value ∙ c.in_ok-values.ensures ∙ ap (λ (seen : CatalogDef). outputs_of seen c.args.block.now row.ids.rows) c.current.ensures in
    let line : c.in_ok-line.line.now ≡ line_of c.args.rank row.sum (outputs_of c.args.catalog.now c.args.block.now row.ids.rows) =
    c.in_ok-line.ensures ∙ ap (line_of c.from.result row.sum) values ∙ ap (λ n. line_of n row.sum (outputs_of c.args.catalog.now c.args.block.now row.ids.rows)) c.from.ensures in
    subst (λ line. Ran run_faults (lines_run (line ∷ [])) c.put_text.result (record beside { out = g.O.Sink.state c.args.out.now }) (record beside { out = g.O.Sink.state c.put_text.new.out })) line
    (c.put_text.ensures beside)
