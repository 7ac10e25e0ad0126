-- A field joins its column, or refuses the row.
use Rattle.std.proofs.Common.{◌≡◌, ◌+◌, ◌∙◌, ◌⊎◌, ◌++◌, ◌∷◌, [], get_or, inl, inr, sym, ap, subst, arith}
use Rattle.std.specs.Prelude.{Err, IfErr}
use Rattle.std.proofs.Math.Seq.{map-set_same}
use Rattle.csv.specs.Records.{fields_of}
use Rattle.rs_value.proofs.ResultFacts.{given-err}
use Rattle.rs_table.specs.Reading.{cell_of, cells_of}
use Rattle.rs_table.specs.Stored.{StoredCells}
use Rattle.rs_table.specs.declared.fault.TableFault.TheVariants.{Memory}
use Rattle.rs_table.proofs.ReadFacts.{few-at, is-at, read-fault, read-more}
use Rattle.rs_table.proofs.table.read_cells.Goals as goal

pub read-requires : goal.read-requires
read-requires c =
    let fields = fields_of c.args.record_.now in
    let at = is-at c.args.columns.now c.args.row fields c.loop-index.index c.args.cells.now c.loop-index.cells c.index-cells-index.result c.loop-index.invariant c.requires.kinds c.requires.same
    (let same = c.requires.same in omega arith) c.index-cells-index.is in
    record {
      few =
          rw (← c.index-cells-index.is)
          (few-at c.args.columns.now c.args.row fields c.loop-index.index c.args.cells.now c.loop-index.cells c.index-cells-index.result c.loop-index.invariant at c.requires.kinds c.requires.even c.requires.few_rows);
    }

pub returns-in_err-read-clause-kinds : goal.returns-in_err-read-clause-kinds
returns-in_err-read-clause-kinds c =
    map-set_same (λ (cells : StoredCells). cells.kind) c.loop-index.cells c.loop-index.index c.read.new.self c.index-cells-index.result c.read.ensures.kind ∙ c.loop-index.invariant.kinds

pub returns-in_err-read-clause-err : goal.returns-in_err-read-clause-err
returns-in_err-read-clause-err c =
    let fields = fields_of c.args.record_.now in
    let number = c.loop-index.index + 1 in
    let fault = c.in_err-read.field-0.0 in
    let at = is-at c.args.columns.now c.args.row fields c.loop-index.index c.args.cells.now c.loop-index.cells c.index-cells-index.result c.loop-index.invariant c.requires.kinds c.requires.same
    (let same = c.requires.same in omega arith) c.index-cells-index.is in
    subst (λ result. IfErr result (λ f. (f ≡ Memory) ⊎ (cells_of c.args.columns.now c.args.row 1 fields ≡ Err f))) (sym (given-err c.from_residual.result fault c.from_residual.ensures))
    (elim c.in_err-read.ensures.err [
      | inl e ↦ inl e
      | inr e ↦
          inr (read-fault c.args.columns.now c.args.row fields c.loop-index.index c.args.cells.now c.loop-index.cells c.index-cells-index.result fault c.loop-index.invariant at c.requires.kinds
          (ap (λ (cells : StoredCells). cell_of cells.kind c.args.row number (get_or fields c.loop-index.index [])) c.index-cells-index.is
          ∙ ap (λ field. cell_of (get_or c.loop-index.cells c.loop-index.index c.index-cells-index.result).kind c.args.row number field) (sym c.field_at-field.ensures) ∙ e))
    ])

pub loop-index-preserved : goal.loop-index-preserved
loop-index-preserved c =
    let fields = fields_of c.args.record_.now in
    let number = c.loop-index.index + 1 in
    let at = is-at c.args.columns.now c.args.row fields c.loop-index.index c.args.cells.now c.loop-index.cells c.index-cells-index.result c.loop-index.invariant c.requires.kinds c.requires.same
    (let same = c.requires.same in omega arith) c.index-cells-index.is in
    let (value, read, joined) = c.in_ok-read.ensures.ok in
    read-more c.args.columns.now c.args.row fields c.loop-index.index c.args.cells.now c.loop-index.cells c.index-cells-index.result c.read.new.self value c.loop-index.invariant at c.requires.kinds
    (ap (λ (cells : StoredCells). cell_of cells.kind c.args.row number (get_or fields c.loop-index.index [])) c.index-cells-index.is
    ∙ ap (λ field. cell_of (get_or c.loop-index.cells c.loop-index.index c.index-cells-index.result).kind c.args.row number field) (sym c.field_at-field.ensures) ∙ read)
    (c.read.ensures.kind ∙ ap (λ (cells : StoredCells). cells.kind) (sym c.index-cells-index.is))
    (joined ∙ ap (λ (cells : StoredCells). cells.cells ++ value ∷ []) (sym c.index-cells-index.is))
