-- A row that was read stands behind those before it.
use Rattle.std.proofs.Common.{◌≡◌, ◌+◌, ◌++◌, ◌∷◌, ◌∙◌, ap, arith, drop, length, subst, sym, take}
use Rattle.std.proofs.lemmas.List.{with_items_is}
use Rattle.csv.specs.Records.{fields_of}
use Rattle.rs_table.specs.Appended.{appended}
use Rattle.rs_table.specs.Reading.{rows_from, row_of}
use Rattle.rs_table.specs.ReadInto.{ReadInto}
use Rattle.rs_table.specs.Stored.{AreEven, cells_in, kinds_in, rows_across}
use Rattle.rs_table.proofs.ReadFacts.{rows-more}
use Rattle.rs_table.proofs.table.read_rows.Goals as goal

pub loop-cells-preserved : goal.loop-cells-preserved
loop-cells-preserved c =
    let columns = c.args.columns.now in
    let n = c.loop-cells.len in
    let old = c.loop-cells.cells.items in
    let now = c.read_row.new.cells in
    let fields = fields_of c.read.new.record_ in
    let same = c.read_row.auto.cells in
    let size = c.as_mut_slice.ensures.len in
    let written : take c.loop-cells.cells.len (now ++ drop (length now) old) ≡ now = with_items_is c.loop-cells.cells now (omega arith) in
    let found : c.loop-cells.records ≡ fields ∷ c.read.new.self = rw c.if-branch.true at c.in_ok-read.ensures.found in
    let read : ReadInto (row_of columns (n + 1) fields) (cells_in old) (cells_in now) =
    subst (λ cells. ReadInto (row_of columns (n + 1) fields) (cells_in cells) (cells_in now)) c.as_mut_slice.ensures.value c.in_ok-read_row.ensures.ok in
    let all = rows_from columns 1 c.args.records.now in
    let next = rows-more columns n fields c.read.new.self all old now c.loop-cells.invariant.kinds c.loop-cells.invariant.even read
    (subst (λ records. appended (rows_across n (cells_in old)) (rows_from columns (n + 1) records) ≡ all) found c.loop-cells.invariant.so_far) in
    let few = c.in_ok-read_row.ensures.few in
    record {
      few = omega (arith, few);
      kinds = ap kinds_in written ∙ c.read_row.ensures.kinds ∙ ap kinds_in c.as_mut_slice.ensures.value ∙ c.loop-cells.invariant.kinds;
      even = subst (λ cells. AreEven (n + 1) (cells_in cells)) (sym written) next.0;
      so_far = subst (λ cells. appended (rows_across (n + 1) (cells_in cells)) (rows_from columns (n + 1 + 1) c.read.new.self) ≡ all) (sym written) next.1;
    }
