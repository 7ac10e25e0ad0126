use Rattle.std.proofs.Common.{◌++◌, ◌∙◌, ap, subst}
use Rattle.csv.specs.Writing.{default_writer, row_text}
use Rattle.rs_cert.specs.Writers.{text_in}
use Rattle.rs_cert.specs.Written.{IsWritableRow, row_record}
use Rattle.rs_cert.proofs.WrittenFacts.{each-at, text-at}
use Rattle.rs_cert.proofs.writing.WrittenRecords.put_rows.Goals as goal

pub loop-row-preserved : goal.loop-row-preserved
loop-row-preserved c = record {
  text =
      text-at (row_record c.args.name.now) c.args.rows.now c.loop-row.row-index c.row-item.result (text_in c.args.self.now.writer) (text_in c.loop-row.self.writer) (text_in c.put_row.new.self.writer) c.loop-row-test.true c.loop-row.invariant.text
      (c.in_ok-put_row.ensures.bytes.text ∙ ap (λ row. text_in c.loop-row.self.writer ++ row_text default_writer (row_record c.args.name.now row)) c.row-item.is);
  ready = c.in_ok-put_row.ensures.bytes.ready;
  rows = each-at IsWritableRow c.args.rows.now c.loop-row.row-index c.row-item.result c.loop-row-test.true c.loop-row.invariant.rows (subst IsWritableRow c.row-item.is c.put_row.ensures.fits);
}
