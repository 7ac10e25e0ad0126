use Rattle.std.proofs.Common.{◌∙◌, subst}
use Rattle.rs_cert.specs.Writers.{text_in}
use Rattle.rs_cert.specs.Written.{AreWritableRows}
use Rattle.rs_cert.proofs.WrittenFacts.{side-put}
use Rattle.rs_cert.proofs.writing.WrittenRecords.put_side.Goals as goal

pub returns-clause-records : goal.returns-clause-records
returns-clause-records c = record {
  text =
      side-put c.args.name.now c.args.side.now c.deref.result.now (text_in c.args.self.now.writer) (text_in c.put_rows.new.self.writer) (text_in c.put_end.new.self.writer) (c.deref.ensures.value ∙ c.items.ensures)
      c.in_ok-put_rows.ensures.records.text c.in_ok-put_end.ensures.text;
  ready = c.in_ok-put_end.ensures.ready;
}

pub returns-clause-rows : goal.returns-clause-rows
returns-clause-rows c = subst AreWritableRows (c.deref.ensures.value ∙ c.items.ensures) c.in_ok-put_rows.ensures.rows
