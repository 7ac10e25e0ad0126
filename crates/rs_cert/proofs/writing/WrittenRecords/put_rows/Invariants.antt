use Rattle.std.proofs.Common.{◌≡◌, ◌++◌, map, take}
use Rattle.rs_cert.specs.Writers.{IsReady, text_in}
use Rattle.rs_cert.specs.Written.{AreWritableRows, row_record, text_of}
use Rattle.rs_cert.proofs.writing.WrittenRecords.put_rows.Given as goal

abbrev pub invariant-loop-row : goal.invariant-loop-row
invariant-loop-row l = record {
  text : text_in l.self.writer ≡ text_in l.initial.self.writer ++ text_of (map (row_record l.name) (take l.row-index l.rows));
  ready : IsReady l.self.writer;
  rows : AreWritableRows (take l.row-index l.rows);
}
