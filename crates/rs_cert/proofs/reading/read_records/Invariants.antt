use Rattle.std.proofs.Common.{◌≡◌, ◌+◌, length}
use Rattle.rs_lines.specs.Records.{IsReading, records_left, records_of}
use Rattle.rs_cert.specs.Growing.{cert_of, with_records}
use Rattle.rs_cert.proofs.reading.read_records.Given as goal

abbrev pub invariant-loop-draft : goal.invariant-loop-draft
invariant-loop-draft l = record {
  reading : IsReading l.reader;
  so_far : with_records (l.place + 1) l.draft (records_left l.reader) ≡ cert_of (records_of l.bytes);
  count : l.place + length (records_left l.reader) ≡ length (records_of l.bytes);
}

abbrev pub decreases-loop-draft : goal.decreases-loop-draft
decreases-loop-draft l = length (records_left l.reader)
