use Rattle.std.proofs.Common.{◌≡◌, ◌+◌, length}
use Rattle.rs_lines.specs.Records.{IsReading, records_left, records_of}
use Rattle.rs_scores.proofs.ReadingFacts.{SoFar}
use Rattle.rs_scores.proofs.reading.read_records.Given as goal

abbrev pub invariant-loop-row : goal.invariant-loop-row
invariant-loop-row l = record {
  reading : IsReading l.reader;
  counted : l.number + length (records_left l.reader) ≡ length (records_of l.bytes);
  so_far : SoFar l.initial.known.names l.number l.known (records_left l.reader) (records_of l.bytes);
}

abbrev pub decreases-loop-row : goal.decreases-loop-row
decreases-loop-row l = length (records_left l.reader)
