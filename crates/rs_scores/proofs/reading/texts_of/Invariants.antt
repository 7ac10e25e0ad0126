use Rattle.std.proofs.Common.{◌≡◌, ◌+◌, drop, take}
use Rattle.csv.specs.Records.{fields_of}
use Rattle.rs_scores.specs.Reading.{texts_from}
use Rattle.rs_table.specs.Appended.{appended}
use Rattle.rs_scores.proofs.reading.texts_of.Given as goal

abbrev pub invariant-loop-index : goal.invariant-loop-index
invariant-loop-index l = record {
  so_far : appended l.texts.items (texts_from l.number (l.index + 1) (drop l.index (fields_of l.row))) ≡ texts_from l.number 1 (fields_of l.row);
  same : l.texts.items ≡ take l.index (fields_of l.row);
}
