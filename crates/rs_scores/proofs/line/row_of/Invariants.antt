use Rattle.std.proofs.Common.{◌≡◌, [], take}
use Rattle.csv.specs.Records.{fields_of, partial_of}
use Rattle.rs_scores.proofs.line.row_of.Given as goal

abbrev pub invariant-loop-field : goal.invariant-loop-field
invariant-loop-field l = record {
  fields : fields_of l.row ≡ take l.field-index l.fields;
  ended : partial_of l.row ≡ [];
}
