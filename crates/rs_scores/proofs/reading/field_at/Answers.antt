use Rattle.csv.specs.Records.{fields_of}
use Rattle.rs_table.proofs.FieldFacts.{IsSome-field_at, now-field_at}
use Rattle.rs_scores.proofs.reading.field_at.Goals as goal

pub unwrap-requires : goal.unwrap-requires
unwrap-requires c = IsSome-field_at (fields_of c.args.row.now) c.args.place _ c.requires c.get.ensures.value

pub returns : goal.returns
returns c = now-field_at (fields_of c.args.row.now) c.args.place _ _ c.unwrap.ensures c.get.ensures.value
