use Rattle.std.proofs.Common.{◌≡◌, ◌+◌, ◌||◌, ◌++◌, drop}
use Rattle.std.specs.List.{list_any}
use Rattle.std.specs.Str.{bytes_eq}
use Rattle.csv.specs.Records.{fields_of}
use Rattle.rs_table.specs.Column.{columns_with}
use Rattle.rs_table.specs.Reading.{first_not_utf8}
use Rattle.rs_table.proofs.HeaderFacts.{columns_left}
use Rattle.rs_table.proofs.schema.read_columns.Given as goal

abbrev pub invariant-loop-index : goal.invariant-loop-index
invariant-loop-index l = record {
  made : l.columns.items ++ columns_left l.found l.column (drop l.index (fields_of l.header)) ≡ columns_with l.column (fields_of l.header);
  any : (l.found || list_any (λ field. bytes_eq field l.column) (drop l.index (fields_of l.header))) ≡ list_any (λ field. bytes_eq field l.column) (fields_of l.header);
  utf8 : first_not_utf8 (l.index + 1) (drop l.index (fields_of l.header)) ≡ first_not_utf8 1 (fields_of l.header);
}
