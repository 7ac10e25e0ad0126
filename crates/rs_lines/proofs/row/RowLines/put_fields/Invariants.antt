use Rattle.std.proofs.Common.{◌≡◌, ◌∷◌, [], map, take}
use Rattle.std.specs.Fmt.{decimal}
use Rattle.csv.specs.Records.{fields_of, partial_of}
use Rattle.rs_value.specs.Value.{printed}
use Rattle.rs_lines.proofs.row.RowLines.put_fields.Given as goal

-- the fields so far, the last of them ended
abbrev pub invariant-loop-value : goal.invariant-loop-value
invariant-loop-value l = record {
  fields : fields_of l.self.row ≡ decimal l.fn.rank ∷ decimal l.fn.score ∷ map printed (take l.value-index l.values);
  ended : partial_of l.self.row ≡ [];
}
