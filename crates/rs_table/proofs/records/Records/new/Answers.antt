use Rattle.std.proofs.Common.{◌∙◌}
use Rattle.rs_table.proofs.RecordsFacts.{IsReading-new}
use Rattle.rs_table.proofs.records.Records.new.Goals as goal

pub invariant_of-result : goal.invariant_of-result
invariant_of-result c = λ _.
    let set = c.flexible.ensures in
    let named = c.has_headers.ensures in
    let made = c.from_reader-reader.ensures in
    IsReading-new c.from_reader-reader.result c.args.bytes.now
    (rw (set, named) at made.config ∙ c.new.ensures.config)
    (rw (set, named) at made.trim ∙ c.new.ensures.trim)
    (rw (set, named) at made.has_headers)
    made.headers
    (rw set at made.flexible)
    made.source c.requires
