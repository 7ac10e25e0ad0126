use Rattle.std.proofs.Common.{◌∙◌}
use Rattle.rs_lines.proofs.RecordsFacts.{IsReading-new}
use Rattle.rs_lines.proofs.records.reader_of.Goals as goal

pub returns-clause-reading : goal.returns-clause-reading
returns-clause-reading c =
    let set = c.flexible.ensures in
    let named = c.has_headers.ensures in
    let made = c.from_reader.ensures in
    IsReading-new c.from_reader.result c.args.bytes.now
    (rw (set, named) at made.config ∙ c.new.ensures.config)
    (rw (set, named) at made.trim ∙ c.new.ensures.trim)
    (rw (set, named) at made.has_headers)
    made.headers
    (rw set at made.flexible)
    made.source
