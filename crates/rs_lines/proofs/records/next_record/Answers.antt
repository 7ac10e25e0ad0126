use Rattle.std.proofs.Common.{inl}
use Rattle.csv.specs.Records.{fields_of}
use Rattle.rs_lines.proofs.RecordsFacts.{read-one}
use Rattle.rs_lines.proofs.records.next_record.Goals as goal

pub returns-clause-found : goal.returns-clause-found
returns-clause-found c =
    let e = c.in-Ok.ensures in
    (read-one c.in-Ok.found c.args.reader.now c.read_byte_record.new.self (fields_of c.read_byte_record.new.row) c.requires (inl (e.ready c.requires.untrimmed)) e.flexible (e.reads c.requires.untrimmed c.requires.ready)).first

pub returns-clause-reading : goal.returns-clause-reading
returns-clause-reading c =
    let e = c.in-Ok.ensures in
    (read-one c.in-Ok.found c.args.reader.now c.read_byte_record.new.self (fields_of c.read_byte_record.new.row) c.requires (inl (e.ready c.requires.untrimmed)) e.flexible (e.reads c.requires.untrimmed c.requires.ready)).reading
