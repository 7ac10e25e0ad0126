use Rattle.rs_lines.specs.Records.{records_of}
use Rattle.rs_cert.proofs.CertFacts.{read-from}
use Rattle.rs_cert.proofs.reading.read_cert.Goals as goal

pub returns : goal.returns
returns c = read-from (records_of c.args.bytes.now) c.read_records.result c.read_records.ensures
