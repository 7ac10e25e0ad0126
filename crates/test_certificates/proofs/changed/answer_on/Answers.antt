use Rattle.std.proofs.Common.{arith}
use Rattle.rs_lines.proofs.RecordsFacts.{few-records}
use Rattle.test_certificates.proofs.changed.answer_on.Goals as goal

pub read_cert-requires : goal.read_cert-requires
read_cert-requires c = omega (arith, few-records c.args.bytes.now)
