use Rattle.rs_cert.proofs.CertFacts.{one-cert, reads-it}
use Rattle.rs_cert.proofs.laws.records_are_of_one_certificate.Goals as goal

pub returns-clause-one : goal.returns-clause-one
returns-clause-one c = λ a b records h k. one-cert a b records h k

pub returns-clause-read : goal.returns-clause-read
returns-clause-read c = λ cert records result are read. reads-it cert records result are read
