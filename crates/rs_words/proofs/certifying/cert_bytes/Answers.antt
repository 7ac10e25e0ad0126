use Rattle.std.proofs.Common.{ℕ}
use Rattle.std.specs.declared.alloc.Global.{Global}
use Rattle.std.specs.declared.vec.Vec.{Vec}
use Rattle.rs_value.proofs.ResultFacts.{given-err}
use Rattle.rs_words.proofs.CertifyFacts.{bytes-of-cert, bytes-unjoined, draws-of-result}
use Rattle.rs_words.proofs.certifying.cert_bytes.Goals as goal

pub returns-in_err-cert-clause-bytes : goal.returns-in_err-cert-clause-bytes
returns-in_err-cert-clause-bytes c =
    let fault = c.in_err-cert.field-0.0 in
    rw (given-err c.from_residual.result fault c.from_residual.ensures)
    (bytes-unjoined c.args.left.now.rows c.args.right.now.rows c.args.count fault c.in_err-cert.ensures.cert)

pub returns-clause-bytes : goal.returns-clause-bytes
returns-clause-bytes c =
    bytes-of-cert (λ (bytes : Vec ℕ Global). bytes.items) c.args.left.now.rows c.args.right.now.rows c.args.count c.in_ok-cert.cert c.in_ok-cert.ensures.cert c.few_bytes.result c.few_bytes.ensures.bytes

pub returns-clause-draws : goal.returns-clause-draws
returns-clause-draws c =
    draws-of-result c.args.left.now.rows c.args.right.now.rows c.args.count c.cert_of_tables.new.left c.cert_of_tables.new.right c.in_ok-cert.ensures.draws (Vec ℕ Global) c.few_bytes.result c.few_bytes.ensures.fault
