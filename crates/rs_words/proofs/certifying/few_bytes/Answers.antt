use Rattle.std.proofs.Common.{◌∙◌, Ok, length, sym, ap, inr}
use Rattle.rs_value.proofs.ResultFacts.{given-err}
use Rattle.rs_words.proofs.CertifyFacts.{bytes-both, bytes-left, bytes-right, few-fault, few-rows}
use Rattle.rs_words.proofs.certifying.few_bytes.Goals as goal

pub returns-in_err-require_few-clause-bytes : goal.returns-in_err-require_few-clause-bytes
returns-in_err-require_few-clause-bytes c =
    let fault = c.in_err-require_few.field-0.0 in
    rw (given-err c.from_residual.result fault c.from_residual.ensures) (inr (bytes-left c.args.cert.now fault c.in_err-require_few.ensures))

pub returns-in_err-require_few-clause-fault : goal.returns-in_err-require_few-clause-fault
returns-in_err-require_few-clause-fault c =
    let fault = c.in_err-require_few.field-0.0 in
    rw (given-err c.from_residual.result fault c.from_residual.ensures) (inr (1, few-fault 1 (length c.args.cert.now.left.rows) fault c.in_err-require_few.ensures))

pub returns-in_err-require_few-2-clause-bytes : goal.returns-in_err-require_few-2-clause-bytes
returns-in_err-require_few-2-clause-bytes c =
    let fault = c.in_err-require_few-2.field-0.0 in
    rw (given-err c.from_residual-in_err-require_few-2.result fault c.from_residual-in_err-require_few-2.ensures)
    (inr (bytes-right c.args.cert.now c.in_ok-require_few.ensures fault c.in_err-require_few-2.ensures))

pub returns-in_err-require_few-2-clause-fault : goal.returns-in_err-require_few-2-clause-fault
returns-in_err-require_few-2-clause-fault c =
    let fault = c.in_err-require_few-2.field-0.0 in
    rw (given-err c.from_residual-in_err-require_few-2.result fault c.from_residual-in_err-require_few-2.ensures) (inr (2, few-fault 2 (length c.args.cert.now.right.rows) fault c.in_err-require_few-2.ensures))

pub write-requires-clause-few : goal.write-requires-clause-few
write-requires-clause-few c = record {
  left = few-rows 1 (length c.args.cert.now.left.rows) c.in_ok-require_few.ensures;
  right = few-rows 2 (length c.args.cert.now.right.rows) c.in_ok-require_few-2.ensures;
}

pub returns-clause-bytes : goal.returns-clause-bytes
returns-clause-bytes c = bytes-both c.args.cert.now c.in_ok-require_few.ensures c.in_ok-require_few-2.ensures ∙ ap Ok (sym c.in_ok-write.ensures.bytes)
