use Rattle.std.proofs.Common.{arith}
use Rattle.rs_value.proofs.ResultFacts.{given-err}
use Rattle.rs_words.specs.declared.fault.WordFault.TheVariants.{Memory}
use Rattle.rs_words.proofs.CheckedFacts.{Ran-no_cert, Ran-no_verdict, Ran-verdict}
use Rattle.rs_words.proofs.checking.put_check.Goals as goal

pub returns-in_err-cert : goal.returns-in_err-cert
returns-in_err-cert g c = λ beside.
    rw (given-err c.from_residual.result c.in_err-cert.field-0.0 c.from_residual.ensures)
    (Ran-no_cert c.args.bytes.now (record beside { out = g.O.Sink.state c.args.out.now }) c.in_err-cert.field-0.0 c.in_err-cert.ensures)

pub check-requires-clause-left : goal.check-requires-clause-left
check-requires-clause-left g c = let few = c.in_ok-cert.ensures.few.left in omega (arith, few)

pub check-requires-clause-right : goal.check-requires-clause-right
check-requires-clause-right g c = let few = c.in_ok-cert.ensures.few.right in omega (arith, few)

pub returns-in_err-verdict : goal.returns-in_err-verdict
returns-in_err-verdict g c = λ beside.
    rw (given-err c.from_residual-in_err-verdict.result Memory c.from_residual-in_err-verdict.ensures)
    (Ran-no_verdict c.args.bytes.now (record beside { out = g.O.Sink.state c.args.out.now }))

pub returns : goal.returns
returns g c = λ beside.
    Ran-verdict c.args.bytes.now (record beside { out = g.O.Sink.state c.args.out.now }) c.in_ok-cert.cert c.in_ok-verdict.verdict c.put_verdict.result (record beside { out = g.O.Sink.state c.put_verdict.new.out })
    c.in_ok-cert.ensures c.in_ok-verdict.ensures (c.put_verdict.ensures beside)
