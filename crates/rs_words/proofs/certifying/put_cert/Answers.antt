use Rattle.std.proofs.Common.{List, ℕ, [], ◌∷◌, subst, sym}
use Rattle.rs_value.proofs.ResultFacts.{given-err}
use Rattle.rs_events.specs.Run.{lines_run}
use Rattle.rs_events.specs.Running.{Ran}
use Rattle.rs_words.specs.Certifying.{bytes_run, joined_bytes}
use Rattle.rs_words.specs.Faults.{put_faults}
use Rattle.rs_words.proofs.CertifyFacts.{bytes-fault, draws-of-put, some-environment}
use Rattle.rs_words.proofs.certifying.put_cert.Goals as goal

pub returns-in_err-bytes-clause-puts : goal.returns-in_err-bytes-clause-puts
returns-in_err-bytes-clause-puts g c = λ beside.
    let fault = c.in_err-bytes.field-0.0 in
    rw (given-err c.from_residual.result fault c.from_residual.ensures)
    (bytes-fault (joined_bytes c.args.left.now.rows c.args.right.now.rows c.args.count) fault (record beside { out = g.O.Sink.state c.args.out.now }) c.in_err-bytes.ensures.bytes)

pub returns-clause-puts : goal.returns-clause-puts
returns-clause-puts g c = λ beside.
    let old = record beside { out = g.O.Sink.state c.args.out.now } in
    let new = record beside { out = g.O.Sink.state c.put_text.new.out } in
    subst (λ bytes. Ran put_faults (bytes_run bytes) c.put_text.result old new) (sym c.in_ok-bytes.ensures.bytes)
    (subst (λ (bytes : List ℕ). Ran put_faults (lines_run (bytes ∷ [])) c.put_text.result old new) c.deref.ensures.value (c.put_text.ensures beside))

pub returns-clause-draws : goal.returns-clause-draws
returns-clause-draws g c =
    draws-of-put c.args.left.now.rows c.args.right.now.rows c.args.count c.cert_bytes.new.left c.cert_bytes.new.right c.in_ok-bytes.ensures.draws (c.deref.result.now ∷ []) c.put_text.result
    (record some-environment { out = g.O.Sink.state c.args.out.now }) (record some-environment { out = g.O.Sink.state c.put_text.new.out }) (c.put_text.ensures some-environment)
