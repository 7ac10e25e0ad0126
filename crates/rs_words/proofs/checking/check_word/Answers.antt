use Rattle.std.proofs.Common.{List, ℕ, subst}
use Rattle.rs_value.proofs.ResultFacts.{given-err}
use Rattle.rs_events.specs.Running.{Runs}
use Rattle.rs_words.specs.Checking.{IsCheckedRun}
use Rattle.rs_words.specs.Faults.{put_faults}
use Rattle.rs_words.proofs.CheckedFacts.{Ran-checked, Ran-unread}
use Rattle.rs_words.proofs.checking.check_word.Goals as goal

pub returns-in_err-bytes : goal.returns-in_err-bytes
returns-in_err-bytes g c = λ beside.
    rw (given-err c.from_residual.result c.in_err-bytes.field-0.0 c.from_residual.ensures) (Ran-unread c.args.file.now
    (record beside { files = g.F.Files.state c.args.files.now; out = g.O.Sink.state c.args.out.now }) (g.F.Files.state c.fetch_bytes.new.files) c.in_err-bytes.field-0.0 c.in_err-bytes.ensures.fetches)

pub returns : goal.returns
returns g c = λ beside.
    let files = g.F.Files.state c.fetch_bytes.new.files in
    let new = record beside { files = files; out = g.O.Sink.state c.put_check.new.out } in
    Ran-checked c.args.file.now (record beside { files = g.F.Files.state c.args.files.now; out = g.O.Sink.state c.args.out.now }) files c.in_ok-bytes.bytes c.put_check.result new c.in_ok-bytes.ensures.fetches
    (subst (λ (bytes : List ℕ). Runs put_faults (IsCheckedRun bytes) c.put_check.result (record beside { files = files; out = g.O.Sink.state c.args.out.now }) new) c.deref.ensures.value
    (c.put_check.ensures (record beside { files = files })))
