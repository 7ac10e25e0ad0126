use Rattle.std.proofs.Common.{◌∙◌, List, ℕ, [], ◌∷◌, subst, sym}
use Rattle.rs_value.proofs.ResultFacts.{given-err}
use Rattle.rs_events.specs.Run.{lines_run}
use Rattle.rs_events.specs.Running.{Ran}
use Rattle.rs_events.proofs.RanFacts.{Ran-first}
use Rattle.rs_words.specs.declared.fault.PutFault.{PutFault}
use Rattle.rs_words.specs.declared.fault.PutFault.TheVariants.{Memory}
use Rattle.rs_words.specs.Putting.{pair_faults}
use Rattle.rs_words.specs.Lines.{draws_line}
use Rattle.rs_stream_word.proofs.putting.put_draws.Goals as goal

pub returns-in_err-line : goal.returns-in_err-line
returns-in_err-line g c = λ beside.
    let run = lines_run {F = PutFault} (draws_line c.args.left c.args.right ∷ []) in
    let at = record beside { out = g.O.Sink.state c.args.out.now } in
    subst (λ result. Ran pair_faults run result at at) (sym (given-err c.from_residual.result Memory c.from_residual.ensures)) (Ran-first run at)

pub returns : goal.returns
returns g c = λ beside.
    subst (λ (line : List ℕ). Ran pair_faults (lines_run (line ∷ [])) c.put_text.result (record beside { out = g.O.Sink.state c.args.out.now }) (record beside { out = g.O.Sink.state c.put_text.new.out }))
    (c.as_bytes.ensures.value ∙ c.in_ok-line.ensures) (c.put_text.ensures beside)
