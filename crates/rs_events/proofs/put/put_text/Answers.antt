use Rattle.std.proofs.Common.{◌≡◌, [], ◌∷◌, subst, sym}
use Rattle.std.specs.Prelude.{Err}
use Rattle.rs_value.specs.Outside.{Counts}
use Rattle.rs_outside.specs.declared.sink.SinkFault.TheVariants.{Failed}
use Rattle.rs_events.specs.Run.{lines_run}
use Rattle.rs_events.specs.Running.{Ran}
use Rattle.rs_events.proofs.RanFacts.{Ran-put, Ran-unanswered}
use Rattle.rs_events.proofs.put.put_text.Goals as goal

pub returns-in-Ok : goal.returns-in-Ok
returns-in-Ok g c = λ beside.
    Ran-put g.T.HaltFault.faults (record beside { out = g.O.Sink.state c.args.out.now }) c.args.text.now (g.O.Sink.state c.put.new.self) c.in-Ok.ensures.puts c.put.ensures.counts.keeps

pub returns-in-Err : goal.returns-in-Err
returns-in-Err g c = λ beside.
    let old = g.O.Sink.state c.args.out.now in
    let new = g.O.Sink.state c.put.new.self in
    subst (λ fault. Ran g.T.HaltFault.faults (lines_run (c.args.text.now ∷ [])) (Err fault) (record beside { out = old }) (record beside { out = new })) (sym c.of_put.ensures)
    (Ran-unanswered g.T.HaltFault.faults (record beside { out = old }) c.args.text.now new c.in-Err.why c.in-Err.ensures.puts
    (subst (λ result. Counts (result ≡ Err Failed) old new) c.in-Err.is c.put.ensures.counts))
