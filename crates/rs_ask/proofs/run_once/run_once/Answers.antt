use Rattle.std.proofs.Common.{◌≡◌, ◌∙◌, ap, refl, subst}
use Rattle.rs_ask.specs.PutRows.{NewRowsState, PutRowsState, rows_again, rows_state}
use Rattle.rs_ask.proofs.PassedFacts.{RunsWhole-put}
use Rattle.rs_ask.proofs.run_once.run_once.Goals as goal

pub returns-in-None-clause-ok : goal.returns-in-None-clause-ok
returns-in-None-clause-ok g c =
    let rows = c.rerun-pass.new.out.rows in
    let begins : c.new-new.result.rows ≡ rows_again c.args.rows.bytes = ap (λ (n : NewRowsState g.row.O.Denot). n.rows) c.new-new.ensures ∙ c.begin.ensures in
    rw c.into_parts-rows.ensures
    (RunsWhole-put g.R.Rerun.ran c.rerun-pass.result c.args.runs.now c.args.known.now c.rerun-pass.new.self g.B.Began.shown c.args.rows.bytes rows g.B.Began.out (g.O.Sink.state c.rerun-pass.new.out.out)
    c.in-None.ensures.of c.requires.shown (c.in-None.ensures.none refl)
    (subst (λ (first : PutRowsState). g.R.Rerun.ran c.args.runs.now c.args.known.now c.rerun-pass.result c.rerun-pass.new.self (rows_state first) (rows_state rows)) begins c.rerun-pass.ensures.ran))
