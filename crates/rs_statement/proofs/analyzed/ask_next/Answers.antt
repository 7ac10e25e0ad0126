use Rattle.std.proofs.Common.{◌≡◌, [], refl, suc, subst, sym}
use Rattle.std.specs.Prelude.{Ok, Err}
use Rattle.rs_exec.specs.Cursors.{asks_of, call_of}
use Rattle.rs_exec.specs.declared.fault.ExecFault.TheVariants as exec
use Rattle.rs_statement.specs.Parts.Steps.{Stepped}
use Rattle.rs_events.specs.Run.{lines_run}
use Rattle.rs_statement.specs.Planned.{ask_fault, ask_outcome, given_lines}
use Rattle.rs_statement.proofs.AnalyzeSteps.{silent-inquiry}
use Rattle.rs_statement.proofs.CursorSteps.{answered, probes-call}
use Rattle.rs_events.proofs.InquirySteps.{Stepped-asked, Stepped-unasked}
use Rattle.rs_statement.proofs.NamedFacts.{names-call}
use Rattle.rs_events.proofs.RanFacts.{HasDone-none, Ran-all}
use Rattle.rs_statement.proofs.analyzed.ask_next.Goals as goal

pub ask_fault-requires : goal.ask_fault-requires
ask_fault-requires g c =
    names-call c.args.catalog.now (g.S.Scorer.state c.args.scorer.now).answer c.args.cursor.now c.in-Err.why (g.S.Scorer.state c.args.scorer.now) (g.S.Scorer.state c.next.new.scorer)
    c.requires c.in-Err.ensures.asks

pub returns-in-Err : goal.returns-in-Err
returns-in-Err g c =
    let catalogue = c.args.catalog.now in
    let answer = (g.S.Scorer.state c.args.scorer.now).answer in
    let call = call_of catalogue answer c.args.cursor.now in record {
      asks = λ beside.
          let old = record beside { scorer = g.S.Scorer.state c.args.scorer.now } in
          subst (λ whole. Stepped (λ step. step ≡ whole) catalogue (Err c.ask_fault.result) old (record beside { scorer = g.S.Scorer.state c.next.new.scorer }))
          (sym (silent-inquiry (given_lines (suc (asks_of c.args.cursor.now))) (ask_outcome catalogue) call))
          (Stepped-unasked (λ r. []) (ask_outcome catalogue) exec.Memory call catalogue old (g.S.Scorer.state c.next.new.scorer)
          (ask_fault catalogue) c.in-Err.why c.ask_fault.result refl refl refl (probes-call catalogue answer c.args.cursor.now) c.in-Err.ensures.asks c.ask_fault.ensures);
      next = tt;
    }

pub returns-in-Ok : goal.returns-in-Ok
returns-in-Ok g c =
    let catalogue = c.args.catalog.now in
    let answer = (g.S.Scorer.state c.args.scorer.now).answer in
    let call = call_of catalogue answer c.args.cursor.now in
    let given = answered catalogue answer c.args.cursor.now c.requires c.in-Ok.row c.is_some.result (g.S.Scorer.state c.args.scorer.now) (g.S.Scorer.state c.next.new.scorer)
    c.is_some.ensures c.in-Ok.ensures.asks in record {
      asks = λ beside.
          let old = record beside { scorer = g.S.Scorer.state c.args.scorer.now } in
          let new = record beside { scorer = g.S.Scorer.state c.next.new.scorer } in
          subst (λ whole. Stepped (λ step. step ≡ whole) catalogue (Ok tt) old new) (sym (silent-inquiry (given_lines (suc (asks_of c.args.cursor.now))) (ask_outcome catalogue) call))
          (Stepped-asked (λ r. []) (ask_outcome catalogue) exec.Memory call catalogue old (g.S.Scorer.state c.next.new.scorer) c.in-Ok.row (Ok tt) new refl c.in-Ok.ensures.asks
          (Ran-all (lines_run []) (Ok tt) new new (HasDone-none new) refl));
      next = record {
        stands = c.in-Ok.ensures.stands;
        at = record { query_is = c.next.ensures.query; plan_is = c.in-Ok.ensures.plan; asks_are = c.in-Ok.ensures.count };
        before = given.before;
        ended = given.ended;
      };
    }
