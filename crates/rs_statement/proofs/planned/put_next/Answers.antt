use Rattle.std.proofs.Common.{◌∙◌, ◌^◌, ◌≤◌, [], suc, refl, subst}
use Rattle.std.specs.Prelude.{None, Ok, Err}
use Rattle.rs_value.proofs.ResultFacts.{given-err}
use Rattle.rs_exec.specs.Asking.{world_of}
use Rattle.rs_exec.specs.Cursors.{asks_after, asks_of, call_of, plan_of}
use Rattle.rs_exec.specs.declared.fault.ExecFault.TheVariants as exec
use Rattle.rs_statement.specs.Parts.Asks.{IsAt}
use Rattle.rs_events.specs.Run.{lines_run}
use Rattle.rs_statement.specs.Planned.{ask_fault, ask_outcome, given_lines}
use Rattle.rs_statement.proofs.CursorSteps.{Stepped-row, ended-call, given-call, over-call, probes-call}
use Rattle.rs_events.proofs.InquirySteps.{Stepped-asked, Stepped-unasked}
use Rattle.rs_statement.proofs.NamedFacts.{names-call}
use Rattle.rs_events.proofs.RanFacts.{HasDone-none, Ran-all}
use Rattle.rs_statement.proofs.planned.put_next.Goals as goal

pub next-requires : goal.next-requires
next-requires g c = rw c.scorer.ensures.value (λ sound. c.requires.stands)

pub rank_of-requires : goal.rank_of-requires
rank_of-requires g c = (c.args.catalog.now, (g.W.Scorer.Scorer.state c.scorer.result.now).answer, c.in-Ok-Some.ensures.stands)

pub ask_fault-requires : goal.ask_fault-requires
ask_fault-requires g c =
    let old = g.W.Host.state c.args.host.now in
    names-call c.args.catalog.now old.scorer.answer c.args.cursor.now c.in-Err.why old.scorer (g.W.Scorer.Scorer.state c.next.new.scorer)
    c.requires.stands (rw c.scorer.ensures.value at c.in-Err.ensures.asks)

pub returns-in-Err : goal.returns-in-Err
returns-in-Err g c =
    let old = g.W.Host.state c.args.host.now in record {
      puts = rw g.met.W.Host.after_scorer (Stepped-unasked (given_lines (suc (asks_of c.args.cursor.now))) (ask_outcome c.args.catalog.now) exec.Memory
          (call_of c.args.catalog.now old.scorer.answer c.args.cursor.now) c.args.catalog.now old (g.W.Scorer.Scorer.state c.next.new.scorer)
          (ask_fault c.args.catalog.now) c.in-Err.why c.ask_fault.result refl refl refl
          (probes-call c.args.catalog.now old.scorer.answer c.args.cursor.now) (rw c.scorer.ensures.value at c.in-Err.ensures.asks) c.ask_fault.ensures);
      more = λ e. absurd cc;
      count = tt;
      over = λ e. absurd cc;
      stands = tt;
      left = λ e. absurd cc;
      rank = λ e. absurd cc;
      end = λ e. absurd cc;
    }

pub returns-in-Ok-None : goal.returns-in-Ok-None
returns-in-Ok-None g c =
    let catalogue = c.args.catalog.now in
    let old = g.W.Host.state c.args.host.now in
    let scorer = g.W.Scorer.Scorer.state c.next.new.scorer in
    let asks = rw (c.in-Ok-None.field-0-is, c.scorer.ensures.value) at c.in-Ok-None.ensures.asks in
    let stands = rw c.scorer.ensures.value at c.in-Ok-None.ensures.stands in
    let at : IsAt c.args.cursor.now.query (plan_of c.args.cursor.now)
    (asks_after (world_of catalogue old.scorer.answer c.args.cursor.now.query) (plan_of c.args.cursor.now) (asks_of c.args.cursor.now)) c.next.new.self =
    record { query_is = c.next.ensures.query; plan_is = c.in-Ok-None.ensures.plan; asks_are = rw c.scorer.ensures.value at c.in-Ok-None.ensures.count } in record {
      puts = rw g.met.W.Host.after_scorer (Stepped-asked (given_lines (suc (asks_of c.args.cursor.now))) (ask_outcome catalogue) exec.Memory
          (call_of catalogue old.scorer.answer c.args.cursor.now) catalogue old scorer None (Ok tt) (record old { scorer = scorer }) refl asks
          (Ran-all (lines_run []) (Ok tt) _ _ (HasDone-none (record old { scorer = scorer })) refl));
      more = λ e. absurd cc;
      count = at;
      over = λ e. over-call catalogue old.scorer.answer c.args.cursor.now c.requires.stands c.next.new.self old.scorer scorer asks at stands;
      stands = stands;
      left = λ e. absurd cc;
      rank = λ e. absurd cc;
      end = λ e. ended-call catalogue old.scorer.answer c.args.cursor.now c.requires.stands old.scorer scorer asks;
    }

pub returns-in_err-put_row-in-Ok-Some : goal.returns-in_err-put_row-in-Ok-Some
returns-in_err-put_row-in-Ok-Some g c =
    let catalogue = c.args.catalog.now in
    let old = g.W.Host.state c.args.host.now in
    let cursor = c.args.cursor.now in
    let scorer = g.W.Scorer.Scorer.state c.next.new.scorer in
    let asks = rw (c.in-Ok-Some.field-0-is, c.scorer.ensures.value) at c.in-Ok-Some.ensures.asks in
    let given = given-call catalogue old.scorer.answer cursor c.requires.stands c.in-Ok-Some.row c.next.new.self old.scorer scorer
    asks c.next.ensures.query c.in-Ok-Some.ensures.plan (rw c.scorer.ensures.value at c.in-Ok-Some.ensures.count) in
    rw (given-err c.from_residual.result c.in_err-put_row-in-Ok-Some.field-0.0 c.from_residual.ensures) (record {
      puts = rw (g.met.W.Host.after_out, g.met.W.Host.after_scorer) (
          Stepped-row catalogue old.scorer.answer cursor c.in-Ok-Some.row c.rank_of.result (Err c.in_err-put_row-in-Ok-Some.field-0.0) old _ scorer
          (c.rank_of.ensures.rank catalogue old.scorer.answer (rw c.scorer.ensures.value at c.in-Ok-Some.ensures.stands) ∙ given.rank) asks
          (rw (c.out.ensures.value, g.met.W.Host.after_scorer) at c.in_err-put_row-in-Ok-Some.ensures (record old { scorer = scorer })));
      more = λ e. absurd cc;
      count = tt;
      over = λ e. absurd cc;
      stands = tt;
      left = λ e. absurd cc;
      rank = λ e. absurd cc;
      end = λ e. absurd cc;
    })

pub returns-in_ok-put_row-in-Ok-Some : goal.returns-in_ok-put_row-in-Ok-Some
returns-in_ok-put_row-in-Ok-Some g c =
    let catalogue = c.args.catalog.now in
    let old = g.W.Host.state c.args.host.now in
    let cursor = c.args.cursor.now in
    let scorer = g.W.Scorer.Scorer.state c.next.new.scorer in
    let asks = rw (c.in-Ok-Some.field-0-is, c.scorer.ensures.value) at c.in-Ok-Some.ensures.asks in
    let asked = rw c.scorer.ensures.value at c.in-Ok-Some.ensures.count in
    let stands = rw c.scorer.ensures.value at c.in-Ok-Some.ensures.stands in
    let given = given-call catalogue old.scorer.answer cursor c.requires.stands c.in-Ok-Some.row c.next.new.self old.scorer scorer
    asks c.next.ensures.query c.in-Ok-Some.ensures.plan asked in record {
      puts = rw (g.met.W.Host.after_out, g.met.W.Host.after_scorer) (
          Stepped-row catalogue old.scorer.answer cursor c.in-Ok-Some.row c.rank_of.result (Ok tt) old _ scorer
          (c.rank_of.ensures.rank catalogue old.scorer.answer stands ∙ given.rank) asks
          (rw (c.out.ensures.value, g.met.W.Host.after_scorer) at c.in_ok-put_row-in-Ok-Some.ensures (record old { scorer = scorer })));
      more = λ e. given.at;
      count = record { query_is = c.next.ensures.query; plan_is = c.in-Ok-Some.ensures.plan; asks_are = asked };
      over = λ e. absurd cc;
      stands = stands;
      left = λ e. given.left;
      rank = λ e. subst (λ n. n ≤ 2 ^ 103) (c.rank_of.ensures.rank catalogue old.scorer.answer stands ∙ given.rank) c.rank_of.ensures.limit;
      end = λ e. absurd cc;
    }
