use Rattle.std.proofs.Common.{[], ap, arith, refl, subst, sym}
use Rattle.std.specs.Prelude.{Err, Ok}
use Rattle.rs_value.proofs.ResultFacts.{given-err}
use Rattle.rs_plain.specs.Plain.{evaluation_of, plain_faults}
use Rattle.rs_plain.specs.declared.fault.PlainFault.TheVariants as plain
use Rattle.rs_query.specs.Views.{all_rows}
use Rattle.rs_syntax.specs.Syntax.{query_of}
use Rattle.rs_statement.specs.Parts.Session.{CanAllBeAsked, CanBeAsked, state_of}
use Rattle.rs_events.specs.Run.{lines_run}
use Rattle.rs_statement.specs.Session.{Ready, declared_query, opened_step, ready_outcome, with_cursor}
use Rattle.rs_statement.specs.Statements.{query_fault}
use Rattle.rs_statement.specs.declared.evaluating.Evaluating.TheVariants.{Plainly}
use Rattle.rs_statement.specs.declared.fault.Fault.TheVariants.{Memory}
use Rattle.rs_statement.specs.declared.session.CursorRows.TheVariants as held
use Rattle.rs_events.proofs.InquirySteps.{Stepped-asked, Stepped-unasked}
use Rattle.rs_statement.proofs.QuerySteps.{Probes-questions}
use Rattle.rs_events.proofs.RanFacts.{HasDone-none, Ran-all, Ran-first}
use Rattle.rs_statement.proofs.EntryFacts.{each-last}
use Rattle.rs_statement.proofs.SessionSteps.{Stepped-left, opened-ready}
use Rattle.rs_statement.proofs.StepFacts.{Stepped-bound, Stepped-refused}
use Rattle.rs_statement.proofs.session.declare_ready.Goals as goal

pub query_fault-requires : goal.query_fault-requires
query_fault-requires g c = (c.in_ok-query.query, c.in-Err.ensures.names)

pub returns-in_err-query : goal.returns-in_err-query
returns-in_err-query g c =
    let answer = (g.S.Scorer.state c.args.scorer.now).answer in
    let state = state_of c.args.catalog.now c.args.session.now.cursors.held.entries in
    rw (given-err c.from_residual.result c.in_err-query.field-0.0 c.from_residual.ensures) (record {
      opens = λ beside. Stepped-refused (opened_step Plainly answer c.args.name.now.text state) (declared_query state c.args.name.now (query_of c.args.select.now)) c.in_err-query.field-0.0 state
          (record beside { scorer = g.S.Scorer.state c.args.scorer.now }) c.in_err-query.ensures.gives;
      asked = tt;
    })

pub returns-in-Err : goal.returns-in-Err
returns-in-Err g c =
    let answer = (g.S.Scorer.state c.args.scorer.now).answer in
    let catalogue = c.args.catalog.now in
    let state = state_of catalogue c.args.session.now.cursors.held.entries in
    let name = c.args.name.now in
    let query = c.in_ok-query.query in record {
      opens = λ beside.
          let old = record beside { scorer = g.S.Scorer.state c.args.scorer.now } in
          let new = record beside { scorer = g.S.Scorer.state c.answer_plainly-answered.new.scorer } in
          Stepped-bound (opened_step Plainly answer name.text state) (declared_query state name (query_of c.args.select.now)) query state (Err c.query_fault.result) old new c.in_ok-query.ensures.gives
          (Stepped-unasked (λ rows. []) (ready_outcome name.text state) plain.Memory (evaluation_of answer catalogue query (all_rows catalogue query)) state old
          (g.S.Scorer.state c.answer_plainly-answered.new.scorer) (query_fault catalogue) c.in-Err.why c.query_fault.result refl refl refl
          (Probes-questions plain_faults (query_fault catalogue) catalogue (λ number. refl) _) c.in-Err.ensures.evaluates c.query_fault.ensures);
      asked = tt;
    }

pub returns-in_err-add : goal.returns-in_err-add
returns-in_err-add g c =
    let answer = (g.S.Scorer.state c.args.scorer.now).answer in
    let catalogue = c.args.catalog.now in
    let state = state_of catalogue c.args.session.now.cursors.held.entries in
    let name = c.args.name.now in
    let query = c.in_ok-query.query in
    let rows = c.in-Ok.rows.items in
    let opened = with_cursor name.text (Ready rows) state in
    rw (given-err c.from_residual-in_err-add.result Memory c.from_residual-in_err-add.ensures) (record {
      opens = λ beside.
          let old = record beside { scorer = g.S.Scorer.state c.args.scorer.now } in
          let new = record beside { scorer = g.S.Scorer.state c.answer_plainly-answered.new.scorer } in
          Stepped-bound (opened_step Plainly answer name.text state) (declared_query state name (query_of c.args.select.now)) query (state_of catalogue c.add.new.self.held.entries) (Err Memory)
          old new c.in_ok-query.ensures.gives
          (Stepped-left _ opened (state_of catalogue c.add.new.self.held.entries) (Err Memory) old new tt
          (Stepped-asked (λ rows. []) (ready_outcome name.text state) plain.Memory (evaluation_of answer catalogue query (all_rows catalogue query)) opened old
          (g.S.Scorer.state c.answer_plainly-answered.new.scorer) rows (Err Memory) new refl c.in-Ok.ensures.evaluates (Ran-first (lines_run []) new)));
      asked = tt;
    })

pub returns : goal.returns
returns g c =
    let answer = (g.S.Scorer.state c.args.scorer.now).answer in
    let catalogue = c.args.catalog.now in
    let entries = c.args.session.now.cursors.held.entries in
    let state = state_of catalogue entries in
    let name = c.args.name.now in
    let query = c.in_ok-query.query in
    let kept = held.Ready c.in-Ok.rows 0 in
    let left = c.add.new.self.held.entries in
    let opened = c.in_ok-add.ensures.ok in record {
      opens = λ beside.
          let old = record beside { scorer = g.S.Scorer.state c.args.scorer.now } in
          let new = record beside { scorer = g.S.Scorer.state c.answer_plainly-answered.new.scorer } in
          Stepped-bound (opened_step Plainly answer name.text state) (declared_query state name (query_of c.args.select.now)) query (state_of catalogue left) (Ok tt) old new c.in_ok-query.ensures.gives
          (Stepped-asked (λ rows. []) (ready_outcome name.text state) plain.Memory (evaluation_of answer catalogue query (all_rows catalogue query)) (state_of catalogue left) old
          (g.S.Scorer.state c.answer_plainly-answered.new.scorer) c.in-Ok.rows.items (Ok tt) new (ap Ok (opened-ready catalogue entries left name.text kept opened refl)) c.in-Ok.ensures.evaluates
          (Ran-all (lines_run []) (Ok tt) new new (HasDone-none new) refl));
      asked = subst (CanAllBeAsked answer catalogue) (sym opened) (each-last (CanBeAsked answer catalogue) entries name.text kept c.requires.asked (omega arith));
    }
