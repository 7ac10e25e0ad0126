use Rattle.std.proofs.Common.{ℕ, List, subst, sym}
use Rattle.std.specs.Prelude.{Err, Ok}
use Rattle.rs_value.proofs.ResultFacts.{given-err}
use Rattle.rs_syntax.specs.Syntax.{query_of}
use Rattle.rs_catalog.specs.Catalog.{CatalogDef}
use Rattle.rs_catalog.specs.Snapshot.{HaveRows, sizes_in, snapshot}
use Rattle.rs_catalog.proofs.SnapshotFacts.{HaveRows-all, snapshot-all}
use Rattle.rs_exec.specs.Cursors.{StandsFor}
use Rattle.rs_statement.specs.Parts.Session.{CanAllBeAsked, CanBeAsked, state_of}
use Rattle.rs_statement.specs.Planned.{plan_for}
use Rattle.rs_statement.specs.Sampled.{sample_step}
use Rattle.rs_events.specs.Sequence.{still}
use Rattle.rs_statement.specs.Session.{ByPlan, declared_query, opened_step, with_cursor}
use Rattle.rs_statement.specs.declared.evaluating.Evaluating.TheVariants.{Planned}
use Rattle.rs_statement.specs.declared.fault.Fault.TheVariants.{Memory}
use Rattle.rs_statement.specs.declared.session.CursorRows.TheVariants as held
use Rattle.rs_statement.proofs.EntryFacts.{each-last}
use Rattle.rs_statement.proofs.SessionSteps.{Opened-cut, Opened-planned, opened-planned}
use Rattle.rs_events.proofs.SoFar.{Stepped-broken}
use Rattle.rs_statement.proofs.StepFacts.{Stepped-bound, Stepped-refused}
use Rattle.rs_statement.proofs.session.declare_planned.Goals as goal

pub returns-in_err-query : goal.returns-in_err-query
returns-in_err-query g c =
    let answer = (g.S.Scorer.state c.args.scorer.now).answer in
    let state = state_of c.args.catalog.now c.args.session.now.cursors.held.entries in
    rw (given-err c.from_residual.result c.in_err-query.field-0.0 c.from_residual.ensures) (record {
      opens = λ beside. Stepped-refused (opened_step (Planned c.args.sampling) answer c.args.name.now.text state) (declared_query state c.args.name.now (query_of c.args.select.now)) c.in_err-query.field-0.0
          state (record beside { scorer = g.S.Scorer.state c.args.scorer.now }) c.in_err-query.ensures.gives;
      asked = tt;
    })

pub start_planned-requires : goal.start_planned-requires
start_planned-requires g c = record { formed = c.in_ok-query.ensures.formed; tops = c.in_ok-query.ensures.tops; held = c.requires.held }

pub returns-in_err-cursor : goal.returns-in_err-cursor
returns-in_err-cursor g c =
    let answer = (g.S.Scorer.state c.args.scorer.now).answer in
    let catalogue = c.args.catalog.now in
    let state = state_of catalogue c.args.session.now.cursors.held.entries in
    let name = c.args.name.now in
    let query = c.in_ok-query.query in
    rw (given-err c.from_residual-in_err-cursor.result c.in_err-cursor.field-0.0 c.from_residual-in_err-cursor.ensures) (record {
      opens = λ beside.
          let old = record beside { scorer = g.S.Scorer.state c.args.scorer.now } in
          let new = record beside { scorer = g.S.Scorer.state c.start_planned.new.scorer } in
          Stepped-bound (opened_step (Planned c.args.sampling) answer name.text state) (declared_query state name (query_of c.args.select.now)) query state (Err c.in_err-cursor.field-0.0) old new
          c.in_ok-query.ensures.gives
          (Stepped-broken (sample_step catalogue c.args.sampling query) (still (Ok (with_cursor name.text (ByPlan query (plan_for answer catalogue c.args.sampling query) (sizes_in catalogue)) state))) c.in_err-cursor.field-0.0
          catalogue state old new (c.in_err-cursor.ensures.calls beside));
      asked = tt;
    })

-- the sample was taken, and then there was no memory for the sizes of the tables, or for the name
pub returns-in-Err : goal.returns-in-Err
returns-in-Err g c =
    let answer = (g.S.Scorer.state c.args.scorer.now).answer in
    let catalogue = c.args.catalog.now in
    let state = state_of catalogue c.args.session.now.cursors.held.entries in record {
      opens = λ beside. Opened-cut answer c.args.sampling c.args.name.now state (query_of c.args.select.now) c.in_ok-query.query state
          (record beside { scorer = g.S.Scorer.state c.args.scorer.now }) (record beside { scorer = g.S.Scorer.state c.start_planned.new.scorer }) c.in_ok-query.ensures.gives
          (c.in_ok-cursor.ensures.calls beside);
      asked = tt;
    }

pub returns-in_err-add-in-Ok : goal.returns-in_err-add-in-Ok
returns-in_err-add-in-Ok g c =
    let answer = (g.S.Scorer.state c.args.scorer.now).answer in
    let catalogue = c.args.catalog.now in
    let state = state_of catalogue c.args.session.now.cursors.held.entries in
    rw (given-err c.from_residual-in_err-add-in-Ok.result Memory c.from_residual-in_err-add-in-Ok.ensures) (record {
      opens = λ beside. Opened-cut answer c.args.sampling c.args.name.now state (query_of c.args.select.now) c.in_ok-query.query (state_of catalogue c.add.new.self.held.entries)
          (record beside { scorer = g.S.Scorer.state c.args.scorer.now }) (record beside { scorer = g.S.Scorer.state c.start_planned.new.scorer }) c.in_ok-query.ensures.gives
          (c.in_ok-cursor.ensures.calls beside);
      asked = tt;
    })

pub returns : goal.returns
returns g c =
    let answer = (g.S.Scorer.state c.args.scorer.now).answer in
    let catalogue = c.args.catalog.now in
    let entries = c.args.session.now.cursors.held.entries in
    let state = state_of catalogue entries in
    let name = c.args.name.now in
    let query = c.in_ok-query.query in
    let cursor = c.in_ok-cursor.cursor in
    let left = c.add.new.self.held.entries in
    let sizes = c.in-Ok.sizes in
    let sizes_are = c.in-Ok.ensures in
    let at = c.in_ok-cursor.ensures.starts in
    let opened = c.in_ok-add-in-Ok.ensures.ok in record {
      opens = λ beside. Opened-planned answer c.args.sampling name state (query_of c.args.select.now) query (state_of catalogue left)
          (record beside { scorer = g.S.Scorer.state c.args.scorer.now }) (record beside { scorer = g.S.Scorer.state c.start_planned.new.scorer }) c.in_ok-query.ensures.gives
          (c.in_ok-cursor.ensures.calls beside)
          (opened-planned catalogue entries left name.text (held.Asked cursor sizes) query (plan_for answer catalogue c.args.sampling query) (sizes_in catalogue) opened
          (λ i. ByPlan (at.query_is i) (at.plan_is i) (sizes_are i)) at.asks_are);
      asked = subst (CanAllBeAsked answer catalogue) (sym opened)
          (each-last (CanBeAsked answer catalogue) entries name.text (held.Asked cursor sizes) c.requires.asked (
            subst (λ (s : List ℕ). HaveRows s catalogue.tables) (sym sizes_are) (HaveRows-all catalogue.tables),
            subst (λ (s : List ℕ). StandsFor (snapshot s catalogue) answer cursor) (sym sizes_are)
                (subst (λ (seen : CatalogDef). StandsFor seen answer cursor) (sym (snapshot-all answer catalogue c.requires.held)) c.in_ok-cursor.ensures.stands),
          ));
    }
