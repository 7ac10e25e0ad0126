use Rattle.std.proofs.Common.{List, [], ap, refl, subst, sym}
use Rattle.std.specs.Prelude.{Err, Ok}
use Rattle.rs_value.proofs.ResultFacts.{given-err}
use Rattle.rs_plain.specs.Plain.{plain_faults}
use Rattle.rs_plain.specs.declared.fault.PlainFault.TheVariants as plain
use Rattle.rs_view.specs.Fresh.{making}
use Rattle.rs_view.specs.Views.{Stands}
use Rattle.rs_events.specs.Run.{lines_run}
use Rattle.rs_events.proofs.InquirySteps.{Stepped-asked, Stepped-unasked}
use Rattle.rs_events.proofs.RanFacts.{HasDone-none, Ran-all, Ran-first}
use Rattle.rs_statement.specs.declared.fault.Fault.TheVariants as fault
use Rattle.rs_statement.specs.Statements.{query_fault}
use Rattle.rs_statement.proofs.EntryFacts.{each-last}
use Rattle.rs_statement.proofs.QuerySteps.{Probes-questions}
use Rattle.rs_statement.proofs.SessionSteps.{Stepped-left}
use Rattle.rs_statement.proofs.StepFacts.{Stepped-bound, Stepped-refused}
use Rattle.rs_run.specs.Parts.Holding.{AllStand, kept_of, views_in}
use Rattle.rs_run.specs.Viewing.{HeldView, made_outcome, made_step, room_for_view, with_view}
use Rattle.rs_run.proofs.views.make_view.Goals as goal

pub query_fault-requires : goal.query_fault-requires
query_fault-requires g c = (c.args.query, c.in-Err-make.ensures.names)

-- the name can't be held
pub returns-in-Err : goal.returns-in-Err
returns-in-Err g c =
    let before = g.S.Scorer.state c.args.scorer.now in
    let kept = kept_of c.args.catalog.now (views_in c.args.held.now) in record {
      makes = λ beside. Stepped-refused (λ room. made_step before.answer c.args.name.now kept c.args.query) (room_for_view c.args.name.now (views_in c.args.held.now)) c.in-Err.why kept
          (record beside { scorer = before }) c.in-Err.ensures.gives;
      stand = tt;
    }

-- a call was bad or failed
pub returns-in-Err-make : goal.returns-in-Err-make
returns-in-Err-make g c =
    let before = g.S.Scorer.state c.args.scorer.now in
    let after = g.S.Scorer.state c.make.new.scorer in
    let catalogue = c.args.catalog.now in
    let kept = kept_of catalogue (views_in c.args.held.now) in record {
      makes = λ beside.
          let old = record beside { scorer = before } in
          Stepped-bound (λ room. made_step before.answer c.args.name.now kept c.args.query) (room_for_view c.args.name.now (views_in c.args.held.now)) tt kept (Err c.query_fault.result) old
          (record beside { scorer = after }) c.in-Ok.ensures.gives
          (Stepped-unasked (λ made. []) (made_outcome c.args.name.now kept) plain.Memory (making before.answer catalogue c.args.query) kept old after (query_fault catalogue) c.in-Err-make.why
          c.query_fault.result refl refl refl (Probes-questions plain_faults (query_fault catalogue) catalogue (λ number. refl) _) c.in-Err-make.ensures.makes c.query_fault.ensures);
      stand = tt;
    }

-- there was no memory to hold it
pub returns-in_err-add-in-Ok-make : goal.returns-in_err-add-in-Ok-make
returns-in_err-add-in-Ok-make g c =
    let before = g.S.Scorer.state c.args.scorer.now in
    let after = g.S.Scorer.state c.make.new.scorer in
    let catalogue = c.args.catalog.now in
    let views = views_in c.args.held.now in
    let kept = kept_of catalogue views in
    let name = c.args.name.now in
    let made = with_view name c.in-Ok-make.view kept in
    let left = kept_of catalogue c.add.new.self.held.entries in
    rw (given-err c.from_residual.result fault.Memory c.from_residual.ensures) (record {
      makes = λ beside.
          let old = record beside { scorer = before } in
          let new = record beside { scorer = after } in
          Stepped-bound (λ room. made_step before.answer name kept c.args.query) (room_for_view name views) tt left (Err fault.Memory) old new c.in-Ok.ensures.gives
          (Stepped-left _ made left (Err fault.Memory) old new tt
          (Stepped-asked (λ made. []) (made_outcome name kept) plain.Memory (making before.answer catalogue c.args.query) made old after c.in-Ok-make.view (Err fault.Memory) new refl c.in-Ok-make.ensures.makes
          (Ran-first (lines_run []) new)));
      stand = tt;
    })

-- it is the last one
pub returns-in_ok-add-in-Ok-make : goal.returns-in_ok-add-in-Ok-make
returns-in_ok-add-in-Ok-make g c =
    let before = g.S.Scorer.state c.args.scorer.now in
    let after = g.S.Scorer.state c.make.new.scorer in
    let catalogue = c.args.catalog.now in
    let views = views_in c.args.held.now in
    let kept = kept_of catalogue views in
    let left = c.add.new.self.held.entries in record {
      makes = λ beside.
          let old = record beside { scorer = before } in
          let new = record beside { scorer = after } in
          Stepped-bound (λ room. made_step before.answer c.args.name.now kept c.args.query) (room_for_view c.args.name.now views) tt (kept_of catalogue left) (Ok tt) old new c.in-Ok.ensures.gives
          (Stepped-asked (λ made. []) (made_outcome c.args.name.now kept) plain.Memory (making before.answer catalogue c.args.query) (kept_of catalogue left) old after c.in-Ok-make.view (Ok tt) new
          (ap (λ (held : List HeldView). Ok (kept_of catalogue held)) (sym c.in_ok-add-in-Ok-make.ensures.ok)) c.in-Ok-make.ensures.makes (Ran-all (lines_run []) (Ok tt) new new (HasDone-none new) refl));
      stand = subst (AllStand before.answer catalogue) (sym c.in_ok-add-in-Ok-make.ensures.ok)
          (each-last (Stands before.answer catalogue) views c.args.name.now c.in-Ok-make.view c.requires.stand (subst (λ answer. Stands answer catalogue c.in-Ok-make.view) c.in-Ok-make.ensures.makes.keeps.answer c.in-Ok-make.ensures.stands));
    }
