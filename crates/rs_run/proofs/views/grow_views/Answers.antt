use Rattle.std.proofs.Common.{[], refl}
use Rattle.std.specs.Prelude.{Ok}
use Rattle.rs_plain.specs.Plain.{plain_faults}
use Rattle.rs_plain.specs.declared.fault.PlainFault.TheVariants as plain
use Rattle.rs_events.specs.Run.{lines_run}
use Rattle.rs_events.proofs.InquirySteps.{Stepped-asked, Stepped-unasked}
use Rattle.rs_events.proofs.RanFacts.{HasDone-none, Ran-all}
use Rattle.rs_statement.specs.Statements.{query_fault}
use Rattle.rs_statement.proofs.QuerySteps.{Probes-questions}
use Rattle.rs_run.specs.Parts.Holding.{kept_of, views_in}
use Rattle.rs_run.specs.Viewing.{growing_all, grown_outcome}
use Rattle.rs_run.proofs.views.grow_views.Goals as goal

pub query_fault-requires : goal.query_fault-requires
query_fault-requires g c = c.in-Err.ensures.names

pub returns-in-Ok : goal.returns-in-Ok
returns-in-Ok g c =
    let before = g.S.Scorer.state c.args.scorer.now in
    let after = g.S.Scorer.state c.grow_all.new.scorer in
    let catalogue = c.args.catalog.now in
    let left = c.grow_all.new.views.held.entries in record {
      grows = λ beside.
          let old = record beside { scorer = before } in
          let new = record beside { scorer = after } in
          Stepped-asked (λ grown. []) (grown_outcome catalogue) plain.Memory (growing_all before.answer catalogue (views_in c.args.held.now)) (kept_of catalogue left) old after
          left (Ok tt) new refl c.in-Ok.ensures.grows (Ran-all (lines_run []) (Ok tt) new new (HasDone-none new) refl);
      stand = c.in-Ok.ensures.stand;
    }

pub returns-in-Err : goal.returns-in-Err
returns-in-Err g c =
    let before = g.S.Scorer.state c.args.scorer.now in
    let after = g.S.Scorer.state c.grow_all.new.scorer in
    let catalogue = c.args.catalog.now in record {
      grows = λ beside.
          Stepped-unasked (λ grown. []) (grown_outcome catalogue) plain.Memory (growing_all before.answer catalogue (views_in c.args.held.now)) (kept_of catalogue c.grow_all.new.views.held.entries)
          (record beside { scorer = before }) after (query_fault catalogue) c.in-Err.why c.query_fault.result refl refl refl
          (Probes-questions plain_faults (query_fault catalogue) catalogue (λ number. refl) _) c.in-Err.ensures.grows c.query_fault.ensures;
      stand = tt;
    }
