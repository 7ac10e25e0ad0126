use Rattle.std.proofs.Common.{◌≡◌, subst, sym}
use Rattle.std.specs.List.{AllByRecursion}
use Rattle.rs_syntax.specs.Syntax.{query_of}
use Rattle.rs_statement.specs.Parts.Session.{CanAllBeAsked, cursors_of, state_of}
use Rattle.rs_statement.specs.Parts.Steps.{Stepped}
use Rattle.rs_statement.specs.Session.{IsCursorOf, declare_step}
use Rattle.rs_statement.proofs.SessionFacts.{cursors-covered}
use Rattle.rs_statement.proofs.SessionSteps.{if-ok-map}
use Rattle.rs_statement.proofs.session.declare.Goals as goal

pub returns-in-Plainly : goal.returns-in-Plainly
returns-in-Plainly g c =
    let answer = (g.S.Scorer.state c.args.scorer.now).answer in
    let state = state_of c.args.catalog.now c.args.session.now.cursors.held.entries in
    let entries = c.declare_ready.new.session.cursors.held.entries in
    let left = state_of c.args.catalog.now entries in record {
      opens = λ beside. subst (λ evaluating. Stepped (λ step. step ≡ declare_step evaluating answer state c.args.name.now (query_of c.args.select.now)) left c.declare_ready.result
          (record beside { scorer = g.S.Scorer.state c.args.scorer.now }) (record beside { scorer = g.S.Scorer.state c.declare_ready.new.scorer })) (sym c.in-Plainly.is) (c.declare_ready.ensures.opens beside);
      asked = c.declare_ready.ensures.asked;
      cursors = if-ok-map c.declare_ready.result (CanAllBeAsked answer c.args.catalog.now entries) (AllByRecursion (IsCursorOf c.args.catalog.now) (cursors_of entries))
          (cursors-covered answer c.args.catalog.now entries) c.declare_ready.ensures.asked;
    }

pub returns-in-Planned : goal.returns-in-Planned
returns-in-Planned g c =
    let answer = (g.S.Scorer.state c.args.scorer.now).answer in
    let state = state_of c.args.catalog.now c.args.session.now.cursors.held.entries in
    let entries = c.declare_planned.new.session.cursors.held.entries in
    let left = state_of c.args.catalog.now entries in
    let query = query_of c.args.select.now in record {
      opens = λ beside.
          let old = record beside { scorer = g.S.Scorer.state c.args.scorer.now } in
          let new = record beside { scorer = g.S.Scorer.state c.declare_planned.new.scorer } in
          subst (λ evaluating. Stepped (λ step. step ≡ declare_step evaluating answer state c.args.name.now query) left c.declare_planned.result old new) (sym c.in-Planned.is)
          (c.declare_planned.ensures.opens beside);
      asked = c.declare_planned.ensures.asked;
      cursors = if-ok-map c.declare_planned.result (CanAllBeAsked answer c.args.catalog.now entries) (AllByRecursion (IsCursorOf c.args.catalog.now) (cursors_of entries))
          (cursors-covered answer c.args.catalog.now entries) c.declare_planned.ensures.asked;
    }
