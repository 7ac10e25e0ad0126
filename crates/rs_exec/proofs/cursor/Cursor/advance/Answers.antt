-- What the plan gives is what the cursor gives, and it stands one ask further.
use Rattle.std.proofs.Common.{◌∙◌, Some, None, refl, sym, ap, subst}
use Rattle.std.specs.Prelude.{option_map}
use Rattle.rs_expr.specs.InOrder.{Inquires}
use Rattle.rs_value.proofs.ResultFacts.{given-err}
use Rattle.rs_exec.specs.Asking.{world_of}
use Rattle.rs_exec.specs.Cursors.{CursorState, StandsFor, answer_for, asks_of, is_over, next_of, plan_of}
use Rattle.rs_exec.specs.declared.fault.ExecFault.TheVariants.{Memory}
use Rattle.rs_exec.proofs.AdvanceFacts.{advance-failed, advance-gave, advance-stopped, advance-there, root-after, root-can, root-stands, row-puts}
use Rattle.rs_exec.proofs.cursor.Cursor.advance.Goals as goal
use Rattle.rs_exec.proofs.cursor.Cursor.advance.Goals.{in-Some+in_ok-answer_for-in-Some, in-None}

pub next-requires-clause-can : goal.next-requires-clause-can
next-requires-clause-can g c =
    let old = g.S.Scorer.state c.args.scorer.now in
    let catalogue = c.args.catalog.now in
    let cursor : CursorState = record { query = c.self.inside.query; root = c.self.inside.root; failed = c.self.inside.failed } in
    let stands = subst (StandsFor catalogue old.answer) (sym c.self.view_is) c.requires in
    let more = sym (c.is_over.ensures catalogue old.answer c.requires) ∙ c.if-is_over.false in
    root-can catalogue cursor old stands
    (ap (λ (k : CursorState). is_over (world_of catalogue old.answer k.query) (plan_of k) (asks_of k)) c.self.view_is ∙ more)

pub next-requires-clause-stands : goal.next-requires-clause-stands
next-requires-clause-stands g c =
    let old = g.S.Scorer.state c.args.scorer.now in
    root-stands c.args.catalog.now (record { query = c.self.inside.query; root = c.self.inside.root; failed = c.self.inside.failed }) old
    (subst (StandsFor c.args.catalog.now old.answer) (sym c.self.view_is) c.requires)

pub returns-in_err-row-clause-asks : goal.returns-in_err-row-clause-asks
returns-in_err-row-clause-asks g c =
    let old = g.S.Scorer.state c.args.scorer.now in
    let new = g.S.Scorer.state c.next.new.scorer in
    let catalogue = c.args.catalog.now in
    let cursor : CursorState = record { query = c.self.inside.query; root = c.self.inside.root; failed = c.self.inside.failed } in
    let stands = subst (StandsFor catalogue old.answer) (sym c.self.view_is) c.requires in
    let more = sym (c.is_over.ensures catalogue old.answer c.requires) ∙ c.if-is_over.false in
    subst (λ (k : CursorState). Inquires Memory (next_of (world_of catalogue old.answer k.query) (plan_of k) (asks_of k)) c.from_residual.result old new) c.self.view_is
    (advance-failed catalogue cursor old stands new
    (ap (λ (k : CursorState). is_over (world_of catalogue old.answer k.query) (plan_of k) (asks_of k)) c.self.view_is ∙ more)
    c.in_err-row.field-0.0 c.from_residual.result (given-err c.from_residual.result c.in_err-row.field-0.0 c.from_residual.ensures) c.in_err-row.ensures.inquires)

pub answer_for-requires : goal.answer_for-requires
answer_for-requires g c =
    let old = g.S.Scorer.state c.args.scorer.now in
    let new = g.S.Scorer.state c.next.new.scorer in
    let catalogue = c.args.catalog.now in
    let cursor : CursorState = record { query = c.self.inside.query; root = c.self.inside.root; failed = c.self.inside.failed } in
    let stands = subst (StandsFor catalogue old.answer) (sym c.self.view_is) c.requires in
    let more = ap (λ (k : CursorState). is_over (world_of catalogue old.answer k.query) (plan_of k) (asks_of k)) c.self.view_is
    ∙ sym (c.is_over.ensures catalogue old.answer c.requires) ∙ c.if-is_over.false in
    let there = advance-there catalogue cursor old stands new more c.in_ok-row.field-0 c.in_ok-row.ensures.inquires ∙ c.in-Some.is in
    row-puts catalogue cursor old stands c.in-Some.row there

pub returns-in_err-answer_for-in-Some-clause-asks : goal.returns-in_err-answer_for-in-Some-clause-asks
returns-in_err-answer_for-in-Some-clause-asks g c =
    let old = g.S.Scorer.state c.args.scorer.now in
    let new = g.S.Scorer.state c.next.new.scorer in
    let catalogue = c.args.catalog.now in
    let cursor : CursorState = record { query = c.self.inside.query; root = c.self.inside.root; failed = c.self.inside.failed } in
    let stands = subst (StandsFor catalogue old.answer) (sym c.self.view_is) c.requires in
    let more = ap (λ (k : CursorState). is_over (world_of catalogue old.answer k.query) (plan_of k) (asks_of k)) c.self.view_is
    ∙ sym (c.is_over.ensures catalogue old.answer c.requires) ∙ c.if-is_over.false in
    let result = c.from_residual-in_err-answer_for-in-Some.result in
    subst (λ (k : CursorState). Inquires Memory (next_of (world_of catalogue old.answer k.query) (plan_of k) (asks_of k)) result old new) c.self.view_is
    (advance-stopped catalogue cursor old stands new more c.in_ok-row.field-0 c.in_ok-row.ensures.inquires result
    (given-err result Memory c.from_residual-in_err-answer_for-in-Some.ensures))

pub returns-clause-asks : goal.returns-clause-asks
returns-clause-asks g c =
    let old = g.S.Scorer.state c.args.scorer.now in
    let new = g.S.Scorer.state c.next.new.scorer in
    let catalogue = c.args.catalog.now in
    let cursor : CursorState = record { query = c.self.inside.query; root = c.self.inside.root; failed = c.self.inside.failed } in
    let stands = subst (StandsFor catalogue old.answer) (sym c.self.view_is) c.requires in
    let more = ap (λ (k : CursorState). is_over (world_of catalogue old.answer k.query) (plan_of k) (asks_of k)) c.self.view_is
    ∙ sym (c.is_over.ensures catalogue old.answer c.requires) ∙ c.if-is_over.false in
    let w = world_of catalogue old.answer cursor.query in
    subst (λ (k : CursorState). Inquires Memory (next_of (world_of catalogue old.answer k.query) (plan_of k) (asks_of k)) c.match-branch-2.result old new) c.self.view_is
    (elim c.match-branch-2.branch [
      | in-Some+in_ok-answer_for-in-Some b ↦ rw b.result-is (advance-gave catalogue cursor old stands new more c.in_ok-row.field-0 c.in_ok-row.ensures.inquires _
          (ap Some b.in_ok-answer_for-in-Some.ensures ∙ sym (ap (option_map (answer_for w)) b.in-Some.is)))
      | in-None b ↦ rw b.result-is (advance-gave catalogue cursor old stands new more c.in_ok-row.field-0 c.in_ok-row.ensures.inquires None (sym (ap (option_map (answer_for w)) b.in-None.is)))
    ])

pub returns-clause-stands : goal.returns-clause-stands
returns-clause-stands g c =
    let old = g.S.Scorer.state c.args.scorer.now in
    let new = g.S.Scorer.state c.next.new.scorer in
    let catalogue = c.args.catalog.now in
    let cursor : CursorState = record { query = c.self.inside.query; root = c.self.inside.root; failed = c.self.inside.failed } in
    let stands = subst (StandsFor catalogue old.answer) (sym c.self.view_is) c.requires in
    let more = ap (λ (k : CursorState). is_over (world_of catalogue old.answer k.query) (plan_of k) (asks_of k)) c.self.view_is
    ∙ sym (c.is_over.ensures catalogue old.answer c.requires) ∙ c.if-is_over.false in
    let after = root-after catalogue cursor old stands more c.next.new.self (c.in_ok-row.ensures.leaves refl) in
    elim c.match-branch-2.branch [
      | in-Some+in_ok-answer_for-in-Some b ↦ rw (b.result-is, b.self-inside-is) after
      | in-None b ↦ rw (b.result-is, b.self-inside-is) after
    ]
