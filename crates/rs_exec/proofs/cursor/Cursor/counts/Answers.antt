use Rattle.std.proofs.Common.{◌∙◌, ◌≤◌, List, sym, ap, subst}
use Rattle.std.specs.Prelude.{IfSome, slice_get}
use Rattle.std.proofs.lemmas.Option.{slice_get_past}
use Rattle.rs_plan.specs.Counts.{AreWithinLimits, counts_of_plan}
use Rattle.rs_plan.specs.declared.counts.Counts.{Counts}
use Rattle.rs_exec.specs.Asking.{world_of}
use Rattle.rs_exec.specs.Cursors.{CursorState, asks_of, plan_of}
use Rattle.rs_exec.specs.Nodes.{counts_in}
use Rattle.rs_exec.proofs.CountFacts.{counts-length, counts-stand}
use Rattle.rs_exec.proofs.LimitFacts.{cursor-limited, each-at}
use Rattle.rs_exec.proofs.StepFacts.{slice_get-none}
use Rattle.rs_exec.proofs.cursor.Cursor.counts.Goals as goal

pub returns-clause-past : goal.returns-clause-past
returns-clause-past c = λ w n.
    let cursor = c.args.self.now in
    let found = c.counts_at.ensures ∙ ap (λ (state : CursorState). slice_get (counts_in state.root) c.args.node) c.self.view_is in
    let size = counts-length w 1 cursor.root n in (
      λ none. subst (λ k. k ≤ c.args.node) size (slice_get-none (counts_in cursor.root) c.args.node (sym found ∙ none)),
      λ past. found ∙ slice_get_past (counts_in cursor.root) c.args.node (subst (λ k. k ≤ c.args.node) (sym size) past),
    )

pub returns-clause-counts : goal.returns-clause-counts
returns-clause-counts c = λ catalogue answer stands.
    let cursor = c.args.self.now in
    c.counts_at.ensures
    ∙ ap (λ (state : CursorState). slice_get (counts_in state.root) c.args.node) c.self.view_is
    ∙ ap (λ (all : List Counts). slice_get all c.args.node) (counts-stand (world_of catalogue answer cursor.query) 1 cursor.root stands.nodes)

pub returns-clause-limits : goal.returns-clause-limits
returns-clause-limits c = λ catalogue answer stands.
    let cursor = c.args.self.now in
    let all = counts_of_plan (world_of catalogue answer cursor.query) (plan_of cursor) (asks_of cursor) in
    subst (λ found. IfSome found AreWithinLimits) (sym (returns-clause-counts c catalogue answer stands))
    (each-at AreWithinLimits all c.args.node (cursor-limited catalogue answer cursor stands))
