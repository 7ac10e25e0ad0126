-- A cursor that stands and isn't over asks its plan once more.
use Rattle.std.proofs.Common.{◌≡◌, ◌∙◌, suc, false, inl, inr, refl, sym, ap, subst}
use Rattle.std.specs.Prelude.{Option, Some, None, Result, Ok, Err, if◌then◌else◌, option_map, slice_get}
use Rattle.rs_expr.specs.InOrder.{Inquires}
use Rattle.rs_expr.specs.Scoring.{ScorerState}
use Rattle.rs_rank.specs.declared.answer.Answer.{Answer}
use Rattle.rs_rank.specs.declared.row.RankRow.{RankRow}
use Rattle.rs_catalog.specs.Catalog.{CatalogDef}
use Rattle.rs_query.specs.Tables.{all_entries}
use Rattle.rs_query.proofs.QuestionFacts.{Gave-ok, Stopped-behind}
use Rattle.rs_plan.specs.Calls.{questions_of_ask}
use Rattle.rs_plan.specs.Lists.{World, list_of, list_of_plan}
use Rattle.rs_query.specs.Blocks.{block_in}
use Rattle.rs_exec.specs.Asked.{CanAsk, NodeAfter}
use Rattle.rs_exec.specs.Asking.{exec_faults, next_row, world_of}
use Rattle.rs_exec.specs.Cursors.{CursorState, StandsFor, answer_for, asks_of, is_over, next_answer, next_of, no_question, plan_of}
use Rattle.rs_exec.specs.Nodes.{asked_in, number_in, tree_in}
use Rattle.rs_exec.specs.OutputValues.{CanPutOut}
use Rattle.rs_exec.specs.Standing.{Stands}
use Rattle.rs_exec.specs.declared.fault.ExecFault.{ExecFault}
use Rattle.rs_exec.specs.declared.fault.ExecFault.TheVariants.{Memory}
use Rattle.rs_exec.specs.declared.node.PlanNode.{PlanNode}
use Rattle.rs_exec.proofs.BlockFacts.{first-block}
use Rattle.rs_exec.proofs.CursorFacts.{cursor-after, cursor-can, next-fault, next-given}
use Rattle.rs_exec.proofs.TurnFacts.{node-number}
use Rattle.rs_exec.proofs.PlacesFacts.{can-put_out, plan-entries, plan-part, row-placed}

module _ (catalogue : CatalogDef) (cursor : CursorState) (old : ScorerState) (stands : StandsFor catalogue old.answer cursor) where
  abbrev w : World
  w = world_of catalogue old.answer cursor.query

  root-number : number_in cursor.root ≡ 1
  root-number = node-number w 1 cursor.root stands.nodes

  pub root-can : is_over (world_of catalogue old.answer cursor.query) (plan_of cursor) (asks_of cursor) ≡ false
      → CanAsk (world_of catalogue old.answer cursor.query) (number_in cursor.root) (tree_in cursor.root) (asked_in cursor.root)
  root-can more =
      subst (λ n. CanAsk (world_of catalogue old.answer cursor.query) n (tree_in cursor.root) (asked_in cursor.root)) (sym root-number)
      (cursor-can catalogue old.answer cursor stands more)

  pub root-stands : Stands (world_of catalogue old.answer cursor.query) (number_in cursor.root) cursor.root
  root-stands = subst (λ n. Stands w n cursor.root) (sym root-number) stands.nodes

  pub root-after : is_over (world_of catalogue old.answer cursor.query) (plan_of cursor) (asks_of cursor) ≡ false → (root : PlanNode)
      → NodeAfter (world_of catalogue old.answer cursor.query) (number_in cursor.root) (tree_in cursor.root) (asked_in cursor.root) root
      → StandsFor catalogue old.answer (record cursor { root = root })
  root-after more root after =
      cursor-after catalogue old.answer cursor root stands (cursor-can catalogue old.answer cursor stands more)
      (subst (λ n. NodeAfter w n (tree_in cursor.root) (asked_in cursor.root) root) root-number after)

  -- a row of its list has all entries of its block
  pub row-puts : (row : RankRow) → slice_get (list_of (world_of catalogue old.answer cursor.query) 1 (plan_of cursor)) (asks_of cursor) ≡ Some row → CanPutOut catalogue cursor.query row
  row-puts row there =
      let placed = row-placed catalogue old.answer cursor.query 1 (plan_of cursor) stands.query (first-block cursor.query) (plan-part catalogue cursor.query (plan_of cursor) stands.plan) (asks_of cursor) row there in
      let mask : row.ids.mask ≡ all_entries (block_in cursor.query row.ids.block) = elim placed.place [
        | inl at ↦ at.1 ∙ plan-entries catalogue cursor.query (plan_of cursor) stands.plan ∙ ap (λ n. all_entries (block_in cursor.query n)) (sym at.0)
        | inr all ↦ all
      ] in
      can-put_out catalogue cursor.query row stands.query mask placed.rows

  module _ (new : ScorerState) (more : is_over (world_of catalogue old.answer cursor.query) (plan_of cursor) (asks_of cursor) ≡ false) where
    goes-on : next_of w (plan_of cursor) (asks_of cursor) ≡ next_answer w (plan_of cursor) (asks_of cursor)
    goes-on = ap (λ b. if b then no_question (Ok None) else next_answer w (plan_of cursor) (asks_of cursor)) more

    abbrev Asks : Result (Option RankRow) ExecFault → Type 0
    Asks result = Inquires Memory (next_row w (number_in cursor.root) (tree_in cursor.root) (asked_in cursor.root)) result old new

    of-plan : (result : Result (Option RankRow) ExecFault) → Asks result → Inquires Memory (next_row w 1 (plan_of cursor) (asks_of cursor)) result old new
    of-plan result asked = subst (λ n. Inquires Memory (next_row w n (plan_of cursor) (asks_of cursor)) result old new) root-number asked

    -- a fault of the plan is the cursor's
    pub advance-failed : (fault : ExecFault) (result : Result (Option Answer) ExecFault) → result ≡ Err fault
        → Inquires Memory (next_row (world_of catalogue old.answer cursor.query) (number_in cursor.root) (tree_in cursor.root) (asked_in cursor.root)) (Err fault) old new
        → Inquires Memory (next_of (world_of catalogue old.answer cursor.query) (plan_of cursor) (asks_of cursor)) result old new
    advance-failed fault result is asked =
        subst (λ i. Inquires Memory i result old new) (sym goes-on)
        (subst (λ r. Inquires Memory (next_answer w (plan_of cursor) (asks_of cursor)) r old new) (sym is)
        (next-fault w (plan_of cursor) (asks_of cursor) fault old new (of-plan (Err fault) asked)))

    module _ (row : Option RankRow)
        (asked : Inquires Memory (next_row (world_of catalogue old.answer cursor.query) (number_in cursor.root) (tree_in cursor.root) (asked_in cursor.root)) (Ok row) old new) where
      pub advance-there : slice_get (list_of (world_of catalogue old.answer cursor.query) 1 (plan_of cursor)) (asks_of cursor) ≡ row
      advance-there =
          let gave = Gave-ok exec_faults Memory old.answer catalogue {A = Option RankRow} (questions_of_ask w 1 (plan_of cursor) (suc (asks_of cursor)))
          (slice_get (list_of_plan w (plan_of cursor)) (asks_of cursor)) row old new (of-plan (Ok row) asked) in
          sym gave.is_value

      -- the answer of its row is given
      pub advance-gave : (given : Option Answer) → given ≡ option_map (answer_for (world_of catalogue old.answer cursor.query)) row
          → Inquires Memory (next_of (world_of catalogue old.answer cursor.query) (plan_of cursor) (asks_of cursor)) (Ok given) old new
      advance-gave given is =
          subst (λ i. Inquires Memory i (Ok given) old new) (sym goes-on)
          (subst (λ g. Inquires Memory (next_answer w (plan_of cursor) (asks_of cursor)) (Ok g) old new) (sym is)
          (next-given w (plan_of cursor) (asks_of cursor) row old new refl (of-plan (Ok row) asked)))

      -- there was no memory for it
      pub advance-stopped : (result : Result (Option Answer) ExecFault) → result ≡ Err Memory
          → Inquires Memory (next_of (world_of catalogue old.answer cursor.query) (plan_of cursor) (asks_of cursor)) result old new
      advance-stopped result is =
          let gave = Gave-ok exec_faults Memory old.answer catalogue {A = Option RankRow} (questions_of_ask w 1 (plan_of cursor) (suc (asks_of cursor)))
          (slice_get (list_of_plan w (plan_of cursor)) (asks_of cursor)) row old new (of-plan (Ok row) asked) in
          subst (λ i. Inquires Memory i result old new) (sym goes-on)
          (Stopped-behind exec_faults Memory catalogue (questions_of_ask w 1 (plan_of cursor) (suc (asks_of cursor)))
          (option_map (answer_for w) (slice_get (list_of_plan w (plan_of cursor)) (asks_of cursor))) result old new is gave.asked)
