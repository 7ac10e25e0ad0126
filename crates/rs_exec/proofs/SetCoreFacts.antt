-- Where the core of a set operator stands, whichever operator it is.
use Rattle.std.proofs.Common.{◌≡◌, ◌∙◌, ℕ, suc, true, false, List, [], refl, sym, ap, subst}
use Rattle.std.specs.Prelude.{None, Some, option_map, slice_get}
use Rattle.rs_order.specs.Schedule.{JoinSide, Left, Right, SideAsk, asked}
use Rattle.rs_outputs.specs.Rows.{OutputRow}
use Rattle.rs_rank.specs.Rows.{HasSum}
use Rattle.rs_rank.specs.declared.ask.JoinAsk.TheVariants.{Ready}
use Rattle.rs_rank.specs.declared.row.RankRow.{RankRow}
use Rattle.rs_setop.specs.Compared as compared
use Rattle.rs_setop.specs.Heads as heads
use Rattle.rs_setop.specs.Sides.{AreSides as AreSideRows, Sides, answers}
use Rattle.rs_setop.specs.Union.{Union as UnionState}
use Rattle.rs_setop.proofs.ComparedFacts as compared_facts
use Rattle.rs_setop.proofs.ComparedStandFacts as compared_stands
use Rattle.rs_setop.proofs.HeadFacts.{Tells}
use Rattle.rs_setop.proofs.LawFacts.{compared-sum, union-end, union-row}
use Rattle.rs_setop.proofs.NextFacts.{one_more}
use Rattle.rs_setop.proofs.UnionFacts as union_facts
use Rattle.rs_value.specs.declared.set_op.SetOp.{SetOp}
use Rattle.rs_value.specs.declared.set_op.SetOp.TheVariants as op
use Rattle.rs_value.specs.declared.value.Value.{Value}
use Rattle.rs_exec.specs.Sides.{of_side}
use Rattle.rs_exec.specs.SetCores.{CoreStands, core_ask, is_spent, left_ended, left_fed, left_in, new_core, right_ended, right_fed, taken_from, terms_of_core, weights_of_core}
use Rattle.rs_exec.specs.declared.set_core.SetCore.{SetCore}
use Rattle.rs_exec.specs.declared.set_core.SetCore.TheVariants.{Except, Intersect, Union, UnionAll}
use Rattle.rs_exec.proofs.SideFacts.{need_of}

-- no side was asked
pub core-new : (s : Sides) (o : SetOp) (lefts rights : List OutputRow) → AreSideRows s lefts rights → CoreStands s o lefts rights [] 0 (new_core o s.weights s.terms)
core-new s op.UnionAll lefts rights input = (refl, union_facts.new-stands s false lefts rights input)
core-new s op.Union lefts rights input = (refl, union_facts.new-stands s true lefts rights input)
core-new s op.Intersect lefts rights input = (refl, compared_facts.new-stands s true lefts rights input)
core-new s op.Except lefts rights input = (refl, compared_facts.new-stands s false lefts rights input)

-- after one more row of a side, and after its end
abbrev pub side_fed : JoinSide → RankRow → List Value → SetCore → SetCore
side_fed side row values core = of_side (left_fed row values core) (right_fed row values core) side

abbrev pub side_ended : JoinSide → SetCore → SetCore
side_ended side core = of_side (left_ended core) (right_ended core) side

module _ (s : Sides) (o : SetOp) (lefts rights : List OutputRow) (made : List SideAsk) (count : ℕ) where
  pub core-alive : (core : SetCore) → CoreStands s o lefts rights made count core → is_spent core ≡ false
  core-alive (UnionAll u) st = ap (λ (v : UnionState). v.spent) st.1.place.state
  core-alive (Union u) st = ap (λ (v : UnionState). v.spent) st.1.place.state
  core-alive (Intersect c) st = ap (λ (v : compared.Comparison). v.spent) st.1.place.state
  core-alive (Except c) st = ap (λ (v : compared.Comparison). v.spent) st.1.place.state

  pub core-tells : (core : SetCore) → CoreStands s o lefts rights made count core → Tells s o lefts rights made count (core_ask core)
  core-tells (UnionAll u) st =
      subst (λ k. Tells s k lefts rights made count (heads.ask_of u.heads)) (sym st.0) (union_facts.tells s false lefts rights made count u st.1 (heads.ask_of u.heads) refl)
  core-tells (Union u) st =
      subst (λ k. Tells s k lefts rights made count (heads.ask_of u.heads)) (sym st.0) (union_facts.tells s true lefts rights made count u st.1 (heads.ask_of u.heads) refl)
  core-tells (Intersect c) st =
      subst (λ k. Tells s k lefts rights made count (compared.ask_of c)) (sym st.0) (compared_stands.tells s true lefts rights made count c st.1 (compared.ask_of c) refl)
  core-tells (Except c) st =
      subst (λ k. Tells s k lefts rights made count (compared.ask_of c)) (sym st.0) (compared_stands.tells s false lefts rights made count c st.1 (compared.ask_of c) refl)

  -- a row of a side, or its end
  pub core-row : (core : SetCore) → CoreStands s o lefts rights made count core → (side : JoinSide) → core_ask core ≡ need_of side → (row : OutputRow) → slice_get (of_side lefts rights side) (asked side made) ≡ Some row
      → HasSum (weights_of_core core) (terms_of_core core) row.row × CoreStands s o lefts rights (one_more side made) count (side_fed side row.row row.values core)
  core-row (UnionAll u) st Left need row at = (let both = union-row s false lefts rights made count u st.1 Left need row at in (both.0, (st.0, both.1)))
  core-row (UnionAll u) st Right need row at = (let both = union-row s false lefts rights made count u st.1 Right need row at in (both.0, (st.0, both.1)))
  core-row (Union u) st Left need row at = (let both = union-row s true lefts rights made count u st.1 Left need row at in (both.0, (st.0, both.1)))
  core-row (Union u) st Right need row at = (let both = union-row s true lefts rights made count u st.1 Right need row at in (both.0, (st.0, both.1)))
  core-row (Intersect c) st Left need row at =
      (compared-sum s true lefts rights made count c st.1 Left row at, (st.0, compared_stands.left-row-stands s true lefts rights made count c st.1 need row at))
  core-row (Intersect c) st Right need row at =
      (compared-sum s true lefts rights made count c st.1 Right row at, (st.0, compared_stands.right-row-stands s true lefts rights made count c st.1 need row at))
  core-row (Except c) st Left need row at =
      (compared-sum s false lefts rights made count c st.1 Left row at, (st.0, compared_stands.left-row-stands s false lefts rights made count c st.1 need row at))
  core-row (Except c) st Right need row at =
      (compared-sum s false lefts rights made count c st.1 Right row at, (st.0, compared_stands.right-row-stands s false lefts rights made count c st.1 need row at))

  pub core-end : (core : SetCore) → CoreStands s o lefts rights made count core → (side : JoinSide) → core_ask core ≡ need_of side → slice_get (of_side lefts rights side) (asked side made) ≡ None
      → CoreStands s o lefts rights (one_more side made) count (side_ended side core)
  core-end (UnionAll u) st Left need at = (st.0, union-end s false lefts rights made count u st.1 Left need at)
  core-end (UnionAll u) st Right need at = (st.0, union-end s false lefts rights made count u st.1 Right need at)
  core-end (Union u) st Left need at = (st.0, union-end s true lefts rights made count u st.1 Left need at)
  core-end (Union u) st Right need at = (st.0, union-end s true lefts rights made count u st.1 Right need at)
  core-end (Intersect c) st Left need at = (st.0, compared_stands.left-over-stands s true lefts rights made count c st.1 need at)
  core-end (Intersect c) st Right need at = (st.0, compared_stands.right-over-stands s true lefts rights made count c st.1 need at)
  core-end (Except c) st Left need at = (st.0, compared_stands.left-over-stands s false lefts rights made count c st.1 need at)
  core-end (Except c) st Right need at = (st.0, compared_stands.right-over-stands s false lefts rights made count c st.1 need at)

  -- the next answer
  pub core-taken : (core : SetCore) → CoreStands s o lefts rights made count core → core_ask core ≡ Ready
      → (taken_from core ≡ option_map (λ (row : OutputRow). row.row) (slice_get (answers s o lefts rights) count))
      × CoreStands s o lefts rights made (suc count) (left_in core)
  core-taken (UnionAll u) st ready =
      let both = union_facts.taken-stands s false lefts rights made count u st.1 ready in
      (both.0 ∙ ap (λ k. option_map (λ (row : OutputRow). row.row) (slice_get (answers s k lefts rights) count)) (sym st.0), (st.0, both.1))
  core-taken (Union u) st ready =
      let both = union_facts.taken-stands s true lefts rights made count u st.1 ready in
      (both.0 ∙ ap (λ k. option_map (λ (row : OutputRow). row.row) (slice_get (answers s k lefts rights) count)) (sym st.0), (st.0, both.1))
  core-taken (Intersect c) st ready =
      let both = compared_stands.taken-stands s true lefts rights made count c st.1 ready in
      (both.0 ∙ ap (λ k. option_map (λ (row : OutputRow). row.row) (slice_get (answers s k lefts rights) count)) (sym st.0), (st.0, both.1))
  core-taken (Except c) st ready =
      let both = compared_stands.taken-stands s false lefts rights made count c st.1 ready in
      (both.0 ∙ ap (λ k. option_map (λ (row : OutputRow). row.row) (slice_get (answers s k lefts rights) count)) (sym st.0), (st.0, both.1))
