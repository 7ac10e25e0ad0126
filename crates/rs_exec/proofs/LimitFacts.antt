-- No count of a plan's nodes passes its limit.
use Rattle.std.proofs.Common.{ℕ, zero, suc, ◌+◌, ◌-◌, ◌^◌, ◌≤◌, List, [], ◌∷◌, ◌++◌, length, sym, subst, arith}
use Rattle.std.specs.List.{AllByRecursion}
use Rattle.std.specs.Prelude.{IfSome, slice_get, unwrap_or}
use Rattle.rs_order.specs.Schedule.{JoinSide, Left, Right}
use Rattle.rs_order.proofs.EachFacts.{each-append}
use Rattle.rs_expr.specs.Scoring.{Answering}
use Rattle.rs_catalog.specs.Catalog.{CatalogDef}
use Rattle.rs_query.specs.Blocks.{block_in}
use Rattle.rs_query.specs.Tables.{sizes_of}
use Rattle.rs_query.specs.WellFormed.{IsQuery}
use Rattle.rs_query.specs.declared.query.Query.{Query}
use Rattle.rs_plan.specs.Counts.{AreWithinLimits, asked_of, counts, counts_at, counts_of_plan, drawn_of, own_calls, size_at}
use Rattle.rs_plan.specs.declared.counts.Counts.{Counts}
use Rattle.rs_plan.specs.Lists.{World, list_of}
use Rattle.rs_plan.specs.Trees.{Distinct, JoinOperator, Rank, RankScan, SeqScan, SetOperator, PlanTree}
use Rattle.rs_exec.specs.Asked.{HasBlock}
use Rattle.rs_exec.specs.Asking.{world_of}
use Rattle.rs_exec.specs.Cursors.{CursorState, StandsFor, asks_of, plan_of}
use Rattle.rs_exec.specs.Parts.{IsPartOf}
use Rattle.rs_exec.proofs.BlockFacts.{block-formed, sizes-are}
use Rattle.rs_exec.proofs.BlockFacts.{first-block}
use Rattle.rs_exec.proofs.OperatorFacts.{IsHeldPart, child-held, child-most, child_on, number_on}
use Rattle.rs_exec.proofs.PlacesFacts.{list-few-of, plan-part}
use Rattle.rs_exec.proofs.ScanFacts.{index-drawn-most, table-drawn-most}

-- what holds of each item holds of the one at a place, if there is one
pub each-at : {A : Type 0} (P : A → Type 0) (xs : List A) (place : ℕ) → AllByRecursion P xs → IfSome (slice_get xs place) P
each-at P [] place all = tt
each-at P (x ∷ xs) zero all = all.0
each-at P (x ∷ xs) (suc place) all = each-at P xs place all.1

-- a number at a place, or 0 past the last one
few-at : (most : ℕ) (sizes : List ℕ) (place : ℕ) → AllByRecursion (λ size. size ≤ most) sizes → unwrap_or (slice_get sizes place) 0 ≤ most
few-at most [] place all = omega arith
few-at most (size ∷ sizes) zero all = all.0
few-at most (size ∷ sizes) (suc place) all = few-at most sizes place all.1

module _ (catalogue : CatalogDef) (answer : Answering) (query : Query) (formed : IsQuery catalogue query)
    (tables : (n : ℕ) → AllByRecursion (λ size. size ≤ 131072) (sizes_of catalogue (block_in query n))) where
  abbrev w : World
  w = world_of catalogue answer query

  few : (number : ℕ) (tree : PlanTree) → HasBlock query number → IsPartOf catalogue query number tree → length (list_of w number tree) ≤ 2 ^ 103
  few number tree has part = list-few-of catalogue answer query number tree has tables part

  few-rows : (number entry : ℕ) → HasBlock query number → size_at w number entry ≤ 131072
  few-rows number entry has =
      few-at 131072 _ (entry - 1) (subst (AllByRecursion (λ size. size ≤ 131072)) (sym (sizes-are catalogue answer query number has)) (tables number))

  abbrev Part : ℕ → PlanTree → Type 0
  Part number tree = IsHeldPart catalogue answer query number tree

  -- a node's own counts: of its asks, its rows, the calls for its input's rows, and what it drew
  own : (number : ℕ) (tree : PlanTree) (a : ℕ) → Part number tree → a ≤ 2 ^ 103 + 1
      → own_calls w number tree a ≤ 2 ^ 103 → drawn_of w number tree a ≤ 131072 → AreWithinLimits (counts_at w number tree a)
  own number tree a is asked calls drawn =
      let all = few number tree is.number_is is.part in
      record { asked = asked; gave = omega arith; calls = calls; drawn = drawn }

  over-two : (first : Counts) (lefts rights : List Counts) → AreWithinLimits first → AllByRecursion AreWithinLimits lefts → AllByRecursion AreWithinLimits rights
      → AllByRecursion AreWithinLimits (first ∷ lefts ++ rights)
  over-two first lefts rights is left right = (is, each-append AreWithinLimits lefts rights left right)

  -- a child is asked at most once more than its list has rows
  child-few : (number : ℕ) (tree : PlanTree) (a : ℕ) (side : JoinSide) → Part number tree → asked_of w number tree a side ≤ 2 ^ 103 + 1
  child-few number tree a side is =
      let most = child-most w number tree a side in
      let child = child-held catalogue answer query number tree side is in
      let all = few (number_on number tree side) (child_on tree side) child.number_is child.part in
      omega arith

  pub counts-limited : (number : ℕ) (tree : PlanTree) (a : ℕ) → Part number tree → a ≤ 2 ^ 103 + 1 → AllByRecursion AreWithinLimits (counts w number tree a)
  counts-limited number (SeqScan entry) a is asked =
      let block = block-formed catalogue query number formed in
      let last = is.part.most in
      let entries = block.most_entries in
      let drawn = table-drawn-most w number entry is.part.some (omega arith) (sizes-are catalogue answer query number is.number_is) a in
      let rows = few-rows number entry is.number_is in
      (own number (SeqScan entry) a is asked (omega arith) (omega arith), tt)
  counts-limited number (RankScan entry term index) a is asked =
      let drawn = index-drawn-most w number entry term index formed is.part is.indexes (sizes-are catalogue answer query number is.number_is) a in
      let rows = few-rows number entry is.number_is in
      (own number (RankScan entry term index) a is asked (omega arith) (omega arith), tt)
  counts-limited number (Rank term child) a is asked =
      let input = child-held catalogue answer query number (Rank term child) Left is in
      let all = few number child input.number_is input.part in (
        own number (Rank term child) a is asked (omega arith) (omega arith),
        counts-limited number child (asked_of w number (Rank term child) a Left) input (child-few number (Rank term child) a Left is),
      )
  counts-limited number (Distinct child) a is asked = (
    own number (Distinct child) a is asked (omega arith) (omega arith),
    counts-limited number child (asked_of w number (Distinct child) a Left) (child-held catalogue answer query number (Distinct child) Left is) (child-few number (Distinct child) a Left is),
  )
  counts-limited number (JoinOperator kind left right) a is asked =
      let tree = JoinOperator kind left right in
      over-two (counts_at w number tree a) (counts w number left (asked_of w number tree a Left)) (counts w number right (asked_of w number tree a Right))
      (own number tree a is asked (omega arith) (omega arith))
      (counts-limited number left (asked_of w number tree a Left) (child-held catalogue answer query number tree Left is) (child-few number tree a Left is))
      (counts-limited number right (asked_of w number tree a Right) (child-held catalogue answer query number tree Right is) (child-few number tree a Right is))
  counts-limited number (SetOperator left right) a is asked =
      let tree = SetOperator left right in
      over-two (counts_at w number tree a) (counts w 1 left (asked_of w number tree a Left)) (counts w 2 right (asked_of w number tree a Right))
      (own number tree a is asked (omega arith) (omega arith))
      (counts-limited 1 left (asked_of w number tree a Left) (child-held catalogue answer query number tree Left is) (child-few number tree a Left is))
      (counts-limited 2 right (asked_of w number tree a Right) (child-held catalogue answer query number tree Right is) (child-few number tree a Right is))

-- so are those of a cursor that stands: it asked its plan at most once more than the plan's list has rows
pub cursor-limited : (catalogue : CatalogDef) (answer : Answering) (cursor : CursorState) → StandsFor catalogue answer cursor
    → AllByRecursion AreWithinLimits (counts_of_plan (world_of catalogue answer cursor.query) (plan_of cursor) (asks_of cursor))
cursor-limited catalogue answer cursor stands =
    let part = plan-part catalogue cursor.query (plan_of cursor) stands.plan in
    let one = first-block cursor.query in
    let all = list-few-of catalogue answer cursor.query 1 (plan_of cursor) one stands.tables part in
    let asks = stands.asks in
    counts-limited catalogue answer cursor.query stands.query stands.tables 1 (plan_of cursor) (asks_of cursor) (record { number_is = one; part = part; indexes = stands.indexes }) (omega arith)
