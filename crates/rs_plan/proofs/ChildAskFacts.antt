-- A node asks each of its children at most once more than the child's list has rows.
use Rattle.std.proofs.Common.{ℕ, zero, suc, ◌≤◌, List, length, Option, arith}
use Rattle.std.proofs.lemmas.List.{length-map}
use Rattle.rs_order.specs.Asks.{asks_for}
use Rattle.rs_order.specs.Schedule.{JoinSide, Left, Right, asked}
use Rattle.rs_order.proofs.ReorderFacts.{asks_for-most}
use Rattle.rs_order.proofs.ScheduleFacts.{asked-from}
use Rattle.rs_rank.specs.Keys.{key_cmp}
use Rattle.rs_rank.specs.Merging.{merge_key}
use Rattle.rs_rank.specs.declared.key.Key.{Key}
use Rattle.rs_rank.proofs.SetTurnFacts.{set_left-most, set_right-most}
use Rattle.rs_rank.proofs.TurnFacts.{join_left-most, join_right-most}
use Rattle.rs_query.specs.declared.query.Query.{Query}
use Rattle.rs_query.specs.declared.query.Query.TheVariants.{One, Set}
use Rattle.rs_plan.specs.Asks.{asks_alone, bar_of, keys_of, query_schedule}
use Rattle.rs_plan.specs.Counts.{asked_of}
use Rattle.rs_plan.specs.Lists.{World, key_under, list_of, weights_in}
use Rattle.rs_plan.specs.Trees.{Distinct, JoinKind, JoinOperator, Rank, SetOperator, PlanTree, terms}

-- one ask for each key, and one for the end
alone-most : (keys : List Key) (bar : Option Key) → asked Left (asks_alone keys bar) ≤ suc (length keys)
alone-most keys bar =
    let all = asked-from Left 1 (asks_for key_cmp (λ (key : Key). key) keys bar) in
    let most = asks_for-most key_cmp (λ (key : Key). key) keys bar in
    omega arith

query_left-most : (query : Query) (lefts rights : List Key) (bar : Option Key) → asked Left (query_schedule query lefts rights bar) ≤ suc (length lefts)
query_left-most (One block limit) lefts rights bar = omega arith
query_left-most (Set op left right limit) lefts rights bar = set_left-most op lefts rights bar

query_right-most : (query : Query) (lefts rights : List Key) (bar : Option Key) → asked Right (query_schedule query lefts rights bar) ≤ suc (length rights)
query_right-most (One block limit) lefts rights bar = omega arith
query_right-most (Set op left right limit) lefts rights bar = set_right-most op lefts rights bar

module _ (w : World) where
  -- a node that wasn't asked asks nothing
  most-after : (number : ℕ) (tree : PlanTree) (side : JoinSide) (own : ℕ) (child : PlanTree)
      → ((n : ℕ) → asked_of w number tree (suc n) side ≤ suc (length (keys_of w own child)))
      → (a : ℕ) → asked_of w number tree a side ≤ suc (length (list_of w own child))
  most-after number tree side own child most zero = none side where
    none : (side : JoinSide) → asked_of w number tree 0 side ≤ suc (length (list_of w own child))
    none Left = omega arith
    none Right = omega arith
  most-after number tree side own child most (suc n) =
      let count = length-map (list_of w own child) (key_under w (terms child)) in
      let all = most n in
      omega arith

  pub rank_child-most : (number term : ℕ) (child : PlanTree) (a : ℕ) → asked_of w number (Rank term child) a Left ≤ suc (length (list_of w number child))
  rank_child-most number term child =
      most-after number (Rank term child) Left number child (λ n. alone-most (keys_of w number child) (bar_of w number (Rank term child) n))

  pub distinct_child-most : (number : ℕ) (child : PlanTree) (a : ℕ) → asked_of w number (Distinct child) a Left ≤ suc (length (list_of w number child))
  distinct_child-most number child =
      most-after number (Distinct child) Left number child (λ n. alone-most (keys_of w number child) (bar_of w number (Distinct child) n))

  pub left_side-most : (number : ℕ) (kind : JoinKind) (left right : PlanTree) (a : ℕ) → asked_of w number (JoinOperator kind left right) a Left ≤ suc (length (list_of w number left))
  left_side-most number kind left right =
      most-after number (JoinOperator kind left right) Left number left
      (λ n. join_left-most key_cmp (merge_key (weights_in w) (terms left) (terms right)) (keys_of w number left) (keys_of w number right) (bar_of w number (JoinOperator kind left right) n))

  pub right_side-most : (number : ℕ) (kind : JoinKind) (left right : PlanTree) (a : ℕ) → asked_of w number (JoinOperator kind left right) a Right ≤ suc (length (list_of w number right))
  right_side-most number kind left right =
      most-after number (JoinOperator kind left right) Right number right
      (λ n. join_right-most key_cmp (merge_key (weights_in w) (terms left) (terms right)) (keys_of w number left) (keys_of w number right) (bar_of w number (JoinOperator kind left right) n))

  pub set_left_side-most : (number : ℕ) (left right : PlanTree) (a : ℕ) → asked_of w number (SetOperator left right) a Left ≤ suc (length (list_of w 1 left))
  set_left_side-most number left right =
      most-after number (SetOperator left right) Left 1 left
      (λ n. query_left-most w.query (keys_of w 1 left) (keys_of w 2 right) (bar_of w number (SetOperator left right) n))

  pub set_right_side-most : (number : ℕ) (left right : PlanTree) (a : ℕ) → asked_of w number (SetOperator left right) a Right ≤ suc (length (list_of w 2 right))
  set_right_side-most number left right =
      most-after number (SetOperator left right) Right 2 right
      (λ n. query_right-most w.query (keys_of w 1 left) (keys_of w 2 right) (bar_of w number (SetOperator left right) n))
