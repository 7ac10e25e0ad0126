-- How often a set operator asks each of its sides.
use Rattle.std.proofs.Common.{◌≡◌, ◌∙◌, ℕ, zero, suc, ◌+◌, ◌-◌, max, List, [], ◌∷◌, length, take, refl, sym, ap, arith}
use Rattle.std.proofs.lemmas.List.{length-map}
use Rattle.std.specs.List.{filter}
use Rattle.std.specs.Prelude.{Option}
use Rattle.rs_order.specs.Asks.{asks_for}
use Rattle.rs_order.specs.Climbing.{Climbs}
use Rattle.rs_order.specs.Schedule.{JoinSide, Left, Right, SideAsk, ask_numbers, asks_from, is_of_side, numbers_from, schedule}
use Rattle.rs_order.proofs.ReorderFacts.{asks_for-most}
use Rattle.rs_order.proofs.ScheduleFacts.{asked-from, left_scheduled, right_scheduled}
use Rattle.rs_rank.specs.Keys.{key_cmp}
use Rattle.rs_rank.specs.declared.key.Key.{Key}
use Rattle.rs_rank.proofs.OrderFacts.{key_cmp-total}
use Rattle.rs_rank.proofs.SetTurnFacts.{in-two, left-count}
use Rattle.rs_rank.specs.SetTurns.{one_by_one, set_schedule, wanted_for}
use Rattle.rs_expr.specs.Scoring.{Answering}
use Rattle.rs_catalog.specs.Catalog.{CatalogDef}
use Rattle.rs_query.specs.Views.{View}
use Rattle.rs_query.specs.declared.query.Query.{Query}
use Rattle.rs_query.specs.declared.query.Query.TheVariants.{One, Set}
use Rattle.rs_plan.specs.Asks.{bar_of, keys_of}
use Rattle.rs_plan.specs.Counts.{asked_of}
use Rattle.rs_plan.specs.Lists.{World, key_under, list_of}
use Rattle.rs_plan.specs.Trees.{SetOperator, PlanTree, terms}
use Rattle.rs_value.specs.declared.set_op.SetOp.{SetOp}
use Rattle.rs_value.specs.declared.set_op.SetOp.TheVariants as op
use Rattle.rs_exec.specs.Parts.{AreSides}
use Rattle.rs_exec.specs.SetNodes.{most_wanted, operator_of, right_asks}
use Rattle.rs_exec.proofs.DistinctStepFacts.{climbs-map}
use Rattle.rs_exec.proofs.ListFacts.{list-climbs}
use Rattle.rs_exec.proofs.SetStepFacts.{seen}

-- as many as their numbers
numbers-of : (side : JoinSide) (asks : List SideAsk) (n count : ℕ) → ask_numbers side asks ≡ numbers_from n count → length (filter (is_of_side side) asks) ≡ count
numbers-of side asks n count is =
    sym (length-map (filter (is_of_side side) asks) (λ (ask : SideAsk). ask.number)) ∙ ap (λ (numbers : List ℕ). length numbers) is ∙ go n count where
      go : (n count : ℕ) → length (numbers_from n count) ≡ count
      go n zero = refl
      go n (suc count) = ap suc (go (suc n) count)

-- INTERSECT and EXCEPT ask the right side as often as a left row wants
right-count : (rights lefts : List Key) (n asks count : ℕ)
    → asks + length (filter (is_of_side Right) (one_by_one rights lefts n asks count)) ≡ max asks (most_wanted rights (take count lefts))
right-count rights [] n asks zero = omega arith
right-count rights (left ∷ lefts) n asks zero = omega arith
right-count rights [] n asks (suc count) = omega arith
right-count rights (left ∷ lefts) n asks (suc count) =
    let behind = one_by_one rights lefts (suc n) (max asks (wanted_for rights left)) count in
    let two = in-two Right (asks_from Right (suc asks) (wanted_for rights left - asks)) behind in
    let some = asked-from Right (suc asks) (wanted_for rights left - asks) in
    let rest = right-count rights lefts (suc n) (max asks (wanted_for rights left)) count in
    omega arith

left-asked : (o : SetOp) (lefts rights : List Key) (bar : Option Key) → Climbs key_cmp (λ (k : Key). k) lefts
    → length (filter (is_of_side Left) (set_schedule o lefts rights bar)) ≡ asks_for key_cmp (λ (k : Key). k) lefts bar
left-asked op.UnionAll lefts rights bar climbs =
    numbers-of Left (schedule key_cmp lefts rights bar) 1 (asks_for key_cmp (λ (k : Key). k) lefts bar) (left_scheduled key_cmp key_cmp-total lefts rights bar climbs)
left-asked op.Union lefts rights bar climbs =
    numbers-of Left (schedule key_cmp lefts rights bar) 1 (asks_for key_cmp (λ (k : Key). k) lefts bar) (left_scheduled key_cmp key_cmp-total lefts rights bar climbs)
left-asked op.Intersect lefts rights bar climbs =
    left-count rights lefts 1 0 (asks_for key_cmp (λ (k : Key). k) lefts bar) (asks_for-most key_cmp (λ (k : Key). k) lefts bar)
left-asked op.Except lefts rights bar climbs =
    left-count rights lefts 1 0 (asks_for key_cmp (λ (k : Key). k) lefts bar) (asks_for-most key_cmp (λ (k : Key). k) lefts bar)

right-asked : (o : SetOp) (lefts rights : List Key) (bar : Option Key) → Climbs key_cmp (λ (k : Key). k) rights
    → length (filter (is_of_side Right) (set_schedule o lefts rights bar)) ≡ right_asks o lefts rights bar
right-asked op.UnionAll lefts rights bar climbs =
    numbers-of Right (schedule key_cmp lefts rights bar) 1 (asks_for key_cmp (λ (k : Key). k) rights bar) (right_scheduled key_cmp key_cmp-total lefts rights bar climbs)
right-asked op.Union lefts rights bar climbs =
    numbers-of Right (schedule key_cmp lefts rights bar) 1 (asks_for key_cmp (λ (k : Key). k) rights bar) (right_scheduled key_cmp key_cmp-total lefts rights bar climbs)
right-asked op.Intersect lefts rights bar climbs = let count = right-count rights lefts 1 0 (asks_for key_cmp (λ (k : Key). k) lefts bar) in omega arith
right-asked op.Except lefts rights bar climbs = let count = right-count rights lefts 1 0 (asks_for key_cmp (λ (k : Key). k) lefts bar) in omega arith

keys-climb : (w : World) (number : ℕ) (tree : PlanTree) → Climbs key_cmp (λ (k : Key). k) (keys_of w number tree)
keys-climb w number tree = climbs-map key_cmp (λ (k : Key). k) (key_under w (terms tree)) (list_of w number tree) (list-climbs w number tree)

module _ (catalogue : CatalogDef) (answer : Answering) (view : View) (left right : PlanTree) (n : ℕ) where
  pub left-asks : (query : Query) → AreSides catalogue query 1 left right
      → asked_of (seen catalogue answer view query) 1 (SetOperator left right) (suc n) Left
      ≡ asks_for key_cmp (λ (k : Key). k) (keys_of (seen catalogue answer view query) 1 left) (bar_of (seen catalogue answer view query) 1 (SetOperator left right) n)
  left-asks (One block limit) sides = absurd sides
  left-asks (Set o l r limit) sides =
      let w = seen catalogue answer view (Set o l r limit) in
      left-asked o (keys_of w 1 left) (keys_of w 2 right) (bar_of w 1 (SetOperator left right) n) (keys-climb w 1 left)

  pub right-asks : (query : Query) → AreSides catalogue query 1 left right
      → asked_of (seen catalogue answer view query) 1 (SetOperator left right) (suc n) Right
      ≡ right_asks (operator_of query) (keys_of (seen catalogue answer view query) 1 left) (keys_of (seen catalogue answer view query) 2 right) (bar_of (seen catalogue answer view query) 1 (SetOperator left right) n)
  right-asks (One block limit) sides = absurd sides
  right-asks (Set o l r limit) sides =
      let w = seen catalogue answer view (Set o l r limit) in
      right-asked o (keys_of w 1 left) (keys_of w 2 right) (bar_of w 1 (SetOperator left right) n) (keys-climb w 2 right)
