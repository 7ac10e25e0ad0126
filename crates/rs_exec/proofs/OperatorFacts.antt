-- The children of an operator, whichever it is: what they are, what comes with each ask of them, and how often they are asked.
use Rattle.std.proofs.Common.{◌≡◌, ℕ, zero, suc, ◌-◌, ◌≤◌, List, [], ◌++◌, length, refl, sym, ap, inl, inr, arith, append-nil}
use Rattle.std.specs.List.{flat_map}
use Rattle.std.specs.Prelude.{slice_get}
use Rattle.rs_order.specs.Asks.{asks_for}
use Rattle.rs_order.specs.Schedule.{JoinSide, Left, Right, SideAsk, asked, asks_from}
use Rattle.rs_rank.specs.Keys.{key_cmp}
use Rattle.rs_rank.specs.declared.key.Key.{Key}
use Rattle.rs_catalog.specs.Catalog.{CatalogDef}
use Rattle.rs_expr.specs.Scoring.{Answering}
use Rattle.rs_query.specs.Questions.{Question}
use Rattle.rs_query.specs.declared.query.Query.{Query}
use Rattle.rs_query.specs.declared.query.Query.TheVariants.{One, Set}
use Rattle.rs_plan.specs.Asks.{bar_of, child_asks, keys_of}
use Rattle.rs_plan.specs.Calls.{own_question, part_of, questions, questions_of_ask, rank_part, side_part}
use Rattle.rs_plan.specs.Counts.{asked_of}
use Rattle.rs_plan.specs.Lists.{World, list_of}
use Rattle.rs_plan.specs.Trees.{Distinct, JoinOperator, Rank, RankScan, SeqScan, SetOperator, PlanTree}
use Rattle.rs_plan.proofs.ChildAskFacts.{distinct_child-most, left_side-most, rank_child-most, right_side-most, set_left_side-most, set_right_side-most}
use Rattle.rs_exec.specs.Asked.{HasBlock}
use Rattle.rs_exec.specs.Indexes.{PlanIndexesHold}
use Rattle.rs_exec.specs.Parts.{IsPartOf}
use Rattle.rs_exec.specs.Sides.{of_side}
use Rattle.rs_exec.proofs.PlacesFacts.{part-of}

-- the number of the block of a child, and its part of the plan; an only child is the left one. What has no child is its own here
abbrev pub number_on : ℕ → PlanTree → JoinSide → ℕ
number_on number (SetOperator left right) side = of_side 1 2 side
number_on number tree side = number

abbrev pub child_on : PlanTree → JoinSide → PlanTree
child_on (Rank term child) side = child
child_on (Distinct child) side = child
child_on (JoinOperator kind left right) side = of_side left right side
child_on (SetOperator left right) side = of_side left right side
child_on tree side = tree

-- what comes with an ask of a child, and what the operator itself puts behind the child's questions for row n + 1
abbrev pub puts_of : World → ℕ → PlanTree → SideAsk → List Question
puts_of w number (Rank term child) = rank_part w term (list_of w number child) (questions w number child)
puts_of w number (Distinct child) = λ (ask : SideAsk). part_of (questions w number child) ask.number
puts_of w number (JoinOperator kind left right) = side_part (questions w number left) (questions w number right)
puts_of w number (SetOperator left right) = side_part (questions w 1 left) (questions w 2 right)
puts_of w number tree = λ (ask : SideAsk). []

abbrev pub own_of : World → ℕ → PlanTree → ℕ → List Question
own_of w number (Rank term child) n = own_question w term (slice_get (list_of w number child) n)
own_of w number tree n = []

pub questions-are : (w : World) (number : ℕ) (tree : PlanTree) (a : ℕ) → questions w number tree a ≡ flat_map (puts_of w number tree) (child_asks w number tree a)
questions-are w number (SeqScan entry) zero = refl
questions-are w number (SeqScan entry) (suc n) = refl
questions-are w number (RankScan entry term index) zero = refl
questions-are w number (RankScan entry term index) (suc n) = refl
questions-are w number (Rank term child) a = refl
questions-are w number (Distinct child) a = refl
questions-are w number (JoinOperator kind left right) a = refl
questions-are w number (SetOperator left right) a = refl

pub puts-are : (w : World) (number : ℕ) (tree : PlanTree) (side : JoinSide) (n : ℕ)
    → puts_of w number tree (record { side = side; number = suc n }) ≡ questions_of_ask w (number_on number tree side) (child_on tree side) (suc n) ++ own_of w number tree n
puts-are w number (SeqScan entry) side n = refl
puts-are w number (RankScan entry term index) side n = refl
puts-are w number (Rank term child) side n =
    let place : suc n - 1 ≡ n = omega arith in
    ap (λ k. questions_of_ask w number child (suc n) ++ own_question w term (slice_get (list_of w number child) k)) place
puts-are w number (Distinct child) side n = sym (append-nil (questions_of_ask w number child (suc n)))
puts-are w number (JoinOperator kind left right) Left n = sym (append-nil (questions_of_ask w number left (suc n)))
puts-are w number (JoinOperator kind left right) Right n = sym (append-nil (questions_of_ask w number right (suc n)))
puts-are w number (SetOperator left right) Left n = sym (append-nil (questions_of_ask w 1 left (suc n)))
puts-are w number (SetOperator left right) Right n = sym (append-nil (questions_of_ask w 2 right (suc n)))

-- asks of one side are none of the other
right-none : (n count : ℕ) → asked Right (asks_from Left n count) ≡ 0
right-none n zero = refl
right-none n (suc count) = right-none (suc n) count

-- a child is asked at most once more than its list has rows
pub child-most : (w : World) (number : ℕ) (tree : PlanTree) (a : ℕ) (side : JoinSide)
    → asked_of w number tree a side ≤ suc (length (list_of w (number_on number tree side) (child_on tree side)))
child-most w number tree zero Left = omega arith
child-most w number tree zero Right = omega arith
child-most w number (SeqScan entry) (suc n) Left = omega arith
child-most w number (SeqScan entry) (suc n) Right = omega arith
child-most w number (RankScan entry term index) (suc n) Left = omega arith
child-most w number (RankScan entry term index) (suc n) Right = omega arith
child-most w number (Rank term child) (suc n) Left = rank_child-most w number term child (suc n)
child-most w number (Rank term child) (suc n) Right =
    let none : asked_of w number (Rank term child) (suc n) Right ≡ 0 = right-none 1 (asks_for key_cmp (λ (key : Key). key) (keys_of w number child) (bar_of w number (Rank term child) n)) in
    omega arith
child-most w number (Distinct child) (suc n) Left = distinct_child-most w number child (suc n)
child-most w number (Distinct child) (suc n) Right =
    let none : asked_of w number (Distinct child) (suc n) Right ≡ 0 = right-none 1 (asks_for key_cmp (λ (key : Key). key) (keys_of w number child) (bar_of w number (Distinct child) n)) in
    omega arith
child-most w number (JoinOperator kind left right) (suc n) Left = left_side-most w number kind left right (suc n)
child-most w number (JoinOperator kind left right) (suc n) Right = right_side-most w number kind left right (suc n)
child-most w number (SetOperator left right) (suc n) Left = set_left_side-most w number left right (suc n)
child-most w number (SetOperator left right) (suc n) Right = set_right_side-most w number left right (suc n)

-- a part of a plan of a query, with this number, whose indexes hold the answers
pub record IsHeldPart (catalogue : CatalogDef) (answer : Answering) (query : Query) (number : ℕ) (tree : PlanTree) : Type 0 where
  pub number_is : HasBlock query number
  pub part : IsPartOf catalogue query number tree
  pub indexes : PlanIndexesHold answer catalogue tree

-- so is each child of it
pub child-held : (catalogue : CatalogDef) (answer : Answering) (query : Query) (number : ℕ) (tree : PlanTree) (side : JoinSide) → IsHeldPart catalogue answer query number tree
    → IsHeldPart catalogue answer query (number_on number tree side) (child_on tree side)
child-held catalogue answer query number (SeqScan entry) side is = is
child-held catalogue answer query number (RankScan entry term index) side is = is
child-held catalogue answer query number (Rank term child) side is = record { number_is = is.number_is; part = is.part.0; indexes = is.indexes }
child-held catalogue answer query number (Distinct child) side is = record { number_is = is.number_is; part = part-of catalogue query number child is.part.0; indexes = is.indexes }
child-held catalogue answer query number (JoinOperator kind left right) Left is = record { number_is = is.number_is; part = part-of catalogue query number left is.part.0; indexes = is.indexes.0 }
child-held catalogue answer query number (JoinOperator kind left right) Right is = record { number_is = is.number_is; part = part-of catalogue query number right is.part.1; indexes = is.indexes.1 }
child-held catalogue answer (One block limit) number (SetOperator left right) side is = absurd is.part
child-held catalogue answer (Set op l r limit) number (SetOperator left right) Left is =
    record { number_is = inl refl; part = part-of catalogue (Set op l r limit) 1 left is.part.1.part; indexes = is.indexes.0 }
child-held catalogue answer (Set op l r limit) number (SetOperator left right) Right is =
    record { number_is = inr refl; part = part-of catalogue (Set op l r limit) 2 right is.part.2.part; indexes = is.indexes.1 }
