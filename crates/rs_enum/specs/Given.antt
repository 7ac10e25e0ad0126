-- What the functions of the optimiser are given, and what they find.
use Rattle.std.specs.Prelude.{ℕ, ◌≡◌, ◌<◌, ◌≤◌, ◌+◌, ◌^◌, List, get_or, length, Option, Some, option_map, if◌then◌else◌}
use Rattle.rs_query.specs.Tables.{all_entries}
use Rattle.rs_query.specs.WellFormed.{IsQuery}
use Rattle.rs_query.specs.declared.block.Block.{Block}
use Rattle.rs_query.specs.declared.query.Query.{Query}
use Rattle.rs_sample.specs.Cards.{BlockCards}
use Rattle.rs_sample.specs.Kept.{cards_of}
use Rattle.rs_query.specs.Blocks.{block_in}
use Rattle.rs_plan.specs.Plans.{HasNoDistinct}
use Rattle.rs_plan.specs.Trees.{Distinct, JoinOperator, PlanTree, Rank, RankScan, SeqScan, SetOperator, entries, terms}
use Rattle.rs_enum.specs.Bounds.{most_cost, most_set_cost}
use Rattle.rs_enum.specs.Costs.{cost_in, cost_of}
use Rattle.rs_enum.specs.declared.candidate.Candidate.{Candidate}
use Rattle.rs_enum.specs.declared.candidate.Choice.{Choice}
use Rattle.rs_enum.specs.declared.candidate.Choice.TheVariants as choice
use Rattle.rs_enum.specs.declared.extent.Extent.{Extent}
use Rattle.rs_enum.specs.declared.extent.Extent.TheVariants as whole
use Rattle.rs_enum.specs.declared.planning.Planning.{Planning}
use Rattle.rs_enum.specs.declared.row.Row.{Row}
use Rattle.rs_enum.specs.declared.search.Search.{Search}
use Rattle.rs_enum.specs.LeastCosts.{HasCost}
use Rattle.rs_enum.specs.Made.{AreBuilt, IsRankBuilt, kept_plans}
use Rattle.rs_enum.specs.Places.{AreKept, IsFilled, Placed, candidate_at, kept_at}
use Rattle.rs_enum.specs.QueryCards.{AreCards, IsBlockNumber, alone, alone_cards}
use Rattle.rs_enum.specs.Within.{terms_within}
use Rattle.rs_enum.specs.Tops.{AreTops, IsExtent, IsTheBase, IsTheFirstTop, IsTheOneTop, IsTopped, number_of, plan_of}

-- the query is well formed, and the cards are its own
pub record CanPlan (planning : Planning) : Type 0 where
  pub query : IsQuery planning.catalog.now planning.query.now
  pub cards : AreCards planning.query.now (cards_of planning.cards.now)

-- a cost is that of a part of a plan of the block of this number, and within its bounds
pub record IsPartCost (planning : Planning) (number : ℕ) (tree : PlanTree) (cost : ℕ) : Type 0 where
  pub value : cost ≡ cost_in planning.catalog.now planning.query.now (cards_of planning.cards.now) number tree
  pub most : cost ≤ most_cost (entries tree) (terms tree)
  pub spare : HasNoDistinct tree → cost + 2 ^ 105 ≤ most_cost (entries tree) (terms tree)

-- the costs of what is below a node: of its child, or of its left side and of its right one
abbrev pub AreBelow : Planning → ℕ → PlanTree → ℕ → ℕ → Type 0
AreBelow planning number (SeqScan entry) first second = Unit {0}
AreBelow planning number (RankScan entry term index) first second = Unit {0}
AreBelow planning number (Rank term child) first second = IsPartCost planning number child first
AreBelow planning number (JoinOperator kind left right) first second = IsPartCost planning number left first × IsPartCost planning number right second
AreBelow planning number (Distinct child) first second = IsPartCost planning number child first
AreBelow planning number (SetOperator left right) first second = Unit {0}

-- the cost of a set operator, or of operators for terms above one
pub record IsSetCost (planning : Planning) (tree : PlanTree) (cost : ℕ) : Type 0 where
  pub value : cost ≡ cost_of planning.catalog.now planning.query.now (cards_of planning.cards.now) tree
  pub most : cost ≤ most_set_cost (terms tree)

abbrev pub AreBelowSet : Planning → PlanTree → ℕ → ℕ → Type 0
AreBelowSet planning (SeqScan entry) first second = Unit {0}
AreBelowSet planning (RankScan entry term index) first second = Unit {0}
AreBelowSet planning (Rank term child) first second = IsSetCost planning child first
AreBelowSet planning (JoinOperator kind left right) first second = Unit {0}
AreBelowSet planning (Distinct child) first second = Unit {0}
AreBelowSet planning (SetOperator left right) first second = IsPartCost planning 1 left first × IsPartCost planning 2 right second

-- the block whose plans are looked for, also as a query of its own, and its cards
abbrev pub block_of : Search → Block
block_of search = block_in search.planning.query.now search.number

abbrev pub query_in : Search → Query
query_in search = alone search.planning.query.now search.number

abbrev pub cards_in : Search → List BlockCards
cards_in search = alone_cards (cards_of search.planning.cards.now) search.number

-- what is kept of lesser signatures
abbrev pub kept_in : Search → List (Option Placed)
kept_in search = kept_plans (block_of search).terms search.places.now

-- it is a block of the query, the masks of terms are its own, and the places keep plans of it
pub record CanSearch (search : Search) : Type 0 where
  pub planning : CanPlan search.planning
  pub number : IsBlockNumber (cards_of search.planning.cards.now) search.number
  pub inside : (entries : ℕ) → entries < 64 → get_or search.inside.now entries 0 ≡ terms_within entries (block_of search).terms
  pub kept : AreKept search.planning.catalog.now (query_in search) (cards_in search) (kept_in search)

-- the block of this number
abbrev pub block_at : Planning → ℕ → Block
block_at planning number = block_in planning.query.now number

-- what is kept of the plans of a block, by a row of places and a mask of terms
abbrev pub kept_of : Planning → ℕ → List (Option Candidate) → ℕ → ℕ → Option Placed
kept_of planning number places first second =
    kept_at (length (block_at planning number).terms) (kept_plans (block_at planning number).terms places) first second

-- the row of the complete plans of a block
abbrev pub top_row : Block → ℕ
top_row block = (if block.distinct then 2 ^ length block.from else all_entries block)

-- the first plans of all entries, of each mask of terms below a number
abbrev pub AreTopsOf : Planning → Extent → ℕ → (ℕ → Option Placed) → Type 0
AreTopsOf planning extent count tops = AreTops planning.catalog.now planning.query.now (cards_of planning.cards.now) extent count tops

-- each signature of a block without duplicates dropped has its first plan
abbrev pub IsFilledOf : Planning → ℕ → List (Option Candidate) → Type 0
IsFilledOf planning number places =
    IsFilled planning.catalog.now (alone planning.query.now number) (alone_cards (cards_of planning.cards.now) number)
    (kept_plans (block_at planning number).terms places)

-- what was found of a block: its least costs, its complete plans, and how they are built
pub record AreFound (planning : Planning) (number : ℕ) (places : List (Option Candidate)) : Type 0 where
  pub costs : (first second : ℕ) → first < 2 ^ length (block_at planning number).from → second < 2 ^ length (block_at planning number).terms
      → HasCost planning.catalog.now planning.query.now (cards_of planning.cards.now) number first second
      (option_map (λ (found : Candidate). found.cost) (candidate_at (length (block_at planning number).terms) places first second))
  pub tops : AreTopsOf planning (whole.Block number) (2 ^ length (block_at planning number).terms)
      (kept_of planning number places (top_row (block_at planning number)))
  pub built : AreBuilt (block_at planning number).terms places

-- plans are looked for above a plan that drops duplicates, or above the set operator
pub record CanRank (row : Row) : Type 0 where
  pub planning : CanPlan row.planning
  pub extent : IsExtent row.planning.query.now (cards_of row.planning.cards.now) row.extent
  pub topped : IsTopped row.planning.query.now row.extent

-- the block whose terms are evaluated
abbrev pub block_above : Row → Block
block_above row = block_in row.planning.query.now (number_of row.extent)

-- these are the first plans of fewer terms, and cost what was found
pub record AreTopsIn (row : Row) (evaluated : ℕ) (view : ℕ → Option Placed) : Type 0 where
  pub tops : AreTopsOf row.planning row.extent evaluated view
  pub costs : (other : ℕ) → other < evaluated → option_map (λ (kept : Placed). kept.cost) (view other)
      ≡ option_map (λ (found : Candidate). found.cost) (candidate_at (length (block_above row).terms) row.places.now row.entries other)

pub record HasTops (row : Row) (evaluated : ℕ) : Type 0 where
  pub view : ℕ → Option Placed
  pub are : AreTopsIn row evaluated view

-- the first operator for a term over them, if there is one; whatever stands there without an operator for a term
abbrev pub IsTheRankOf : Row → (ℕ → Option Placed) → ℕ → ℕ → Option Candidate → Type 0
IsTheRankOf row tops evaluated term found =
    (base : Option Placed) → IsTheOneTop row.planning.catalog.now row.planning.query.now (cards_of row.planning.cards.now) row.extent base tops evaluated term found

-- the first of all with an operator for a term below a number at the root
abbrev pub IsTheFirstIn : Row → Option Placed → (ℕ → Option Placed) → ℕ → ℕ → Option Candidate → Type 0
IsTheFirstIn row base tops evaluated bound found =
    IsTheFirstTop row.planning.catalog.now row.planning.query.now (cards_of row.planning.cards.now) row.extent base tops evaluated bound found

abbrev pub IsTheBaseOf : Planning → Extent → ℕ → Option Placed → Type 0
IsTheBaseOf planning extent evaluated base = IsTheBase planning.catalog.now planning.query.now (cards_of planning.cards.now) extent evaluated base

-- a plan that has the set operator is built of what is kept of fewer terms, or of both blocks, as a choice says
abbrev pub IsSetBuiltOf : (ℕ → Option Placed) → (ℕ → Option Placed) → (ℕ → Option Placed) → ℕ → Choice → PlanTree → Type 0
IsSetBuiltOf left right tops evaluated (choice.Rank term) plan =
    (child : PlanTree) × (plan ≡ Rank term child) × IsRankBuilt (λ other. plan_of (tops other)) evaluated term child
IsSetBuiltOf left right tops evaluated other plan =
    (l : PlanTree) × (r : PlanTree) × (plan ≡ SetOperator l r) × (plan_of (left evaluated) ≡ Some l) × (plan_of (right evaluated) ≡ Some r)

pub record IsSetBuilt (left right tops : ℕ → Option Placed) (evaluated : ℕ) (chosen : Choice) : Type 0 where
  pub plan : PlanTree
  pub is : plan_of (tops evaluated) ≡ Some plan
  pub built : IsSetBuiltOf left right tops evaluated chosen plan

-- what is kept of the complete plans of a block
abbrev pub complete_of : Planning → ℕ → List (Option Candidate) → ℕ → Option Placed
complete_of planning number places = kept_of planning number places (top_row (block_at planning number))

-- what was found of both blocks, of the masks of terms below a number: the first plans that have the set operator, and how they
-- are built
pub record AreSetFound (planning : Planning) (left right both : List (Option Candidate)) (count : ℕ) : Type 0 where
  pub view : ℕ → Option Placed
  pub tops : AreTopsOf planning whole.Both count view
  pub costs : (evaluated : ℕ) → evaluated < count → option_map (λ (kept : Placed). kept.cost) (view evaluated)
      ≡ option_map (λ (found : Candidate). found.cost) (candidate_at (length (block_at planning 1).terms) both 0 evaluated)
  pub built : (evaluated : ℕ) (found : Candidate) → evaluated < count
      → candidate_at (length (block_at planning 1).terms) both 0 evaluated ≡ Some found
      → IsSetBuilt (complete_of planning 1 left) (complete_of planning 2 right) view evaluated found.choice
