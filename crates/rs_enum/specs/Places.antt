-- Places that keep a plan for each signature, and what is found for one more.
use Rattle.std.specs.Prelude.{ℕ, ◌≡◌, ◌<◌, ◌+◌, ◌*◌, ◌^◌, List, length, Option, Some, None, option_and_then, option_map, slice_get, nat_lt, bit_or, count_ones, ◌≤◌, if◌then◌else◌}
use Rattle.rs_catalog.specs.Catalog.{CatalogDef}
use Rattle.rs_rank.specs.Masks.{AreDisjoint}
use Rattle.rs_query.specs.declared.query.Query.{Query}
use Rattle.rs_sample.specs.Cards.{BlockCards}
use Rattle.rs_query.specs.Blocks.{block_in}
use Rattle.rs_plan.specs.Plans.{HasNoDistinct, IsPart, IsRankScan}
use Rattle.rs_plan.specs.Trees.{Distinct, Hash, JoinOperator, Nested, PlanTree, Rank, RankScan, SeqScan, SetOperator, entries, terms, join_number}
use Rattle.rs_enum.specs.declared.candidate.Candidate.{Candidate}
use Rattle.rs_enum.specs.declared.candidate.Choice.{Choice}
use Rattle.rs_enum.specs.declared.candidate.Sides.{Sides}
use Rattle.rs_enum.specs.declared.candidate.Choice.TheVariants as choice
use Rattle.rs_enum.specs.Bounds.{most_cost}
use Rattle.rs_enum.specs.Candidates.{IsCandidate}
use Rattle.rs_enum.specs.Costs.{cost_of, estimate_of}
use Rattle.rs_enum.specs.Firsts.{IsOneAt, IsTheFirstBelow, IsTheOneAt}
use Rattle.rs_enum.specs.Least.{ComesNoLater}

-- a plan that is kept, with its cost
pub record Placed : Type 0 where
  pub cost : ℕ
  pub plan : PlanTree

-- what was found for a signature, where a block has this many terms: entries decide before terms
abbrev pub candidate_at : ℕ → List (Option Candidate) → ℕ → ℕ → Option Candidate
candidate_at count places first second = option_and_then (λ (found : Option Candidate). found) (slice_get places (first * 2 ^ count + second))

-- and what is kept of it
abbrev pub kept_at : ℕ → List (Option Placed) → ℕ → ℕ → Option Placed
kept_at count places first second = option_and_then (λ (kept : Option Placed). kept) (slice_get places (first * 2 ^ count + second))

abbrev pub tree_at : ℕ → List (Option Placed) → ℕ → ℕ → Option PlanTree
tree_at count places first second = option_map (λ (kept : Placed). kept.plan) (kept_at count places first second)

-- a plan that is kept of a signature of the first block, with its cost
pub record IsKept (catalogue : CatalogDef) (query : Query) (cards : List BlockCards) (first second : ℕ) (kept : Placed) : Type 0 where
  pub part : IsPart catalogue (block_in query 1) kept.plan
  pub whole : HasNoDistinct kept.plan
  pub its_entries : entries kept.plan ≡ first
  pub its_terms : terms kept.plan ≡ second
  pub cost : kept.cost ≡ cost_of catalogue query cards kept.plan
  pub spare : kept.cost + 2 ^ 105 ≤ most_cost first second

-- all that is kept is so
abbrev pub AreKept : CatalogDef → Query → List BlockCards → List (Option Placed) → Type 0
AreKept catalogue query cards places =
    (first second : ℕ) (kept : Placed) → second < 2 ^ length (block_in query 1).terms
    → kept_at (length (block_in query 1).terms) places first second ≡ Some kept → IsKept catalogue query cards first second kept

-- how a plan is made of kept ones, where it can be
abbrev pub choice_of : PlanTree → Option Choice
choice_of (SeqScan entry) = Some (choice.SeqScan entry)
choice_of (RankScan entry term index) = Some (choice.RankScan entry term index)
choice_of (Rank term child) = Some (choice.Rank term)
choice_of (JoinOperator Hash left right) = Some (choice.HashJoin (entries left))
choice_of (JoinOperator Nested left right) = Some (choice.NestedJoin (entries left))
choice_of (Distinct child) = None
choice_of (SetOperator left right) = None

-- the first two numbers of a plan's code as one
abbrev pub start_of : PlanTree → ℕ
start_of (SeqScan entry) = 1 * 256 + entry
start_of (RankScan entry term index) = 2 * 256 + entry
start_of (Rank term child) = 3 * 256 + term
start_of (JoinOperator kind left right) = join_number kind * 256 + entries left
start_of (Distinct child) = 6 * 256
start_of (SetOperator left right) = 7 * 256

-- a plan that can be made of kept ones for a signature
abbrev pub CanBeMade : CatalogDef → Query → List (Option Placed) → ℕ → ℕ → PlanTree → Type 0
CanBeMade catalogue query places first second tree =
    IsCandidate catalogue (block_in query 1) (tree_at (length (block_in query 1).terms) places) first second tree

-- a candidate stands for such a plan
pub record StandsFor (catalogue : CatalogDef) (query : Query) (cards : List BlockCards) (places : List (Option Placed)) (first second : ℕ)
    (found : Candidate) (tree : PlanTree) : Type 0 where
  pub made : CanBeMade catalogue query places first second tree
  pub chosen : choice_of tree ≡ Some found.choice
  pub cost : found.cost ≡ cost_of catalogue query cards tree
  pub spare : found.cost + 2 ^ 105 ≤ most_cost first second

-- what is kept of the sides of a join of a signature, where the left one has these entries
pub record AreSides (catalogue : CatalogDef) (query : Query) (cards : List BlockCards) (places : List (Option Placed)) (first second left : ℕ) (found : Sides) : Type 0 where
  pub l : PlanTree
  pub r : PlanTree
  pub left_kept : tree_at (length (block_in query 1).terms) places (entries l) (terms l) ≡ Some l
  pub right_kept : tree_at (length (block_in query 1).terms) places (entries r) (terms r) ≡ Some r
  pub left_part : IsPart catalogue (block_in query 1) l
  pub right_part : IsPart catalogue (block_in query 1) r
  pub left_whole : HasNoDistinct l
  pub right_whole : HasNoDistinct r
  pub left_entries : entries l ≡ left
  pub apart : AreDisjoint (entries l) (entries r)
  pub both_entries : bit_or (entries l) (entries r) ≡ first
  pub both_terms : bit_or (terms l) (terms r) ≡ second
  pub left_cost : found.left_cost ≡ cost_of catalogue query cards l
  pub right_cost : found.right_cost ≡ cost_of catalogue query cards r
  pub left_rows : found.left_rows ≡ estimate_of cards 1 l
  pub right_rows : found.right_rows ≡ estimate_of cards 1 r
  pub left_spare : found.left_cost + 2 ^ 105 ≤ most_cost (entries l) (terms l)
  pub right_spare : found.right_cost + 2 ^ 105 ≤ most_cost (entries r) (terms r)
  pub left_few : found.left_rows ≤ 131072 ^ count_ones (entries l)
  pub right_few : found.right_rows ≤ 131072 ^ count_ones (entries r)

-- no two kept plans are such sides
abbrev pub AreNoSides : CatalogDef → Query → List (Option Placed) → ℕ → ℕ → ℕ → Type 0
AreNoSides catalogue query places first second left =
    (l r : PlanTree) → IsPart catalogue (block_in query 1) l → IsPart catalogue (block_in query 1) r → AreDisjoint (entries l) (entries r)
    → bit_or (entries l) (entries r) ≡ first → bit_or (terms l) (terms r) ≡ second → entries l ≡ left
    → tree_at (length (block_in query 1).terms) places (entries l) (terms l) ≡ Some l
    → tree_at (length (block_in query 1).terms) places (entries r) (terms r) ≡ Some r → ⊥

abbrev pub AreTheSides : CatalogDef → Query → List BlockCards → List (Option Placed) → ℕ → ℕ → ℕ → Option Sides → Type 0
AreTheSides catalogue query cards places first second left (Some found) = AreSides catalogue query cards places first second left found
AreTheSides catalogue query cards places first second left None = AreNoSides catalogue query places first second left

-- what is found is the scan of an entry in the order of a term, if there is one
pub record IsScan (catalogue : CatalogDef) (query : Query) (cards : List BlockCards) (entry term : ℕ) (found : Candidate) : Type 0 where
  pub index : ℕ
  pub part : IsRankScan catalogue (block_in query 1) entry term index
  pub chosen : found.choice ≡ choice.RankScan entry term index
  pub cost : found.cost ≡ cost_of catalogue query cards (RankScan entry term index)
  pub few : found.cost ≤ 2 ^ 18

abbrev pub IsTheScan : CatalogDef → Query → List BlockCards → ℕ → ℕ → Option Candidate → Type 0
IsTheScan catalogue query cards entry term (Some found) = IsScan catalogue query cards entry term found
IsTheScan catalogue query cards entry term None = (index : ℕ) → IsRankScan catalogue (block_in query 1) entry term index → ⊥

-- what is found is the one plan whose code starts so, if there is one
abbrev pub IsOne : CatalogDef → Query → List BlockCards → List (Option Placed) → ℕ → ℕ → ℕ → Candidate → Type 0
IsOne catalogue query cards places first second start found =
    IsOneAt (CanBeMade catalogue query places first second) (StandsFor catalogue query cards places first second) (cost_of catalogue query cards) start_of start found

abbrev pub IsTheOne : CatalogDef → Query → List BlockCards → List (Option Placed) → ℕ → ℕ → ℕ → Option Candidate → Type 0
IsTheOne catalogue query cards places first second start found =
    IsTheOneAt (CanBeMade catalogue query places first second) (StandsFor catalogue query cards places first second) (cost_of catalogue query cards) start_of start found

-- what is found comes no later than all plans whose codes start below a number, if there is one
abbrev pub IsTheFirst : CatalogDef → Query → List BlockCards → List (Option Placed) → ℕ → ℕ → ℕ → Option Candidate → Type 0
IsTheFirst catalogue query cards places first second bound found =
    IsTheFirstBelow (CanBeMade catalogue query places first second) (StandsFor catalogue query cards places first second) (cost_of catalogue query cards) start_of bound found

-- the cheaper one of two, and of equal ones the first
abbrev pub cheaper : Option Candidate → Option Candidate → Option Candidate
cheaper None next = next
cheaper (Some best) None = Some best
cheaper (Some best) (Some next) = (if nat_lt next.cost best.cost then Some next else Some best)

-- what is kept of a candidate: a plan that it stands for, with its cost
pub record IsKeptOf (catalogue : CatalogDef) (query : Query) (places : List (Option Placed)) (first second : ℕ) (found : Candidate) (made : Option Placed) : Type 0 where
  pub kept : Placed
  pub is : made ≡ Some kept
  pub cost : kept.cost ≡ found.cost
  pub tree : (tree : PlanTree) → CanBeMade catalogue query places first second tree → choice_of tree ≡ Some found.choice → kept.plan ≡ tree

abbrev pub IsMadeOf : CatalogDef → Query → List (Option Placed) → ℕ → ℕ → Option Candidate → Option Placed → Type 0
IsMadeOf catalogue query places first second None made = made ≡ None
IsMadeOf catalogue query places first second (Some found) made = IsKeptOf catalogue query places first second found made

-- what is kept of a signature comes no later than a plan
pub record KeepsFirst (catalogue : CatalogDef) (query : Query) (cards : List BlockCards) (places : List (Option Placed)) (first second : ℕ) (tree : PlanTree) : Type 0 where
  pub kept : Placed
  pub is : kept_at (length (block_in query 1).terms) places first second ≡ Some kept
  pub no_later : ComesNoLater catalogue query cards kept.plan tree

-- each place keeps a plan of its signature that comes no later than all that are made of kept ones, where there is one
pub record IsFilled (catalogue : CatalogDef) (query : Query) (cards : List BlockCards) (places : List (Option Placed)) : Type 0 where
  pub kept : AreKept catalogue query cards places
  pub first : (first second : ℕ) (tree : PlanTree) → second < 2 ^ length (block_in query 1).terms
      → first * 2 ^ length (block_in query 1).terms + second < length places → CanBeMade catalogue query places first second tree
      → KeepsFirst catalogue query cards places first second tree
