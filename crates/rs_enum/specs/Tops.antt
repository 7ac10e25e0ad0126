-- Plans of all entries of a block, or of both blocks of a query, by the terms that they evaluate, and what is kept of them.
use Rattle.std.specs.Prelude.{ℕ, ◌≡◌, ◌<◌, ◌≤◌, ◌+◌, ◌^◌, true, List, Option, Some, None, option_and_then, option_map}
use Rattle.rs_catalog.specs.Catalog.{CatalogDef}
use Rattle.rs_query.specs.Tables.{all_entries}
use Rattle.rs_query.specs.declared.query.Query.{Query}
use Rattle.rs_query.specs.declared.query.Query.TheVariants.{One, Set}
use Rattle.rs_sample.specs.Cards.{BlockCards}
use Rattle.rs_query.specs.Blocks.{block_in}
use Rattle.rs_plan.specs.Plans.{HasNoDistinct, IsComplete, IsPart}
use Rattle.rs_plan.specs.Trees.{Distinct, JoinOperator, PlanTree, Rank, RankScan, SeqScan, SetOperator, entries, terms}
use Rattle.rs_enum.specs.declared.extent.Extent.{Extent}
use Rattle.rs_enum.specs.declared.extent.Extent.TheVariants as whole
use Rattle.rs_enum.specs.Bounds.{IsSetPart, most_cost, most_set_cost}
use Rattle.rs_enum.specs.declared.candidate.Candidate.{Candidate}
use Rattle.rs_enum.specs.declared.candidate.Choice.{Choice}
use Rattle.rs_enum.specs.declared.candidate.Choice.TheVariants as choice
use Rattle.rs_enum.specs.Costs.{cost_in}
use Rattle.rs_enum.specs.Firsts.{IsFirstBelow, IsOneAt, IsTheFirstBelow, IsTheOneAt, NoLaterBy}
use Rattle.rs_enum.specs.Made.{IsRankBuilt}
use Rattle.rs_enum.specs.Places.{Placed}
use Rattle.rs_enum.specs.QueryCards.{IsBlockNumber, cards_at}

-- the block whose terms are evaluated
abbrev pub number_of : Extent → ℕ
number_of (whole.Block number) = number
number_of whole.Both = 1

-- a tree of all entries: a plan of the block, or the set operator of both blocks, or operators for terms above it
abbrev pub IsWhole : CatalogDef → Query → Extent → PlanTree → Type 0
IsWhole catalogue query (whole.Block number) tree = IsComplete catalogue (block_in query number) tree
IsWhole catalogue query whole.Both tree = IsSetPart catalogue query tree

abbrev pub whole_cost : CatalogDef → Query → List BlockCards → Extent → PlanTree → ℕ
whole_cost catalogue query cards extent tree = cost_in catalogue query cards (number_of extent) tree

-- how many rows are expected of it, once these terms are evaluated
abbrev pub whole_rows : Query → List BlockCards → Extent → ℕ → ℕ
whole_rows query cards (whole.Block number) evaluated = (cards_at cards number).estimate (all_entries (block_in query number)) evaluated
whole_rows query cards whole.Both evaluated =
    (cards_at cards 1).estimate (all_entries (block_in query 1)) evaluated + (cards_at cards 2).estimate (all_entries (block_in query 2)) evaluated

-- what it costs at most
abbrev pub most_whole : Query → Extent → ℕ → ℕ
most_whole query (whole.Block number) evaluated = most_cost (all_entries (block_in query number)) evaluated
most_whole query whole.Both evaluated = most_set_cost evaluated

abbrev pub rows_most : Extent → ℕ
rows_most (whole.Block number) = 2 ^ 102
rows_most whole.Both = 2 ^ 103

-- duplicates are dropped, or there are two blocks: then operators for terms can stand above these
abbrev pub IsTopped : Query → Extent → Type 0
IsTopped query (whole.Block number) = (block_in query number).distinct ≡ true
IsTopped query whole.Both = Unit {0}

-- there are cards of the block, or a second block
abbrev pub IsExtent : Query → List BlockCards → Extent → Type 0
IsExtent query cards (whole.Block number) = IsBlockNumber cards number
IsExtent (One block limit) cards whole.Both = ⊥
IsExtent (Set op left right limit) cards whole.Both = Unit {0}

-- a tree of a kind that is kept of some terms, with its cost
pub record IsTop (Of : PlanTree → Type 0) (value : PlanTree → ℕ) (Fits : ℕ → ℕ → Type 0) (evaluated : ℕ) (kept : Placed) : Type 0 where
  pub is : Of kept.plan
  pub its_terms : terms kept.plan ≡ evaluated
  pub its_cost : kept.cost ≡ value kept.plan
  pub fits : Fits evaluated kept.cost

-- what is kept of the terms of a tree comes no later than the tree
pub record KeepsTop (value : PlanTree → ℕ) (tops : ℕ → Option Placed) (tree : PlanTree) : Type 0 where
  pub kept : Placed
  pub is : tops (terms tree) ≡ Some kept
  pub no_later : NoLaterBy value kept.plan tree

-- of each mask of terms below a number the first tree of a kind is kept
pub record AreFirst (Of : PlanTree → Type 0) (value : PlanTree → ℕ) (Fits : ℕ → ℕ → Type 0) (count : ℕ) (tops : ℕ → Option Placed) : Type 0 where
  pub kept : (evaluated : ℕ) (kept : Placed) → evaluated < count → tops evaluated ≡ Some kept → IsTop Of value Fits evaluated kept
  pub first : (tree : PlanTree) → Of tree → terms tree < count → KeepsTop value tops tree

-- the number of the term whose operator stands at the root, or 9 where there is none
abbrev pub root_term : PlanTree → ℕ
root_term (SeqScan entry) = 9
root_term (RankScan entry term index) = 9
root_term (Rank term child) = term
root_term (JoinOperator kind left right) = 9
root_term (Distinct child) = 9
root_term (SetOperator left right) = 9

abbrev pub IsBase : CatalogDef → Query → Extent → PlanTree → Type 0
IsBase catalogue query extent tree = IsWhole catalogue query extent tree × (root_term tree ≡ 9)

-- a part of a plan of all entries of a block that drops no duplicates
pub record IsLower (catalogue : CatalogDef) (query : Query) (number : ℕ) (tree : PlanTree) : Type 0 where
  pub part : IsPart catalogue (block_in query number) tree
  pub all : entries tree ≡ all_entries (block_in query number)
  pub whole : HasNoDistinct tree

-- what it costs at most; room is left for dropping duplicates
abbrev pub FitsLower : Query → ℕ → ℕ → ℕ → Type 0
FitsLower query number evaluated cost = cost + 2 ^ 105 ≤ most_cost (all_entries (block_in query number)) evaluated

abbrev pub FitsWhole : Query → Extent → ℕ → ℕ → Type 0
FitsWhole query extent evaluated cost = cost ≤ most_whole query extent evaluated

abbrev pub AreLower : CatalogDef → Query → List BlockCards → ℕ → ℕ → (ℕ → Option Placed) → Type 0
AreLower catalogue query cards number count tops =
    AreFirst (IsLower catalogue query number) (cost_in catalogue query cards number) (FitsLower query number) count tops

abbrev pub AreTops : CatalogDef → Query → List BlockCards → Extent → ℕ → (ℕ → Option Placed) → Type 0
AreTops catalogue query cards extent count tops =
    AreFirst (IsWhole catalogue query extent) (whole_cost catalogue query cards extent) (FitsWhole query extent) count tops

abbrev pub plan_of : Option Placed → Option PlanTree
plan_of kept = option_map (λ (kept : Placed). kept.plan) kept

-- a tree is made of what is kept without a term, or is the one that stands there without an operator for a term at the root
abbrev pub IsMadeTop : Option Placed → (ℕ → Option Placed) → ℕ → Choice → PlanTree → Type 0
IsMadeTop base tops evaluated (choice.Rank term) tree =
    (child : PlanTree) × (tree ≡ Rank term child) × IsRankBuilt (λ other. plan_of (tops other)) evaluated term child
IsMadeTop base tops evaluated choice.Base tree = plan_of base ≡ Some tree
IsMadeTop base tops evaluated (choice.SeqScan entry) tree = ⊥
IsMadeTop base tops evaluated (choice.RankScan entry term index) tree = ⊥
IsMadeTop base tops evaluated (choice.HashJoin left) tree = ⊥
IsMadeTop base tops evaluated (choice.NestedJoin left) tree = ⊥

-- what is found stands for a tree of all entries and of these terms
pub record StandsForTop (catalogue : CatalogDef) (query : Query) (cards : List BlockCards) (extent : Extent) (base : Option Placed) (tops : ℕ → Option Placed) (evaluated : ℕ)
    (found : Candidate) (tree : PlanTree) : Type 0 where
  pub is : IsWhole catalogue query extent tree
  pub its_terms : terms tree ≡ evaluated
  pub its_cost : found.cost ≡ whole_cost catalogue query cards extent tree
  pub fits : FitsWhole query extent evaluated found.cost
  pub made : IsMadeTop base tops evaluated found.choice tree

-- a tree of all entries and of these terms
pub record IsOfTerms (catalogue : CatalogDef) (query : Query) (extent : Extent) (evaluated : ℕ) (tree : PlanTree) : Type 0 where
  pub is : IsWhole catalogue query extent tree
  pub its_terms : terms tree ≡ evaluated

-- it is the first one with an operator for this term at the root, if there is one
abbrev pub IsOneTop : CatalogDef → Query → List BlockCards → Extent → Option Placed → (ℕ → Option Placed) → ℕ → ℕ → Candidate → Type 0
IsOneTop catalogue query cards extent base tops evaluated root found =
    IsOneAt (IsOfTerms catalogue query extent evaluated) (StandsForTop catalogue query cards extent base tops evaluated) (whole_cost catalogue query cards extent) root_term root found

abbrev pub IsTheOneTop : CatalogDef → Query → List BlockCards → Extent → Option Placed → (ℕ → Option Placed) → ℕ → ℕ → Option Candidate → Type 0
IsTheOneTop catalogue query cards extent base tops evaluated root found =
    IsTheOneAt (IsOfTerms catalogue query extent evaluated) (StandsForTop catalogue query cards extent base tops evaluated) (whole_cost catalogue query cards extent) root_term root found

-- it is the first one of all with an operator for a term below a number at the root, if there is one
abbrev pub IsFirstTop : CatalogDef → Query → List BlockCards → Extent → Option Placed → (ℕ → Option Placed) → ℕ → ℕ → Candidate → Type 0
IsFirstTop catalogue query cards extent base tops evaluated bound found =
    IsFirstBelow (IsOfTerms catalogue query extent evaluated) (StandsForTop catalogue query cards extent base tops evaluated) (whole_cost catalogue query cards extent) root_term bound found

abbrev pub IsTheFirstTop : CatalogDef → Query → List BlockCards → Extent → Option Placed → (ℕ → Option Placed) → ℕ → ℕ → Option Candidate → Type 0
IsTheFirstTop catalogue query cards extent base tops evaluated bound found =
    IsTheFirstBelow (IsOfTerms catalogue query extent evaluated) (StandsForTop catalogue query cards extent base tops evaluated) (whole_cost catalogue query cards extent) root_term bound found

-- what is there without an operator for a term at the root
abbrev pub base_top : Option Placed → Option Candidate
base_top None = None
base_top (Some kept) = Some (record { cost = kept.cost; choice = choice.Base })

-- the first tree of a kind and of these terms, with its cost; or there is none
pub record IsKeptFirst (Of : PlanTree → Type 0) (value : PlanTree → ℕ) (Fits : ℕ → ℕ → Type 0) (evaluated : ℕ) (kept : Placed) : Type 0 where
  pub top : IsTop Of value Fits evaluated kept
  pub no_later : (other : PlanTree) → Of other → terms other ≡ evaluated → NoLaterBy value kept.plan other

abbrev pub IsTheFirstOf : (PlanTree → Type 0) → (PlanTree → ℕ) → (ℕ → ℕ → Type 0) → ℕ → Option Placed → Type 0
IsTheFirstOf Of value Fits evaluated (Some kept) = IsKeptFirst Of value Fits evaluated kept
IsTheFirstOf Of value Fits evaluated None = (other : PlanTree) → Of other → terms other ≡ evaluated → ⊥

abbrev pub IsTheTop : CatalogDef → Query → List BlockCards → Extent → ℕ → Option Placed → Type 0
IsTheTop catalogue query cards extent evaluated kept =
    IsTheFirstOf (IsWhole catalogue query extent) (whole_cost catalogue query cards extent) (FitsWhole query extent) evaluated kept

abbrev pub IsTheBase : CatalogDef → Query → List BlockCards → Extent → ℕ → Option Placed → Type 0
IsTheBase catalogue query cards extent evaluated kept =
    IsTheFirstOf (IsBase catalogue query extent) (whole_cost catalogue query cards extent) (FitsWhole query extent) evaluated kept

-- the plan that drops duplicates of what is kept, with as many rows as are expected of it
abbrev pub distinct_base : Query → List BlockCards → ℕ → ℕ → Option Placed → Option Placed
distinct_base query cards number evaluated kept =
    option_map (λ (kept : Placed). record { cost = kept.cost + whole_rows query cards (whole.Block number) evaluated; plan = Distinct kept.plan }) kept

-- the set operator of what is kept of both blocks
abbrev pub set_base : Query → List BlockCards → ℕ → Option Placed → Option Placed → Option Placed
set_base query cards evaluated left right =
    option_and_then (λ (l : Placed). option_map (λ (r : Placed). record {
      cost = l.cost + r.cost + whole_rows query cards (whole.Block 1) evaluated + whole_rows query cards (whole.Block 2) evaluated;
      plan = SetOperator l.plan r.plan;
    }) right) left

-- the plans of a query
abbrev pub extent_of : Query → Extent
extent_of (One block limit) = whole.Block 1
extent_of (Set op left right limit) = whole.Both
