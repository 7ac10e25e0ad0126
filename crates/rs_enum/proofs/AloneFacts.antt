-- A block of a query, and the same block as a query of its own.
use Rattle.std.proofs.Common.{◌≡◌, ◌∙◌, ℕ, ◌+◌, ◌*◌, List, refl, sym}
use Rattle.rs_catalog.specs.Catalog.{CatalogDef}
use Rattle.rs_query.specs.declared.query.Query.{Query}
use Rattle.rs_sample.specs.Cards.{BlockCards}
use Rattle.rs_query.specs.Blocks.{block_in}
use Rattle.rs_plan.specs.Plans.{IsPart}
use Rattle.rs_plan.specs.Trees.{Distinct, Hash, JoinOperator, Nested, PlanTree, Rank, RankScan, SeqScan, SetOperator, terms}
use Rattle.rs_enum.specs.Costs.{call_cost, cost_in, cost_of, estimate_of}
use Rattle.rs_enum.specs.QueryCards.{AreCards, IsBlockNumber, alone, alone_cards, cards_at}
use Rattle.rs_enum.proofs.CostFacts.{block-cards}
use Rattle.rs_enum.proofs.OrderOfPlans.{estimate-part}

-- the cards of the block are cards of that query
pub alone-are : (query : Query) (cards : List BlockCards) (number : ℕ) → AreCards query cards → IsBlockNumber cards number
    → AreCards (alone query number) (alone_cards cards number)
alone-are query cards number are is = (cards_at cards number, refl, block-cards query cards number are is)

-- a part of a plan of a block costs as much as in a query of that block alone
module _ (catalogue : CatalogDef) (query : Query) (cards : List BlockCards) (number : ℕ) where
  pub estimate-alone : (tree : PlanTree) → IsPart catalogue (block_in query number) tree
      → estimate_of cards number tree ≡ estimate_of (alone_cards cards number) 1 tree
  estimate-alone tree is =
      estimate-part catalogue query cards (block_in query number) number tree (terms tree) is
      ∙ sym (estimate-part catalogue (alone query number) (alone_cards cards number) (block_in query number) 1 tree (terms tree) is)

  pub cost-alone : (tree : PlanTree) → IsPart catalogue (block_in query number) tree
      → cost_in catalogue query cards number tree ≡ cost_of catalogue (alone query number) (alone_cards cards number) tree
  cost-alone (SeqScan e) is = refl
  cost-alone (RankScan e t i) is = refl
  cost-alone (Rank t child) is = λ at. cost-alone child is.0 at + estimate-alone child is.0 at * call_cost catalogue (block_in query number) t
  cost-alone (JoinOperator Hash l r) is =
      λ at. cost-alone l is.0 at + cost-alone r is.1 at + 2 * (estimate-alone l is.0 at + estimate-alone r is.1 at) + estimate-alone (JoinOperator Hash l r) is at
  cost-alone (JoinOperator Nested l r) is =
      λ at. cost-alone l is.0 at + cost-alone r is.1 at + estimate-alone l is.0 at * estimate-alone r is.1 at + estimate-alone (JoinOperator Nested l r) is at
  cost-alone (Distinct child) is = λ at. cost-alone child is.0 at + estimate-alone child is.0 at
  cost-alone (SetOperator l r) is = absurd is
