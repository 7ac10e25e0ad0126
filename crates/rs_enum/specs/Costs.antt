-- How many rows are expected of the nodes of a plan, and what the nodes cost.
use Rattle.std.specs.Prelude.{ℕ, ◌+◌, ◌-◌, ◌*◌, List, option_map, slice_get, unwrap_or}
use Rattle.rs_catalog.specs.Catalog.{CatalogDef}
use Rattle.rs_query.specs.Answers.{predicate_at}
use Rattle.rs_query.specs.Tables.{size_of}
use Rattle.rs_query.specs.declared.block.Block.{Block}
use Rattle.rs_query.specs.declared.query.Query.{Query}
use Rattle.rs_query.specs.declared.term.Term.{Term}
use Rattle.rs_sample.specs.Cards.{BlockCards}
use Rattle.rs_query.specs.Blocks.{block_in}
use Rattle.rs_plan.specs.Trees.{Distinct, Hash, JoinOperator, Nested, PlanTree, Rank, RankScan, SeqScan, SetOperator, entries, terms}
use Rattle.rs_enum.specs.QueryCards.{cards_at}

-- how many rows are expected of a plan of the block of this number, once the terms in a mask are evaluated; of a set operator, and
-- of an operator above it, as many as of both its sides
abbrev pub estimate_under : List BlockCards → ℕ → PlanTree → ℕ → ℕ
estimate_under cards number (SetOperator left right) mask = estimate_under cards 1 left mask + estimate_under cards 2 right mask
estimate_under cards number (Rank term child) mask = estimate_under cards number child mask
estimate_under cards number tree mask = (cards_at cards number).estimate (entries tree) mask

-- the same once the terms are evaluated that the plan evaluates
abbrev pub estimate_of : List BlockCards → ℕ → PlanTree → ℕ
estimate_of cards number tree = estimate_under cards number tree (terms tree)

-- what a call of the predicate of a term costs
abbrev pub call_cost : CatalogDef → Block → ℕ → ℕ
call_cost catalogue block number =
    unwrap_or (option_map (λ (term : Term). (predicate_at catalogue term.predicate).cost) (slice_get block.terms (number - 1))) 0

-- the cost of a plan of the block of this number
abbrev pub cost_in : CatalogDef → Query → List BlockCards → ℕ → PlanTree → ℕ
cost_in catalogue query cards number (SeqScan entry) = size_of catalogue (block_in query number) entry
cost_in catalogue query cards number (RankScan entry term index) = 2 * (cards_at cards number).index_estimate entry term
cost_in catalogue query cards number (Rank term child) =
    cost_in catalogue query cards number child + estimate_of cards number child * call_cost catalogue (block_in query number) term
cost_in catalogue query cards number (JoinOperator Hash left right) =
    cost_in catalogue query cards number left + cost_in catalogue query cards number right
    + 2 * (estimate_of cards number left + estimate_of cards number right) + estimate_of cards number (JoinOperator Hash left right)
cost_in catalogue query cards number (JoinOperator Nested left right) =
    cost_in catalogue query cards number left + cost_in catalogue query cards number right
    + estimate_of cards number left * estimate_of cards number right + estimate_of cards number (JoinOperator Nested left right)
cost_in catalogue query cards number (Distinct child) = cost_in catalogue query cards number child + estimate_of cards number child
cost_in catalogue query cards number (SetOperator left right) =
    cost_in catalogue query cards 1 left + cost_in catalogue query cards 2 right + estimate_of cards 1 left + estimate_of cards 2 right

-- the cost of a plan
abbrev pub cost_of : CatalogDef → Query → List BlockCards → PlanTree → ℕ
cost_of catalogue query cards tree = cost_in catalogue query cards 1 tree
