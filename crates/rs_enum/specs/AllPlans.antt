-- All plans of a query, as a list.
use Rattle.std.specs.Prelude.{ℕ, zero, suc, List, [], ◌++◌, length, map}
use Rattle.std.specs.List.{filter, flat_map}
use Rattle.rs_order.specs.Schedule.{numbers_from}
use Rattle.rs_catalog.specs.Catalog.{CatalogDef}
use Rattle.rs_query.specs.Combinations.{numbers_to}
use Rattle.rs_query.specs.declared.query.Query.{Query}
use Rattle.rs_plan.specs.Deciding.{is_plan}
use Rattle.rs_plan.specs.Trees.{Distinct, Hash, JoinOperator, Nested, PlanTree, Rank, RankScan, SeqScan, SetOperator}

-- the operators over these trees, each with each of the terms
abbrev pub trees_over : List ℕ → List PlanTree → List PlanTree
trees_over terms lesser =
    flat_map (λ term. map (Rank term) lesser) terms
    ++ flat_map (λ left. map (JoinOperator Hash left) lesser) lesser
    ++ flat_map (λ left. map (JoinOperator Nested left) lesser) lesser
    ++ map Distinct lesser
    ++ flat_map (λ left. map (SetOperator left) lesser) lesser

-- the scans of these entries, as their tables are and by each of the indexes for each of the terms
abbrev pub all_scans : List ℕ → List ℕ → List ℕ → List PlanTree
all_scans entries terms indexes = map SeqScan entries ++ flat_map (λ entry. flat_map (λ term. map (RankScan entry term) indexes) terms) entries

-- all trees of at most this many levels over these entries, terms and indexes
unfoldable pub trees_of : List ℕ → List ℕ → List ℕ → ℕ → List PlanTree
trees_of entries terms indexes zero = []
trees_of entries terms indexes (suc levels) = all_scans entries terms indexes ++ trees_over terms (trees_of entries terms indexes levels)

-- the plans of a query. None has more than sixteen levels: a set operator, a Distinct below it, eight operators for terms, five
-- joins and a scan
unfoldable pub all_plans : CatalogDef → Query → List PlanTree
all_plans catalogue query = filter (is_plan catalogue query) (trees_of (numbers_to 6) (numbers_to 8) (numbers_from 0 (length catalogue.indexes)) 16)
