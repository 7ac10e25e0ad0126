-- Where the tables and the predicates of a catalogue are within their limits, so are the tables, the weights and the maxima of a query.
use Rattle.std.proofs.Common.{◌≡◌, ℕ, zero, suc, ◌-◌, ◌≤◌, List, [], ◌∷◌, length, map, Option, None, Some, refl, ap, arith}
use Rattle.std.specs.List.{AllByRecursion}
use Rattle.std.specs.Prelude.{option_and_then, option_map, slice_get, unwrap_or}
use Rattle.rs_order.proofs.EachFacts.{each-map, each-slice_get, each-weaker}
use Rattle.rs_rank.specs.Weights.{IsWeights}
use Rattle.rs_table.specs.Relation.{Relation, most_rows}
use Rattle.rs_expr.specs.Predicates.{PredicateDef}
use Rattle.rs_catalog.specs.Catalog.{CatalogDef, NamedTable, greatest_max}
use Rattle.rs_query.specs.Answers.{padded, weights_of}
use Rattle.rs_query.specs.Blocks.{block_in}
use Rattle.rs_query.specs.Tables.{size_of, sizes_of}
use Rattle.rs_query.specs.WellFormed.{IsBlock, IsQuery, IsTerm}
use Rattle.rs_query.specs.declared.block.Block.{Block}
use Rattle.rs_query.specs.declared.query.Query.{Query}
use Rattle.rs_query.specs.declared.query.Query.TheVariants.{One, Set}
use Rattle.rs_query.specs.declared.term.Term.{Term}

-- numbers with 0 behind them: how many, and what holds of each of them and of 0
length-padded : (n : ℕ) (numbers : List ℕ) → length (padded n numbers) ≡ n
length-padded zero numbers = refl
length-padded (suc n) [] = ap suc (length-padded n [])
length-padded (suc n) (number ∷ numbers) = ap suc (length-padded n numbers)

each-padded : (most n : ℕ) (numbers : List ℕ) → AllByRecursion (λ number. number ≤ most) numbers → AllByRecursion (λ number. number ≤ most) (padded n numbers)
each-padded most zero numbers all = tt
each-padded most (suc n) [] all = (omega arith, each-padded most n [] all)
each-padded most (suc n) (number ∷ numbers) all = (all.0, each-padded most n numbers all.1)

module _ (catalogue : CatalogDef) (rows : AllByRecursion (λ (t : NamedTable). length t.table.rows ≤ most_rows) catalogue.tables) where
  -- a table has few rows, and where there is none, 0
  table-few : (n : ℕ) (found : Option NamedTable) → slice_get catalogue.tables n ≡ found
      → unwrap_or (option_map (λ (table : Relation). length table.rows) (option_map (λ (t : NamedTable). t.table) found)) 0 ≤ most_rows
  table-few n None at = omega arith
  table-few n (Some t) at = each-slice_get (λ (t : NamedTable). length t.table.rows ≤ most_rows) catalogue.tables n t rows at

  entry-few : (from : Option (ℕ × List ℕ))
      → unwrap_or (option_map (λ (table : Relation). length table.rows) (option_and_then (λ (from : ℕ × List ℕ). option_map (λ (t : NamedTable). t.table) (slice_get catalogue.tables from.0)) from)) 0 ≤ most_rows
  entry-few None = omega arith
  entry-few (Some from) = table-few from.0 (slice_get catalogue.tables from.0) refl

  size-few : (block : Block) (entry : ℕ) → size_of catalogue block entry ≤ 131072
  size-few block entry = entry-few (slice_get block.from (entry - 1))

  pub sizes-few : (block : Block) → AllByRecursion (λ size. size ≤ 131072) (sizes_of catalogue block)
  sizes-few block = (size-few block 1, (size-few block 2, (size-few block 3, (size-few block 4, (size-few block 5, (size-few block 6, tt))))))

-- a term's maximum is at most that of its predicate
max-low : (catalogue : CatalogDef) (block : Block) → AllByRecursion (λ (p : PredicateDef). p.max ≤ greatest_max) catalogue.predicates
    → (term : Term) → IsTerm catalogue block term → term.max ≤ greatest_max
max-low catalogue block scores term is =
    let own = is.max in
    let low = each-slice_get (λ (p : PredicateDef). p.max ≤ greatest_max) catalogue.predicates term.predicate is.predicate scores is.has_predicate in
    omega arith

pub weights-few : (catalogue : CatalogDef) (block : Block) → AllByRecursion (λ (p : PredicateDef). p.max ≤ greatest_max) catalogue.predicates
    → IsBlock catalogue block → IsWeights (weights_of block)
weights-few catalogue block scores is = record {
  weight_count = length-padded 8 (map (λ (t : Term). t.weight) block.terms);
  max_count = length-padded 8 (map (λ (t : Term). t.max) block.terms);
  weight_limit = each-padded 1000000 8 (map (λ (t : Term). t.weight) block.terms)
      (each-map (λ number. number ≤ 1000000) (λ (t : Term). t.weight) block.terms
      (each-weaker (IsTerm catalogue block) (λ (t : Term). t.weight ≤ 1000000) (λ t one. one.most_weight) block.terms is.terms));
  max_limit = each-padded 4294967295 8 (map (λ (t : Term). t.max) block.terms)
      (each-map (λ number. number ≤ 4294967295) (λ (t : Term). t.max) block.terms
      (each-weaker (IsTerm catalogue block) (λ (t : Term). t.max ≤ 4294967295) (max-low catalogue block scores) block.terms is.terms));
}

pub first-formed : (catalogue : CatalogDef) (query : Query) → IsQuery catalogue query → IsBlock catalogue (block_in query 1)
first-formed catalogue (One block limit) formed = formed.0
first-formed catalogue (Set op left right limit) formed = formed.0.left_block
