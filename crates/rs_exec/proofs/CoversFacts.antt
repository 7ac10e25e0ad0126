-- A catalogue covers each query that is well formed over it, each block of one that it covers, and what a smaller catalogue covers.
use Rattle.std.proofs.Common.{ℕ, ◌≤◌, true, false, cond, eqb, length, arith}
use Rattle.std.proofs.lemmas.Option.{slice_get_within}
use Rattle.rs_order.proofs.EachFacts.{each-weaker}
use Rattle.rs_catalog.specs.Catalog.{CatalogDef}
use Rattle.rs_query.specs.WellFormed.{IsBlock, IsFromEntry, IsQuery, IsTerm}
use Rattle.rs_query.specs.declared.block.Block.{Block}
use Rattle.rs_query.specs.declared.query.Query.{Query}
use Rattle.rs_query.specs.declared.query.Query.TheVariants.{One, Set}
use Rattle.rs_query.specs.Blocks.{block_in}
use Rattle.rs_exec.specs.Covering.{Covers, CoversBlock, HasPredicate}

-- a well formed block
pub covers-block : (catalogue : CatalogDef) (block : Block) → IsBlock catalogue block → CoversBlock catalogue block
covers-block catalogue block is = record {
  entries = is.entries;
  terms = each-weaker (IsTerm catalogue block) (HasPredicate catalogue)
      (λ term t. slice_get_within catalogue.predicates term.predicate t.predicate t.has_predicate) block.terms is.terms;
}

-- a well formed query
pub covers : (catalogue : CatalogDef) (query : Query) → IsQuery catalogue query → Covers catalogue query
covers catalogue (One block limit) formed = covers-block catalogue block formed.0
covers catalogue (Set op left right limit) formed = (covers-block catalogue left formed.0.left_block, covers-block catalogue right formed.0.right_block)

-- each block of a query
pub block-covered : (catalogue : CatalogDef) (query : Query) (number : ℕ) → Covers catalogue query → CoversBlock catalogue (block_in query number)
block-covered catalogue (One block limit) number covered = covered
block-covered catalogue (Set op left right limit) number covered =
    elim (eqb number 1) as (λ b. CoversBlock catalogue (cond b left right)) [ true ↦ covered.0 | false ↦ covered.1 ]

-- a catalogue with as many tables and predicates, or more
module _ (small large : CatalogDef) (tables : length small.tables ≤ length large.tables) (predicates : length small.predicates ≤ length large.predicates) where
  block-larger : (block : Block) → CoversBlock small block → CoversBlock large block
  block-larger block covered = record {
    entries = each-weaker (IsFromEntry small) (IsFromEntry large) (λ from is. omega arith) block.from covered.entries;
    terms = each-weaker (HasPredicate small) (HasPredicate large) (λ term is. omega arith) block.terms covered.terms;
  }

  pub covers-larger : (query : Query) → Covers small query → Covers large query
  covers-larger (One block limit) covered = block-larger block covered
  covers-larger (Set op left right limit) covered = (block-larger left covered.0, block-larger right covered.1)
