-- Which blocks a threshold scan answers, by which indexes.
use Rattle.std.specs.Prelude.{ℕ, List, [], ◌∷◌, Option, Some, None, if◌then◌else◌}
use Rattle.rs_rank.specs.declared.answer.Answer.{Answer}
use Rattle.rs_rank.specs.declared.row.RankRow.{RankRow}
use Rattle.rs_catalog.specs.Catalog.{CatalogDef}
use Rattle.rs_catalog.specs.Indexes.{index_of}
use Rattle.rs_query.specs.Answers.{weights_of}
use Rattle.rs_query.specs.Meaning.{outputs_of}
use Rattle.rs_query.specs.declared.block.Block.{Block}
use Rattle.rs_query.specs.declared.term.Term.{Term}
use Rattle.rs_ta.specs.BlockTests.{holds_on}
use Rattle.rs_ta.specs.Depths.{ScanInput}
use Rattle.rs_ta.specs.IndexLists.{rankings_of}

-- a number in front of others, where there are both
abbrev pub in_front : Option ℕ → Option (List ℕ) → Option (List ℕ)
in_front None others = None
in_front (Some first) None = None
in_front (Some first) (Some others) = Some (first ∷ others)

-- the rank index of each term over this table, in the order of the terms; none where a term has none
abbrev pub term_indexes : CatalogDef → ℕ → List Term → Option (List ℕ)
term_indexes catalogue table [] = Some []
term_indexes catalogue table (term ∷ terms) =
    in_front (index_of table term.predicate term.args 1 catalogue) (term_indexes catalogue table terms)

-- the same, where there is a term
abbrev pub some_indexes : CatalogDef → ℕ → List Term → Option (List ℕ)
some_indexes catalogue table [] = None
some_indexes catalogue table (term ∷ terms) = term_indexes catalogue table (term ∷ terms)

-- of an only FROM entry
abbrev pub entry_indexes : CatalogDef → List (ℕ × List ℕ) → List Term → Option (List ℕ)
entry_indexes catalogue [] terms = None
entry_indexes catalogue (entry ∷ []) terms = some_indexes catalogue entry.0 terms
entry_indexes catalogue (entry ∷ other ∷ rest) terms = None

-- a block is eligible where it isn't DISTINCT, has one FROM entry, and each of its terms, of which there is one at least, has a rank
-- index: these are the indexes
abbrev pub eligible_indexes : CatalogDef → Block → Option (List ℕ)
eligible_indexes catalogue block = if block.distinct then None else entry_indexes catalogue block.from block.terms

-- what a scan of a block is over: the lists are the rankings of these indexes
abbrev pub block_input : CatalogDef → Block → List ℕ → ScanInput
block_input catalogue block indexes = record {
  weights = weights_of block;
  entry = 1;
  block = 1;
  lists = rankings_of catalogue indexes;
  holds = holds_on catalogue block;
}

-- a row as one of the answer: with its output values
abbrev pub answer_for : CatalogDef → Block → RankRow → Answer
answer_for catalogue block row = record { ids = row.ids; score = row.sum; values = outputs_of catalogue block row.ids.rows }
