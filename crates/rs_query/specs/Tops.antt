-- The tops of terms: the most that a term is worth by its rank index, and the greatest score of its predicate where it has none.
use Rattle.std.specs.Prelude.{ℕ, ◌+◌, ◌≡◌, ◌≤◌, ◌==◌, max, min, List, [], ◌∷◌, map, Option, Some, None, if◌then◌else◌}
use Rattle.rs_order.specs.Climbing.{In}
use Rattle.rs_rank.specs.Masks.{mask_of}
use Rattle.rs_rank.specs.declared.scored_row.ScoredRow.{ScoredRow}
use Rattle.rs_expr.specs.Scoring.{Answering}
use Rattle.rs_catalog.specs.Catalog.{CatalogDef}
use Rattle.rs_catalog.specs.Indexes.{index_of, ranking_at}
use Rattle.rs_query.specs.Answers.{predicate_at, worth_of}
use Rattle.rs_query.specs.Blocks.{block_in}
use Rattle.rs_query.specs.Tables.{HasRows}
use Rattle.rs_query.specs.declared.block.Block.{Block}
use Rattle.rs_query.specs.declared.query.Query.{Query}
use Rattle.rs_query.specs.declared.query.Query.TheVariants.{One, Set}
use Rattle.rs_query.specs.declared.term.Term.{Term}

-- the first score of a ranking, which is its greatest; 0 where it has none
abbrev pub first_score : List ScoredRow → ℕ
first_score [] = 0
first_score (entry ∷ rest) = entry.score

-- the first score of an index of a predicate, and the predicate's greatest score where there is no index. No score of an index passes
-- that greatest one: `min` says so of any catalogue
abbrev pub top_by : CatalogDef → ℕ → Option ℕ → ℕ
top_by catalogue predicate None = (predicate_at catalogue predicate).max
top_by catalogue predicate (Some index) = min (first_score (ranking_at catalogue index)) (predicate_at catalogue predicate).max

-- the same of a term, where the FROM entries from this number on are these: a term that speaks of one of them alone has an index
-- where the entry's table has one for it
abbrev pub top_from : CatalogDef → Term → ℕ → List (ℕ × List ℕ) → ℕ
top_from catalogue term entry [] = top_by catalogue term.predicate None
top_from catalogue term entry (from ∷ rest) =
    if term.entries == mask_of entry then top_by catalogue term.predicate (index_of from.0 term.predicate term.args entry catalogue)
    else top_from catalogue term (entry + 1) rest

-- the top of a term of a block
abbrev pub top_of : CatalogDef → Block → Term → ℕ
top_of catalogue block term = top_from catalogue term 1 block.from

-- the tops of all terms of a block, and their maxima
abbrev pub tops_of : CatalogDef → Block → List ℕ
tops_of catalogue block = map (top_of catalogue block) block.terms

abbrev pub maxima_of : List Term → List ℕ
maxima_of terms = map (λ (t : Term). t.max) terms

-- the greater of two numbers at each place
abbrev pub greater_of : List ℕ → List ℕ → List ℕ
greater_of [] ys = []
greater_of (x ∷ xs) [] = []
greater_of (x ∷ xs) (y ∷ ys) = max x y ∷ greater_of xs ys

-- the tops of two terms of a set query are the greater one of theirs
abbrev pub set_tops : CatalogDef → Block → Block → List ℕ
set_tops catalogue left right = greater_of (tops_of catalogue left) (tops_of catalogue right)

-- terms with these maxima
abbrev pub with_maxima : List ℕ → List Term → List Term
with_maxima [] terms = terms
with_maxima (most ∷ maxima) [] = []
with_maxima (most ∷ maxima) (term ∷ terms) = record term { max = most } ∷ with_maxima maxima terms

abbrev pub bounded_by : List ℕ → Block → Block
bounded_by maxima block = record block { terms = with_maxima maxima block.terms }

-- a query whose terms have their tops as maxima
abbrev pub with_tops : CatalogDef → Query → Query
with_tops catalogue (One block limit) = One (bounded_by (tops_of catalogue block) block) limit
with_tops catalogue (Set op left right limit) =
    Set op (bounded_by (set_tops catalogue left right) left) (bounded_by (set_tops catalogue left right) right) limit

-- the maxima of a query's terms are their tops
abbrev pub HasTops : CatalogDef → Query → Type 0
HasTops catalogue (One block limit) = maxima_of block.terms ≡ tops_of catalogue block
HasTops catalogue (Set op left right limit) =
    (maxima_of left.terms ≡ set_tops catalogue left right) × (maxima_of right.terms ≡ set_tops catalogue left right)

-- for rows of its entries no term of a block is worth more than its maximum
abbrev pub WorthsAreWithin : Answering → CatalogDef → Block → Type 0
WorthsAreWithin answer catalogue block =
    (rows : List ℕ) (term : Term) → In term block.terms → HasRows catalogue block term.entries rows → worth_of answer catalogue block rows term ≤ term.max

-- nor is one of a query
abbrev pub IsBounded : Answering → CatalogDef → Query → Type 0
IsBounded answer catalogue query = (number : ℕ) → WorthsAreWithin answer catalogue (block_in query number)
