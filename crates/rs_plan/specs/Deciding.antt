-- Whether a tree is a plan of a query, as tests that are true or false, for the contracts of private functions. They say what
-- the relations of `Plans` say, of trees whose numbers are those of entries and terms.
use Rattle.std.specs.Prelude.{ℕ, ◌-◌, ◌==◌, ◌&&◌, ◌||◌, Bool, true, false, not, nat_le, bit_and, length, List, Option, Some, None, slice_get}
use Rattle.std.specs.List.{list_any}
use Rattle.rs_catalog.specs.Catalog.{CatalogDef}
use Rattle.rs_catalog.specs.Indexes.{index_of}
use Rattle.rs_rank.specs.Masks.{has_number, mask_of}
use Rattle.rs_query.specs.Conjuncts.{ConjunctDef}
use Rattle.rs_query.specs.Meaning.{is_inside}
use Rattle.rs_query.specs.Tables.{all_entries}
use Rattle.rs_query.specs.declared.block.Block.{Block}
use Rattle.rs_query.specs.declared.query.Query.{Query}
use Rattle.rs_query.specs.declared.query.Query.TheVariants.{One, Set}
use Rattle.rs_query.specs.declared.term.Term.{Term}
use Rattle.rs_query.specs.Answers.{all_terms}
use Rattle.rs_plan.specs.Trees.{Distinct, Hash, JoinKind, JoinOperator, Nested, Rank, RankScan, SeqScan, SetOperator, PlanTree, entries, terms}

-- an index was found, and it is this one
abbrev pub is_found : Option ℕ → ℕ → Bool
is_found (Some found) index = found == index
is_found None index = false

-- a term is there that speaks of the entry alone, and the entry's table has this index as the first one for it
abbrev pub is_scan_of : CatalogDef → ℕ → ℕ → Option Term → Option (ℕ × List ℕ) → Bool
is_scan_of catalogue entry index (Some term) (Some from) =
    (term.entries == mask_of entry) && is_found (index_of from.0 term.predicate term.args entry catalogue) index
is_scan_of catalogue entry index (Some term) None = false
is_scan_of catalogue entry index None from = false

-- the same for the term of a number in a block
abbrev pub is_rank_scan : CatalogDef → Block → ℕ → ℕ → ℕ → Bool
is_rank_scan catalogue block entry number index =
    is_scan_of catalogue entry index (slice_get block.terms (number - 1)) (slice_get block.from (entry - 1))

-- a term is there that isn't among the evaluated ones, and all its entries are in a mask
abbrev pub is_rank_of : ℕ → ℕ → ℕ → Option Term → Bool
is_rank_of number entries terms (Some term) = not (has_number terms number) && is_inside term.entries entries
is_rank_of number entries terms None = false

-- the same for the term of a number in a block
abbrev pub is_rank : Block → ℕ → ℕ → ℕ → Bool
is_rank block number entries terms = is_rank_of number entries terms (slice_get block.terms (number - 1))

-- one of two columns is of an entry in the left mask, and the other of one in the right mask
abbrev pub joins_sides : ℕ → ℕ → Option ((ℕ × ℕ) × (ℕ × ℕ)) → Bool
joins_sides left right (Some pair) =
    (has_number left pair.0.0 && has_number right pair.1.0) || (has_number right pair.0.0 && has_number left pair.1.0)
joins_sides left right None = false

-- a conjunct of the block says so of two columns that it equates
abbrev pub is_hashed : Block → ℕ → ℕ → Bool
is_hashed block left right = list_any (λ (conjunct : ConjunctDef). joins_sides left right conjunct.equality) block.conjuncts

-- no duplicates are dropped in the tree
abbrev pub has_no_distinct : PlanTree → Bool
has_no_distinct (SeqScan entry) = true
has_no_distinct (RankScan entry term index) = true
has_no_distinct (Rank term child) = has_no_distinct child
has_no_distinct (JoinOperator kind left right) = has_no_distinct left && has_no_distinct right
has_no_distinct (Distinct child) = false
has_no_distinct (SetOperator left right) = has_no_distinct left && has_no_distinct right

-- two sides of a join share no entry, and drop no duplicates
abbrev pub are_joined : PlanTree → PlanTree → Bool
are_joined left right = (bit_and (entries left) (entries right) == 0) && (has_no_distinct left && has_no_distinct right)

-- rows of these entries may be joined in this way
abbrev pub may_join : JoinKind → Block → ℕ → ℕ → Bool
may_join Hash block left right = is_hashed block left right
may_join Nested block left right = true

-- duplicates are dropped once, of rows of all entries, where the block says so
abbrev pub is_distinct : Block → PlanTree → Bool
is_distinct block child = block.distinct && ((entries child == all_entries block) && has_no_distinct child)

-- a tree is a part of a plan of a block
abbrev pub is_part : CatalogDef → Block → PlanTree → Bool
is_part catalogue block (SeqScan entry) = nat_le entry (length block.from)
is_part catalogue block (RankScan entry term index) = is_rank_scan catalogue block entry term index
is_part catalogue block (Rank term child) = is_part catalogue block child && is_rank block term (entries child) (terms child)
is_part catalogue block (JoinOperator kind left right) =
    is_part catalogue block left && (is_part catalogue block right && (are_joined left right && may_join kind block (entries left) (entries right)))
is_part catalogue block (Distinct child) = is_part catalogue block child && is_distinct block child
is_part catalogue block (SetOperator left right) = false

-- a plan of a block: of all its entries, and with duplicates dropped where the block says so
abbrev pub is_complete : CatalogDef → Block → PlanTree → Bool
is_complete catalogue block tree =
    is_part catalogue block tree && ((entries tree == all_entries block) && (not block.distinct || not (has_no_distinct tree)))

-- the set operator of two plans, one of each block, and above it operators for the terms that they leave out
abbrev pub is_set_plan : CatalogDef → Block → Block → PlanTree → Bool
is_set_plan catalogue left right (SeqScan entry) = false
is_set_plan catalogue left right (RankScan entry term index) = false
is_set_plan catalogue left right (Rank term child) = is_set_plan catalogue left right child && is_rank left term (entries child) (terms child)
is_set_plan catalogue left right (JoinOperator kind l r) = false
is_set_plan catalogue left right (Distinct child) = false
is_set_plan catalogue left right (SetOperator l r) = is_complete catalogue left l && (is_complete catalogue right r && (terms l == terms r))

-- a plan of a query: all its terms are evaluated
abbrev pub is_plan : CatalogDef → Query → PlanTree → Bool
is_plan catalogue (One block limit) tree = is_complete catalogue block tree && (terms tree == all_terms block)
is_plan catalogue (Set op left right limit) tree = is_set_plan catalogue left right tree && (terms tree == all_terms left)
