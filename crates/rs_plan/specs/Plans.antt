-- Which trees are plans of a query.
use Rattle.std.specs.Prelude.{ℕ, ◌≡◌, ◌≤◌, ◌-◌, ◌⊎◌, true, false, List, length, Some, slice_get}
use Rattle.rs_catalog.specs.Catalog.{CatalogDef}
use Rattle.rs_catalog.specs.Indexes.{index_of}
use Rattle.rs_rank.specs.Masks.{AreDisjoint, has_number, mask_of}
use Rattle.rs_query.specs.Answers.{all_terms}
use Rattle.rs_query.specs.Conjuncts.{ConjunctDef}
use Rattle.rs_query.specs.Meaning.{is_inside}
use Rattle.rs_query.specs.Tables.{all_entries}
use Rattle.rs_query.specs.declared.block.Block.{Block}
use Rattle.rs_query.specs.declared.query.Query.{Query}
use Rattle.rs_query.specs.declared.query.Query.TheVariants.{One, Set}
use Rattle.rs_query.specs.declared.term.Term.{Term}
use Rattle.rs_plan.specs.Trees.{Distinct, Hash, JoinKind, JoinOperator, Nested, Rank, RankScan, SeqScan, SetOperator, PlanTree, entries, terms}

-- the number of a FROM entry of a block
pub record IsEntryNumber (block : Block) (entry : ℕ) : Type 0 where
  pub some : 1 ≤ entry
  pub most : entry ≤ length block.from

-- a term of a block, by its number
pub record IsTermOf (block : Block) (number : ℕ) (term : Term) : Type 0 where
  pub some : 1 ≤ number
  pub there : slice_get block.terms (number - 1) ≡ Some term

-- the entry's table has a rank index for the term, this one the first, and the term speaks of no other entry
pub record IsRankScan (catalogue : CatalogDef) (block : Block) (entry number index : ℕ) : Type 0 where
  pub is_entry : IsEntryNumber block entry
  pub term : Term
  pub is_term : IsTermOf block number term
  pub alone : term.entries ≡ mask_of entry
  pub table : ℕ
  pub alias : List ℕ
  pub from : slice_get block.from (entry - 1) ≡ Some (table, alias)
  pub first : index_of table term.predicate term.args entry catalogue ≡ Some index

-- the term isn't evaluated below, and all its entries are there
pub record IsRank (block : Block) (number : ℕ) (child : PlanTree) : Type 0 where
  pub term : Term
  pub is_term : IsTermOf block number term
  pub absent : has_number (terms child) number ≡ false
  pub there : is_inside term.entries (entries child) ≡ true

-- one of two columns is of an entry in the left mask, and the other of one in the right mask
abbrev pub JoinsSides : ℕ → ℕ → (ℕ × ℕ) × (ℕ × ℕ) → Type 0
JoinsSides left right pair =
    ((has_number left pair.0.0 ≡ true) × (has_number right pair.1.0 ≡ true)) ⊎ ((has_number right pair.0.0 ≡ true) × (has_number left pair.1.0 ≡ true))

-- a conjunct of the block says that a column of the left side equals one of the right side
pub record IsHashed (block : Block) (left right : ℕ) : Type 0 where
  pub place : ℕ
  pub conjunct : ConjunctDef
  pub there : slice_get block.conjuncts place ≡ Some conjunct
  pub columns : (ℕ × ℕ) × (ℕ × ℕ)
  pub equality : conjunct.equality ≡ Some columns
  pub across : JoinsSides left right columns

-- no duplicates are dropped in the tree
abbrev pub HasNoDistinct : PlanTree → Type 0
HasNoDistinct (SeqScan entry) = Unit {0}
HasNoDistinct (RankScan entry term index) = Unit {0}
HasNoDistinct (Rank term child) = HasNoDistinct child
HasNoDistinct (JoinOperator kind left right) = HasNoDistinct left × HasNoDistinct right
HasNoDistinct (Distinct child) = ⊥
HasNoDistinct (SetOperator left right) = HasNoDistinct left × HasNoDistinct right

-- two sides of a join share no entry, and drop no duplicates
pub record AreJoined (left right : PlanTree) : Type 0 where
  pub apart : AreDisjoint (entries left) (entries right)
  pub left_whole : HasNoDistinct left
  pub right_whole : HasNoDistinct right

-- rows of these entries may be joined in this way
abbrev pub MayJoin : JoinKind → Block → ℕ → ℕ → Type 0
MayJoin Hash block left right = IsHashed block left right
MayJoin Nested block left right = Unit {0}

-- duplicates are dropped once, of rows of all entries, where the block says so
pub record IsDistinct (block : Block) (child : PlanTree) : Type 0 where
  pub wanted : block.distinct ≡ true
  pub all : entries child ≡ all_entries block
  pub first : HasNoDistinct child

-- a tree is a part of a plan of a block
abbrev pub IsPart : CatalogDef → Block → PlanTree → Type 0
IsPart catalogue block (SeqScan entry) = IsEntryNumber block entry
IsPart catalogue block (RankScan entry term index) = IsRankScan catalogue block entry term index
IsPart catalogue block (Rank term child) = IsPart catalogue block child × IsRank block term child
IsPart catalogue block (JoinOperator kind left right) =
    IsPart catalogue block left × IsPart catalogue block right × AreJoined left right × MayJoin kind block (entries left) (entries right)
IsPart catalogue block (Distinct child) = IsPart catalogue block child × IsDistinct block child
IsPart catalogue block (SetOperator left right) = ⊥

-- a plan of a block: of all its entries, and with duplicates dropped where the block says so
pub record IsComplete (catalogue : CatalogDef) (block : Block) (tree : PlanTree) : Type 0 where
  pub part : IsPart catalogue block tree
  pub all : entries tree ≡ all_entries block
  pub drops : block.distinct ≡ true → ¬ HasNoDistinct tree

-- the set operator of two plans, one of each block, that evaluate the same terms; and above it operators for the others
abbrev pub IsSetPlan : CatalogDef → Block → Block → PlanTree → Type 0
IsSetPlan catalogue left right (SetOperator l r) = IsComplete catalogue left l × IsComplete catalogue right r × (terms l ≡ terms r)
IsSetPlan catalogue left right (Rank term child) = IsSetPlan catalogue left right child × IsRank left term child
IsSetPlan catalogue left right _ = ⊥

-- a plan of a query: all its terms are evaluated
abbrev pub IsPlan : CatalogDef → Query → PlanTree → Type 0
IsPlan catalogue (One block limit) tree = IsComplete catalogue block tree × (terms tree ≡ all_terms block)
IsPlan catalogue (Set op left right limit) tree = IsSetPlan catalogue left right tree × (terms tree ≡ all_terms left)
