-- Plans as trees: what a tree ranges over, which terms it evaluates, and its code.
use Rattle.std.specs.Prelude.{ℕ, List, [], ◌∷◌, ◌++◌, bit_or}
use Rattle.std.specs.Cmp.Lexicographic.{slice_cmp}
use Rattle.std.specs.Ordering.{nat_cmp}
use Rattle.std.specs.declared.cmp.Ordering.{Ordering}
use Rattle.rs_rank.specs.Masks.{mask_of}

-- how a join finds the pairs of rows: by equal values of columns, or by trying each pair
pub data JoinKind : Type 0 where
  Hash : JoinKind
  Nested : JoinKind

-- a scan of a FROM entry; a scan of one by a rank index, in the order of a term; an operator that evaluates one term more;
-- joins; an operator that drops duplicates; the set operator of a query. Entries and terms count from 1, indexes from 0
pub data PlanTree : Type 0 where
  SeqScan : ℕ → PlanTree
  RankScan : ℕ → ℕ → ℕ → PlanTree
  Rank : ℕ → PlanTree → PlanTree
  JoinOperator : JoinKind → PlanTree → PlanTree → PlanTree
  Distinct : PlanTree → PlanTree
  SetOperator : PlanTree → PlanTree → PlanTree

-- the mask of its entries; of a set operator those of its left side
abbrev pub entries : PlanTree → ℕ
entries (SeqScan entry) = mask_of entry
entries (RankScan entry term index) = mask_of entry
entries (Rank term child) = entries child
entries (JoinOperator kind left right) = bit_or (entries left) (entries right)
entries (Distinct child) = entries child
entries (SetOperator left right) = entries left

-- the mask of the terms that it evaluates
abbrev pub terms : PlanTree → ℕ
terms (SeqScan entry) = 0
terms (RankScan entry term index) = mask_of term
terms (Rank term child) = bit_or (terms child) (mask_of term)
terms (JoinOperator kind left right) = bit_or (terms left) (terms right)
terms (Distinct child) = terms child
terms (SetOperator left right) = terms left

-- the number of a kind of joins, with which their codes begin
abbrev pub join_number : JoinKind → ℕ
join_number Hash = 4
join_number Nested = 5

-- its code: numbers that tell different plans of a query apart, and by which plans of one cost are ordered
abbrev pub code : PlanTree → List ℕ
code (SeqScan entry) = 1 ∷ entry ∷ []
code (RankScan entry term index) = 2 ∷ entry ∷ term ∷ []
code (Rank term child) = 3 ∷ term ∷ code child
code (JoinOperator kind left right) = join_number kind ∷ entries left ∷ terms left ∷ code left ++ code right
code (Distinct child) = 6 ∷ code child
code (SetOperator left right) = 7 ∷ code left ++ code right

-- the lexicographic order of codes
abbrev pub code_cmp : List ℕ → List ℕ → Ordering
code_cmp = slice_cmp nat_cmp
