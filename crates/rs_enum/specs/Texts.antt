-- The text of a plan: a line for each node, a node before its children and the left one before the right one.
use Rattle.std.specs.Prelude.{ℕ, suc, ◌+◌, ◌-◌, ◌*◌, List, [], ◌∷◌, ◌++◌, codes, drop, Option, Some, None, option_and_then, option_map, replicate, slice_get, unwrap_or}
use Rattle.std.specs.Fmt.{decimal}
use Rattle.rs_value.specs.declared.set_op.SetOp.TheVariants.{UnionAll, Union, Intersect, Except}
use Rattle.rs_catalog.specs.Catalog.{CatalogDef, NamedTable}
use Rattle.rs_query.specs.declared.block.Block.{Block}
use Rattle.rs_query.specs.declared.query.Query.{Query}
use Rattle.rs_query.specs.declared.query.Query.TheVariants.{One, Set}
use Rattle.rs_sample.specs.Cards.{BlockCards}
use Rattle.rs_query.specs.Blocks.{block_in}
use Rattle.rs_plan.specs.Plans.{IsEntryNumber}
use Rattle.rs_plan.specs.Trees.{Distinct, Hash, JoinOperator, Nested, PlanTree, Rank, RankScan, SeqScan, SetOperator}
use Rattle.rs_plan.specs.declared.counts.Counts.{Counts}
use Rattle.rs_enum.specs.Costs.{cost_in, estimate_of}

-- the name of the table of an entry, and the entry's alias
abbrev pub table_of : CatalogDef → Block → ℕ → List ℕ
table_of catalogue block entry =
    unwrap_or (option_map (λ (t : NamedTable). t.name)
    (option_and_then (λ (from : ℕ × List ℕ). slice_get catalogue.tables from.0) (slice_get block.from (entry - 1)))) []

abbrev pub alias_of : Block → ℕ → List ℕ
alias_of block entry = unwrap_or (option_map (λ (from : ℕ × List ℕ). from.1) (slice_get block.from (entry - 1))) []

-- a scan is of an entry of the block
abbrev pub HasEntry : Block → PlanTree → Type 0
HasEntry block (SeqScan entry) = IsEntryNumber block entry
HasEntry block (RankScan entry term index) = IsEntryNumber block entry
HasEntry block tree = Unit {0}

-- the name of the operator of a query
abbrev pub operator_of : Query → List ℕ
operator_of (One block limit) = []
operator_of (Set UnionAll left right limit) = codes "UnionAll"
operator_of (Set Union left right limit) = codes "Union"
operator_of (Set Intersect left right limit) = codes "Intersect"
operator_of (Set Except left right limit) = codes "Except"

-- what a node is
abbrev pub name_of : CatalogDef → Query → ℕ → PlanTree → List ℕ
name_of catalogue query number (SeqScan entry) =
    codes "SeqScan " ++ table_of catalogue (block_in query number) entry ++ codes " " ++ alias_of (block_in query number) entry
name_of catalogue query number (RankScan entry term index) =
    codes "RankScan " ++ table_of catalogue (block_in query number) entry ++ codes " " ++ alias_of (block_in query number) entry
    ++ codes " term " ++ decimal term
name_of catalogue query number (Rank term child) = codes "Rank term " ++ decimal term
name_of catalogue query number (JoinOperator Hash left right) = codes "HashRankJoin"
name_of catalogue query number (JoinOperator Nested left right) = codes "NestedRankJoin"
name_of catalogue query number (Distinct child) = codes "Distinct"
name_of catalogue query number (SetOperator left right) = operator_of query

-- what a node has done: a rank operator tells its calls, and a scan how far it has drawn
abbrev pub counted : PlanTree → Counts → List ℕ
counted (SeqScan entry) counts = codes " drawn=" ++ decimal counts.drawn
counted (RankScan entry term index) counts = codes " drawn=" ++ decimal counts.drawn
counted (Rank term child) counts = codes " calls=" ++ decimal counts.calls
counted tree counts = []

abbrev pub done_by : PlanTree → Option Counts → List ℕ
done_by tree None = []
done_by tree (Some counts) = codes " asked=" ++ decimal counts.asked ++ codes " gave=" ++ decimal counts.gave ++ counted tree counts

-- the line of a node that stands this many levels below the root, in the plan of the block of this number
abbrev pub plan_line : CatalogDef → Query → List BlockCards → ℕ → ℕ → PlanTree → Option Counts → List ℕ
plan_line catalogue query cards level number tree counts =
    replicate (2 * level) 32 ++ name_of catalogue query number tree
    ++ codes " est=" ++ decimal (estimate_of cards number tree) ++ codes " cost=" ++ decimal (cost_in catalogue query cards number tree)
    ++ done_by tree counts ++ 10 ∷ []

-- how many nodes a plan has
abbrev pub nodes_of : PlanTree → ℕ
nodes_of (SeqScan entry) = 1
nodes_of (RankScan entry term index) = 1
nodes_of (Rank term child) = suc (nodes_of child)
nodes_of (JoinOperator kind left right) = suc (nodes_of left + nodes_of right)
nodes_of (Distinct child) = suc (nodes_of child)
nodes_of (SetOperator left right) = suc (nodes_of left + nodes_of right)

-- the counts of the first node, and those behind this many
abbrev pub first_of : Option (List Counts) → Option Counts
first_of counts = option_and_then (λ (told : List Counts). slice_get told 0) counts

abbrev pub behind : ℕ → Option (List Counts) → Option (List Counts)
behind nodes counts = option_map (drop nodes) counts

-- the lines of a plan that stands this many levels below the root, with the counts of its nodes where they are told
abbrev pub plan_lines : CatalogDef → Query → List BlockCards → ℕ → ℕ → PlanTree → Option (List Counts) → List ℕ
plan_lines catalogue query cards level number (SeqScan entry) counts =
    plan_line catalogue query cards level number (SeqScan entry) (first_of counts)
plan_lines catalogue query cards level number (RankScan entry term index) counts =
    plan_line catalogue query cards level number (RankScan entry term index) (first_of counts)
plan_lines catalogue query cards level number (Rank term child) counts =
    plan_line catalogue query cards level number (Rank term child) (first_of counts)
    ++ plan_lines catalogue query cards (level + 1) number child (behind 1 counts)
plan_lines catalogue query cards level number (JoinOperator kind left right) counts =
    plan_line catalogue query cards level number (JoinOperator kind left right) (first_of counts)
    ++ plan_lines catalogue query cards (level + 1) number left (behind 1 counts)
    ++ plan_lines catalogue query cards (level + 1) number right (behind (1 + nodes_of left) counts)
plan_lines catalogue query cards level number (Distinct child) counts =
    plan_line catalogue query cards level number (Distinct child) (first_of counts)
    ++ plan_lines catalogue query cards (level + 1) number child (behind 1 counts)
plan_lines catalogue query cards level number (SetOperator left right) counts =
    plan_line catalogue query cards level number (SetOperator left right) (first_of counts)
    ++ plan_lines catalogue query cards (level + 1) 1 left (behind 1 counts)
    ++ plan_lines catalogue query cards (level + 1) 2 right (behind (1 + nodes_of left) counts)

-- the text of a plan, with the counts of its nodes where they are told
abbrev pub text_of : CatalogDef → Query → List BlockCards → PlanTree → Option (List Counts) → List ℕ
text_of catalogue query cards tree counts = plan_lines catalogue query cards 0 1 tree counts
