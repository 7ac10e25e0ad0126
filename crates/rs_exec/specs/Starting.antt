-- The nodes of a plan at its start: nothing is drawn, held or asked.
use Rattle.std.specs.Prelude.{ℕ, ◌≡◌, ◌-◌, slice_index}
use Rattle.rs_catalog.specs.Catalog.{CatalogDef}
use Rattle.rs_filter.specs.Conditions.{conditions_of}
use Rattle.rs_filter.specs.Distinct.{new_distinct}
use Rattle.rs_mu.specs.Mu.{new_mu}
use Rattle.rs_query.specs.Answers.{weights_of}
use Rattle.rs_query.specs.Tables.{size_of}
use Rattle.rs_query.specs.declared.block.Block.{Block}
use Rattle.rs_query.specs.declared.query.Query.{Query}
use Rattle.rs_query.specs.declared.query.Query.TheVariants.{One, Set}
use Rattle.rs_value.specs.declared.set_op.SetOp.{SetOp}
use Rattle.rs_scan.specs.Scans.{new_index_scan, new_table_scan}
use Rattle.rs_plan.specs.Trees.{Distinct, JoinOperator, Rank, RankScan, SeqScan, SetOperator, PlanTree, entries, terms}
use Rattle.rs_exec.specs.declared.distinct.DistinctNode.{DistinctNode}
use Rattle.rs_exec.specs.declared.join.JoinNode.{JoinNode}
use Rattle.rs_exec.specs.declared.node.PlanNode.{PlanNode}
use Rattle.rs_exec.specs.declared.node.PlanNode.TheVariants as node
use Rattle.rs_exec.specs.declared.rank.RankNode.{RankNode}
use Rattle.rs_exec.specs.declared.tally.Tally.{Tally}
use Rattle.rs_exec.specs.declared.set.SetNode.{SetNode}
use Rattle.rs_exec.specs.declared.scan.IndexNode.{IndexNode}
use Rattle.rs_exec.specs.declared.scan.TableNode.{TableNode}
use Rattle.rs_exec.specs.Cores.{new_join_core}
use Rattle.rs_exec.specs.Drawing.{entry_conjuncts}
use Rattle.rs_exec.specs.Joining.{side_for}
use Rattle.rs_exec.specs.SetCores.{new_core}

abbrev pub no_tally : Tally
no_tally = record { asked = 0; gave = 0 }

-- a scan of a table, and one of an index, whose view is the first rows, this many
abbrev pub new_table_node : Block → ℕ → ℕ → ℕ → TableNode
new_table_node block number entry rows = record {
  scan = new_table_scan entry number rows;
  block = number;
  entry = entry;
  conjuncts = entry_conjuncts block entry;
  tally = no_tally;
}

abbrev pub new_index_node : Block → ℕ → ℕ → ℕ → ℕ → ℕ → ℕ → IndexNode
new_index_node block number entry term index weight rows = record {
  scan = new_index_scan index entry number weight rows;
  block = number;
  entry = entry;
  term = term;
  conjuncts = entry_conjuncts block entry;
  tally = no_tally;
}

-- the nodes of this tree, of a block of this number, before any ask
abbrev pub IsStart : CatalogDef → Block → ℕ → PlanTree → PlanNode → Type 0
IsStart catalogue block number (SeqScan entry) (node.SeqScan head) =
    head ≡ new_table_node block number entry (size_of catalogue block entry)
IsStart catalogue block number (RankScan entry term index) (node.RankScan head) =
    head ≡ new_index_node block number entry term index (slice_index (weights_of block).weight (term - 1)) (size_of catalogue block entry)
IsStart catalogue block number (Rank term child) (node.Rank' head p below) =
    (head ≡ record { core = new_mu (weights_of block) (terms child) term; term = term; args = tt; tally = no_tally; calls = 0 })
    × IsStart catalogue block number child below
IsStart catalogue block number (JoinOperator kind left right) (node.Join' head p on_left q on_right) =
    (head ≡ record {
      core = new_join_core kind (weights_of block) (side_for left) (side_for right);
      block = number;
      conditions = conditions_of catalogue block (entries left) (entries right);
      tally = no_tally;
    })
    × IsStart catalogue block number left on_left × IsStart catalogue block number right on_right
IsStart catalogue block number (Distinct child) (node.Distinct' head p below) =
    (head ≡ record { core = new_distinct; tally = no_tally }) × IsStart catalogue block number child below
IsStart catalogue block number tree nodes = ⊥

-- the nodes of this tree, of a plan of a set query of these blocks, before any ask
abbrev pub IsSetStart : CatalogDef → SetOp → Block → Block → PlanTree → PlanNode → Type 0
IsSetStart catalogue op left_block right_block (Rank term child) (node.Rank' head p below) =
    (head ≡ record { core = new_mu (weights_of left_block) (terms child) term; term = term; args = tt; tally = no_tally; calls = 0 })
    × IsSetStart catalogue op left_block right_block child below
IsSetStart catalogue op left_block right_block (SetOperator left right) (node.Set' head p on_left q on_right) =
    (head ≡ record { core = new_core op (weights_of left_block) (terms left); tally = no_tally })
    × IsStart catalogue left_block 1 left on_left × IsStart catalogue right_block 2 right on_right
IsSetStart catalogue op left_block right_block tree nodes = ⊥

-- those of a plan of a query
abbrev pub IsQueryStart : CatalogDef → Query → PlanTree → PlanNode → Type 0
IsQueryStart catalogue (One block limit) tree nodes = IsStart catalogue block 1 tree nodes
IsQueryStart catalogue (Set op left right limit) tree nodes = IsSetStart catalogue op left right tree nodes

-- an operator over these nodes
abbrev pub IsRankOver : RankNode → PlanNode → PlanNode → Type 0
IsRankOver head below (node.Rank' top p child) = (top ≡ head) × (child ≡ below)
IsRankOver head below top = ⊥

-- a join over these nodes
abbrev pub IsJoinOver : JoinNode → PlanNode → PlanNode → PlanNode → Type 0
IsJoinOver head on_left on_right (node.Join' top p left q right) = (top ≡ head) × (left ≡ on_left) × (right ≡ on_right)
IsJoinOver head on_left on_right top = ⊥

-- an operator that drops duplicates over these nodes
abbrev pub IsDistinctOver : DistinctNode → PlanNode → PlanNode → Type 0
IsDistinctOver head below (node.Distinct' top p child) = (top ≡ head) × (child ≡ below)
IsDistinctOver head below top = ⊥

-- a set operator over these nodes
abbrev pub IsSetOver : SetNode → PlanNode → PlanNode → PlanNode → Type 0
IsSetOver head on_left on_right (node.Set' top p left q right) = (top ≡ head) × (left ≡ on_left) × (right ≡ on_right)
IsSetOver head on_left on_right top = ⊥
