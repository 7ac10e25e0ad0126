-- The nodes of a plan of a query, as they are made, stand before any ask.
use Rattle.std.proofs.Common.{◌≡◌, ◌∙◌, ℕ, [], Option, length, refl, sym, ap, ap₂, subst, inl, inr}
use Rattle.rs_mu.specs.Mu.{new_mu}
use Rattle.rs_catalog.specs.Catalog.{CatalogDef}
use Rattle.rs_expr.specs.Scoring.{Answering}
use Rattle.rs_query.specs.Answers.{weights_of}
use Rattle.rs_query.specs.WellFormed.{IsQuery}
use Rattle.rs_query.specs.declared.block.Block.{Block}
use Rattle.rs_query.specs.declared.query.Query.{Query}
use Rattle.rs_query.specs.declared.query.Query.TheVariants.{One, Set}
use Rattle.rs_query.proofs.ScoreFacts.{same-sides}
use Rattle.rs_rank.specs.Weights.{IsWeights}
use Rattle.rs_value.specs.declared.set_op.SetOp.{SetOp}
use Rattle.rs_plan.specs.Lists.{World, list_of, weights_in}
use Rattle.rs_query.specs.Blocks.{block_in}
use Rattle.rs_plan.specs.Plans.{IsPlan, IsSetPlan}
use Rattle.rs_plan.specs.Trees.{Rank, SetOperator, PlanTree, terms}
use Rattle.rs_exec.specs.Asked.{IsBoundedWorld}
use Rattle.rs_exec.specs.Asking.{world_of}
use Rattle.rs_exec.specs.Nodes.{asked_in, tree_in}
use Rattle.rs_exec.specs.OutputValues.{outputs_in}
use Rattle.rs_exec.specs.SetCores.{CoreStands, new_core}
use Rattle.rs_exec.specs.SetNodes.{SetStands, sides_for}
use Rattle.rs_exec.specs.Standing.{HeadStands, Stands}
use Rattle.rs_exec.specs.Starting.{IsQueryStart, IsSetStart, no_tally}
use Rattle.rs_exec.specs.declared.node.PlanNode.{PlanNode}
use Rattle.rs_exec.specs.declared.node.PlanNode.TheVariants as node
use Rattle.rs_exec.specs.declared.rank.RankNode.{RankNode}
use Rattle.rs_exec.specs.declared.set.SetNode.{SetNode}
use Rattle.rs_exec.proofs.BlockFacts.{few-entries, sizes-are}
use Rattle.rs_exec.proofs.SetCoreFacts.{core-new}
use Rattle.rs_exec.proofs.SetStepFacts.{set-facts}
use Rattle.rs_exec.proofs.StartFacts.{none-given, rank-none, start-asked, start-stands, start-tree}

-- the nodes are of the tree that they were made for
set-tree : (catalogue : CatalogDef) (op : SetOp) (left_block right_block : Block) (tree : PlanTree) (n : PlanNode) → IsSetStart catalogue op left_block right_block tree n → tree_in n ≡ tree
set-tree catalogue op left_block right_block (Rank term child) (node.Rank' head p below) is =
    ap (λ (h : RankNode). Rank h.term (tree_in below)) is.0 ∙ ap (Rank term) (set-tree catalogue op left_block right_block child below is.1)
set-tree catalogue op left_block right_block (SetOperator left right) (node.Set' head p l q r) is =
    ap₂ SetOperator (start-tree catalogue left_block 1 left l is.1) (start-tree catalogue right_block 2 right r is.2)
set-tree catalogue op left_block right_block tree n is = absurd is

pub query-tree : (catalogue : CatalogDef) (query : Query) (tree : PlanTree) (n : PlanNode) → IsQueryStart catalogue query tree n → tree_in n ≡ tree
query-tree catalogue (One block limit) tree n is = start-tree catalogue block 1 tree n is
query-tree catalogue (Set op left right limit) tree n is = set-tree catalogue op left right tree n is

-- they were not asked
set-unasked : (catalogue : CatalogDef) (op : SetOp) (left_block right_block : Block) (tree : PlanTree) (n : PlanNode) → IsSetStart catalogue op left_block right_block tree n → asked_in n ≡ 0
set-unasked catalogue op left_block right_block (Rank term child) (node.Rank' head p below) is = ap (λ (h : RankNode). h.tally.asked) is.0
set-unasked catalogue op left_block right_block (SetOperator left right) (node.Set' head p l q r) is = ap (λ (h : SetNode). h.tally.asked) is.0
set-unasked catalogue op left_block right_block tree n is = absurd is

pub query-asked : (catalogue : CatalogDef) (query : Query) (tree : PlanTree) (n : PlanNode) → IsQueryStart catalogue query tree n → asked_in n ≡ 0
query-asked catalogue (One block limit) tree n is = start-asked catalogue block 1 tree n is
query-asked catalogue (Set op left right limit) tree n is = set-unasked catalogue op left right tree n is

-- and they stand
module _ (catalogue : CatalogDef) (answer : Answering) (op : SetOp) (left_block right_block : Block) (limit : Option ℕ) (formed : IsQuery catalogue (Set op left_block right_block limit))
    (bounded : IsBoundedWorld (world_of catalogue answer (Set op left_block right_block limit))) (weights : IsWeights (weights_of left_block)) where
  abbrev query : Query
  query = Set op left_block right_block limit

  abbrev w : World
  w = world_of catalogue answer query

  set-stands : (tree : PlanTree) (n : PlanNode) → IsSetPlan catalogue left_block right_block tree → IsSetStart catalogue op left_block right_block tree n → Stands w 1 n
  set-stands (Rank term child) (node.Rank' head p below) plan is =
      let tree = set-tree catalogue op left_block right_block child below is.1 in (
        subst (λ (h : RankNode). HeadStands w 1 h (tree_in below) (asked_in below)) (sym is.0) (record {
          keeps = ap (λ (below : PlanTree). record { core = new_mu (weights_in w) (terms below) term; term = term; args = tt; tally = no_tally; calls = 0 }) (sym tree)
              ∙ rank-none w 1 term (tree_in below);
          asked = set-unasked catalogue op left_block right_block child below is.1;
        }),
        set-stands child below plan.0 is.1,
      )
  set-stands (SetOperator left right) (node.Set' head p l q r) plan is =
      let on_left = start-tree catalogue left_block 1 left l is.1 in
      let on_right = start-tree catalogue right_block 2 right r is.2 in
      let facts = set-facts catalogue answer w.view query 1 left right formed bounded weights (refl, plan.0, plan.1, plan.2) in (
        refl,
        subst (λ (h : SetNode). SetStands w h (tree_in l) (tree_in r) (asked_in l) (asked_in r)) (sym is.0)
            (subst (λ t. SetStands w (record { core = new_core op (weights_in w) (terms left); tally = no_tally }) t (tree_in r) (asked_in l) (asked_in r)) (sym on_left)
            (subst (λ t. SetStands w (record { core = new_core op (weights_in w) (terms left); tally = no_tally }) left t (asked_in l) (asked_in r)) (sym on_right) (record {
              core = subst (λ n. CoreStands (sides_for w left) op (outputs_in w 1 left) (outputs_in w 2 right) [] n (new_core op (weights_in w) (terms left)))
                  (none-given (length (list_of w 1 (SetOperator left right)))) (core-new (sides_for w left) op (outputs_in w 1 left) (outputs_in w 2 right) facts.sides);
              gave = none-given (length (list_of w 1 (SetOperator left right)));
              left_asked = start-asked catalogue left_block 1 left l is.1;
              right_asked = start-asked catalogue right_block 2 right r is.2;
            }))),
        start-stands w 1 (few-entries catalogue query 1 formed) (sizes-are catalogue answer query 1 (inl refl)) refl left l plan.0.part is.1,
        start-stands w 2 (few-entries catalogue query 2 formed) (sizes-are catalogue answer query 2 (inr refl)) (sym (same-sides left_block right_block formed.0.terms)) right r plan.1.part is.2,
      )
  set-stands tree n plan is = absurd is

pub query-stands : (catalogue : CatalogDef) (answer : Answering) (query : Query) (tree : PlanTree) (n : PlanNode) → IsQuery catalogue query
    → IsBoundedWorld (world_of catalogue answer query) → IsWeights (weights_of (block_in query 1)) → IsPlan catalogue query tree → IsQueryStart catalogue query tree n
    → Stands (world_of catalogue answer query) 1 n
query-stands catalogue answer (One block limit) tree n formed bounded weights plan is =
    start-stands (world_of catalogue answer (One block limit)) 1 (few-entries catalogue (One block limit) 1 formed) (sizes-are catalogue answer (One block limit) 1 refl) refl tree n plan.0.part is
query-stands catalogue answer (Set op left right limit) tree n formed bounded weights plan is = set-stands catalogue answer op left right limit formed bounded weights tree n plan.0 is
