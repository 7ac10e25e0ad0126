use Rattle.std.proofs.Common.{◌≡◌, ◌∙◌, ◌⊎◌, ℕ, false, Box, Global, sym, ap, subst, subst₂}
use Rattle.rs_catalog.specs.Catalog.{CatalogDef}
use Rattle.rs_mu.specs.Mu.{IsNewTerm}
use Rattle.rs_filter.specs.Conditions.{conditions_of}
use Rattle.rs_query.specs.Answers.{weights_of}
use Rattle.rs_query.specs.WellFormed.{IsBlock}
use Rattle.rs_query.specs.declared.block.Block.{Block}
use Rattle.rs_rank.specs.Masks.{has_number}
use Rattle.rs_plan.specs.Numbers.{HasNumbers}
use Rattle.rs_plan.specs.Plans.{IsPart}
use Rattle.rs_plan.specs.Shapes.{tree_of}
use Rattle.rs_plan.specs.Trees.{JoinKind, JoinOperator, Rank, PlanTree, entries, terms}
use Rattle.rs_plan.specs.declared.plan.Plan.{Plan}
use Rattle.rs_plan.specs.declared.plan.Plan.TheViews as view
use Rattle.rs_plan.proofs.DecidingFacts.{part-numbers}
use Rattle.rs_plan.proofs.ShapeFacts.{IsJoin, join-shape}
use Rattle.rs_ripple.specs.Ripple.{CanJoin}
use Rattle.rs_ripple.specs.declared.side.Side.{Side}
use Rattle.rs_exec.specs.Cores.{new_join_core}
use Rattle.rs_exec.specs.Joining.{side_for}
use Rattle.rs_exec.specs.Starting.{IsJoinOver, IsStart, no_tally}
use Rattle.rs_exec.specs.declared.join.JoinNode.{JoinNode}
use Rattle.rs_exec.specs.declared.node.PlanNode.{PlanNode}
use Rattle.rs_exec.specs.declared.node.PlanNode.TheVariants as node
use Rattle.rs_exec.proofs.PartMaskFacts.{can-join}
use Rattle.rs_exec.proofs.node.PlanNode.+start.Goals as goal

-- what is a part of a plan of a block has the numbers of entries and terms
numbers : (catalogue : CatalogDef) (block : Block) (tree : PlanTree) → IsBlock catalogue block → IsPart catalogue block tree → HasNumbers tree
numbers catalogue block tree is part = part-numbers catalogue block tree is.most_entries is.most_terms part

-- the term of a rank operator isn't evaluated below
new-term : (catalogue : CatalogDef) (block : Block) (term : ℕ) (child : PlanTree) → IsBlock catalogue block → IsPart catalogue block (Rank term child)
    → (below : ℕ) → below ≡ terms child → IsNewTerm below term
new-term catalogue block term child is part below same = record {
  least = part.1.is_term.some;
  most = (numbers catalogue block (Rank term child) is part).0.within;
  absent = subst (λ mask. has_number mask term ≡ false) (sym same) part.1.absent;
}

pub signature-requires : goal.signature-requires
signature-requires t c =
    let is : tree_of c.args.plan.now ≡ Rank c.in-Rank.term (tree_of c.deref-in-Rank.result.now) =
    ap tree_of c.in-Rank.is ∙ ap (λ (plan : Plan). Rank c.in-Rank.term (tree_of plan)) (sym c.deref-in-Rank.ensures) in
    let part = subst (IsPart c.args.catalog.now c.args.block.now) is c.requires.part in
    numbers c.args.catalog.now c.args.block.now (tree_of c.deref-in-Rank.result.now) c.requires.block part.0

pub new-head-requires-in-Rank-clause-term : goal.new-head-requires-in-Rank-clause-term
new-head-requires-in-Rank-clause-term t c =
    let is : tree_of c.args.plan.now ≡ Rank c.in-Rank.term (tree_of c.deref-in-Rank.result.now) =
    ap tree_of c.in-Rank.is ∙ ap (λ (plan : Plan). Rank c.in-Rank.term (tree_of plan)) (sym c.deref-in-Rank.ensures) in
    let part = subst (IsPart c.args.catalog.now c.args.block.now) is c.requires.part in
    new-term c.args.catalog.now c.args.block.now c.in-Rank.term (tree_of c.deref-in-Rank.result.now) c.requires.block part c.signature.result.terms c.signature.ensures.terms

-- a join of two parts
module _ (catalogue : CatalogDef) (block : Block) (plan : Plan) (left right : Box Plan Global) (is : (plan ≡ view.HashJoin left right) ⊎ (plan ≡ view.NestedJoin left right))
    (part : IsPart catalogue block (tree_of plan)) where
  abbrev shape : IsJoin (tree_of plan) (tree_of left.value) (tree_of right.value)
  shape = join-shape plan left right is

  sides : IsPart catalogue block (JoinOperator shape.kind (tree_of left.value) (tree_of right.value))
  sides = subst (IsPart catalogue block) shape.is part

pub side_of-left_side-requires : goal.side_of-left_side-requires
side_of-left_side-requires t c =
    subst (λ (plan : Plan). HasNumbers (tree_of plan)) (sym c.deref-in-HashJoin.ensures)
    (numbers c.args.catalog.now c.args.block.now (tree_of c.in-HashJoin.left.value) c.requires.block
    (sides c.args.catalog.now c.args.block.now c.args.plan.now c.in-HashJoin.left c.in-HashJoin.right c.in-HashJoin.is c.requires.part).0)

pub side_of-right_side-requires : goal.side_of-right_side-requires
side_of-right_side-requires t c =
    subst (λ (plan : Plan). HasNumbers (tree_of plan)) (sym c.deref-in-HashJoin-2.ensures)
    (numbers c.args.catalog.now c.args.block.now (tree_of c.in-HashJoin.right.value) c.requires.block
    (sides c.args.catalog.now c.args.block.now c.args.plan.now c.in-HashJoin.left c.in-HashJoin.right c.in-HashJoin.is c.requires.part).1)

pub new-core-requires : goal.new-core-requires
new-core-requires t c =
    let part = sides c.args.catalog.now c.args.block.now c.args.plan.now c.in-HashJoin.left c.in-HashJoin.right c.in-HashJoin.is c.requires.part in
    let left = c.side_of-left_side.ensures ∙ ap (λ (plan : Plan). side_for (tree_of plan)) c.deref-in-HashJoin.ensures in
    let right = c.side_of-right_side.ensures ∙ ap (λ (plan : Plan). side_for (tree_of plan)) c.deref-in-HashJoin-2.ensures in
    subst (λ (side : Side). CanJoin c.weights-weights.result side c.side_of-right_side.result) (sym left)
    (subst (λ (side : Side). CanJoin c.weights-weights.result (side_for (tree_of c.in-HashJoin.left.value)) side) (sym right)
    (can-join c.args.catalog.now c.args.block.now c.weights-weights.result (tree_of c.in-HashJoin.left.value) (tree_of c.in-HashJoin.right.value)
    c.requires.block part.0 part.1 part.2 c.weights-weights.ensures.limits))

-- a join over the nodes of its sides
join-start : (catalogue : CatalogDef) (block : Block) (number : ℕ) (kind : JoinKind) (left right : PlanTree) (head : JoinNode) (on_left on_right all : PlanNode) → IsJoinOver head on_left on_right all
    → head ≡ record {
      core = new_join_core kind (weights_of block) (side_for left) (side_for right);
      block = number;
      conditions = conditions_of catalogue block (entries left) (entries right);
      tally = no_tally;
    } → IsStart catalogue block number left on_left → IsStart catalogue block number right on_right → IsStart catalogue block number (JoinOperator kind left right) all
join-start catalogue block number kind left right head on_left on_right (node.Join' top p l q r) over is first second =
    (over.0 ∙ is, subst (IsStart catalogue block number left) (sym over.1) first, subst (IsStart catalogue block number right) (sym over.2) second)
join-start catalogue block number kind left right head on_left on_right all over is first second = absurd over

pub returns-in_ok-on_right-in-HashJoin : goal.returns-in_ok-on_right-in-HashJoin
returns-in_ok-on_right-in-HashJoin t c =
    let catalogue = c.args.catalog.now in
    let block = c.args.block.now in
    let join = shape catalogue block c.args.plan.now c.in-HashJoin.left c.in-HashJoin.right c.in-HashJoin.is c.requires.part in
    let l = tree_of c.in-HashJoin.left.value in
    let r = tree_of c.in-HashJoin.right.value in
    let left = c.side_of-left_side.ensures ∙ ap (λ (plan : Plan). side_for (tree_of plan)) c.deref-in-HashJoin.ensures in
    let right = c.side_of-right_side.ensures ∙ ap (λ (plan : Plan). side_for (tree_of plan)) c.deref-in-HashJoin-2.ensures in
    let core = c.new-core.ensures join.kind l r join.is ∙ (λ i. new_join_core join.kind (c.weights-weights.ensures.value i) (left i) (right i)) in
    let conditions = c.in_ok-conditions-in-HashJoin.ensures ∙ (λ i. conditions_of catalogue block (left i).mask (right i).mask) in
    subst (λ (tree : PlanTree). IsStart catalogue block c.args.number tree c.join_over.result) (sym join.is)
    (join-start catalogue block c.args.number join.kind l r c.new-head-in-HashJoin.result c.in_ok-on_left-in-HashJoin.on_left.value c.in_ok-on_right-in-HashJoin.on_right.value
    c.join_over.result c.join_over.ensures
    (c.new-head-in-HashJoin.ensures ∙ (λ i. record { core = core i; block = c.args.number; conditions = conditions i; tally = no_tally }))
    (subst₂ (λ (plan : Plan) (n : PlanNode). IsStart catalogue block c.args.number (tree_of plan) n) c.deref-in-HashJoin-3.ensures (sym c.in_ok-on_left-in-HashJoin.ensures) c.in_ok-start-in-HashJoin.ensures)
    (subst₂ (λ (plan : Plan) (n : PlanNode). IsStart catalogue block c.args.number (tree_of plan) n) c.deref-in-HashJoin-4.ensures (sym c.in_ok-on_right-in-HashJoin.ensures) c.in_ok-start-in-HashJoin-2.ensures))
