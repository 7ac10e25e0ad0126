use Rattle.std.proofs.Common.{◌≡◌, ◌∙◌, false, sym, ap, subst}
use Rattle.rs_rank.specs.Masks.{has_number}
use Rattle.rs_plan.specs.Numbers.{HasNumbers}
use Rattle.rs_plan.specs.Plans.{IsSetPlan}
use Rattle.rs_plan.specs.Shapes.{tree_of}
use Rattle.rs_plan.specs.Trees.{Rank, SetOperator}
use Rattle.rs_plan.specs.declared.plan.Plan.{Plan}
use Rattle.rs_exec.proofs.BlockFacts.{light-terms}
use Rattle.rs_exec.proofs.SetPlanFacts.{set-numbers}
use Rattle.rs_exec.proofs.node.PlanNode.+start_set.Goals as goal

pub signature-requires : goal.signature-requires
signature-requires t c =
    let is : tree_of c.args.plan.now ≡ Rank c.in-Rank.term (tree_of c.deref-in-Rank.result.now) =
    ap tree_of c.in-Rank.is ∙ ap (λ (plan : Plan). Rank c.in-Rank.term (tree_of plan)) (sym c.deref-in-Rank.ensures) in
    let plan = subst (IsSetPlan c.args.catalog.now c.args.left_block.now c.args.right_block.now) is c.requires.plan in
    set-numbers c.args.catalog.now c.args.left_block.now c.args.right_block.now (tree_of c.deref-in-Rank.result.now) c.requires.sides plan.0

pub new-head-requires-clause-term : goal.new-head-requires-clause-term
new-head-requires-clause-term t c =
    let is : tree_of c.args.plan.now ≡ Rank c.in-Rank.term (tree_of c.deref-in-Rank.result.now) =
    ap tree_of c.in-Rank.is ∙ ap (λ (plan : Plan). Rank c.in-Rank.term (tree_of plan)) (sym c.deref-in-Rank.ensures) in
    let plan = subst (IsSetPlan c.args.catalog.now c.args.left_block.now c.args.right_block.now) is c.requires.plan in
    record {
      least = plan.1.is_term.some;
      most = (set-numbers c.args.catalog.now c.args.left_block.now c.args.right_block.now (Rank c.in-Rank.term (tree_of c.deref-in-Rank.result.now)) c.requires.sides plan).0.within;
      absent = subst (λ mask. has_number mask c.in-Rank.term ≡ false) (sym c.signature.ensures.terms) plan.1.absent;
    }

pub weights-weights-requires-in-SetOperator-clause-limits : goal.weights-weights-requires-in-SetOperator-clause-limits
weights-weights-requires-in-SetOperator-clause-limits t c = light-terms c.args.catalog.now c.args.left_block.now c.requires.sides.left_block

pub signature-terms-requires : goal.signature-terms-requires
signature-terms-requires t c =
    let plan = subst (IsSetPlan c.args.catalog.now c.args.left_block.now c.args.right_block.now) (ap tree_of c.in-SetOperator.is) c.requires.plan in
    subst (λ (plan : Plan). HasNumbers (tree_of plan)) (sym c.deref-in-SetOperator.ensures)
    (set-numbers c.args.catalog.now c.args.left_block.now c.args.right_block.now
    (SetOperator (tree_of c.in-SetOperator.left.value) (tree_of c.in-SetOperator.right.value)) c.requires.sides plan).0
