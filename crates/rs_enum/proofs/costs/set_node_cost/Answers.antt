-- What a node adds fits, and leaves its tree below the most that a set operator and operators above it can cost.
use Rattle.std.proofs.Common.{◌≡◌, ◌∙◌, ◌+◌, ◌*◌, ◌≤◌, sym, ap, subst, arith}
use Rattle.rs_query.specs.declared.block.Block.{Block}
use Rattle.rs_sample.specs.Kept.{cards_of}
use Rattle.rs_plan.specs.Shapes.{tree_of}
use Rattle.rs_plan.specs.Trees.{Rank, SetOperator, terms}
use Rattle.rs_enum.specs.Bounds.{most_set_cost}
use Rattle.rs_enum.specs.Costs.{call_cost, cost_of}
use Rattle.rs_enum.specs.Given.{AreBelowSet}
use Rattle.rs_enum.proofs.CostFacts.{set-fits}
use Rattle.rs_enum.proofs.NodeFacts.{set_rank-whole, sides-whole}
use Rattle.rs_enum.proofs.costs.set_node_cost.Goals as goal

pub with_calls-requires : goal.with_calls-requires
with_calls-requires c =
    let whole = tree_of c.args.plan.now in
    let child = tree_of c.deref-child.result.now in
    let is : whole ≡ Rank c.in-Rank.term child = ap tree_of c.in-Rank.is ∙ ap (λ x. Rank c.in-Rank.term (tree_of x)) (sym c.deref-child.ensures) in
    let below : AreBelowSet c.args.planning.now (Rank c.in-Rank.term child) c.args.first c.args.second =
    subst (λ w. AreBelowSet c.args.planning.now w c.args.first c.args.second) is c.requires.below in
    let most = set_rank-whole c.args.planning.now.catalog.now c.args.planning.now.query.now c.requires.planning.query whole child c.in-Rank.term c.args.first c.set_rows-rows.result
    c.call_cost.result is c.requires.part c.set_rows-rows.ensures.most c.call_cost.ensures.small below.most in
    let fits = set-fits c.args.planning.now.catalog.now c.args.planning.now.query.now whole (c.args.first + c.set_rows-rows.result * c.call_cost.result)
    c.requires.planning.query c.requires.part most in
    omega arith

pub returns-in-Rank : goal.returns-in-Rank
returns-in-Rank c =
    let planning = c.args.planning.now in
    let whole = tree_of c.args.plan.now in
    let child = tree_of c.deref-child.result.now in
    let is : whole ≡ Rank c.in-Rank.term child = ap tree_of c.in-Rank.is ∙ ap (λ x. Rank c.in-Rank.term (tree_of x)) (sym c.deref-child.ensures) in
    let below : AreBelowSet c.args.planning.now (Rank c.in-Rank.term child) c.args.first c.args.second =
    subst (λ w. AreBelowSet c.args.planning.now w c.args.first c.args.second) is c.requires.below in
    let most = set_rank-whole planning.catalog.now planning.query.now c.requires.planning.query whole child c.in-Rank.term c.args.first c.set_rows-rows.result
    c.call_cost.result is c.requires.part c.set_rows-rows.ensures.most c.call_cost.ensures.small below.most in
    let call = c.call_cost.ensures.value ∙ ap (λ (b : Block). call_cost c.args.planning.now.catalog.now b c.in-Rank.term) c.block_in.ensures in
    record {
      value = c.with_calls.ensures ∙ (λ at. below.value at + c.set_rows-rows.ensures.value at * call at)
          ∙ sym (ap (cost_of planning.catalog.now planning.query.now (cards_of planning.cards.now)) is);
      most = subst (λ n. n ≤ most_set_cost (terms whole)) (sym c.with_calls.ensures) most;
    }

pub both_sides-requires : goal.both_sides-requires
both_sides-requires c =
    let whole = tree_of c.args.plan.now in
    let left = tree_of c.deref-left.result.now in
    let right = tree_of c.deref-right.result.now in
    let is : whole ≡ SetOperator left right =
    ap tree_of c.in-SetOperator.is ∙ (λ at. SetOperator (tree_of (sym c.deref-left.ensures at)) (tree_of (sym c.deref-right.ensures at))) in
    let below : AreBelowSet c.args.planning.now (SetOperator left right) c.args.first c.args.second =
    subst (λ w. AreBelowSet c.args.planning.now w c.args.first c.args.second) is c.requires.below in
    let most = sides-whole c.args.planning.now.catalog.now c.args.planning.now.query.now c.requires.planning.query whole left right c.args.first c.args.second
    c.part_rows-left_rows.result c.part_rows-right_rows.result is c.requires.part below.0.most below.1.most
    c.part_rows-left_rows.ensures.most c.part_rows-right_rows.ensures.most in
    let fits = set-fits c.args.planning.now.catalog.now c.args.planning.now.query.now whole
    (c.args.first + c.args.second + c.part_rows-left_rows.result + c.part_rows-right_rows.result)
    c.requires.planning.query c.requires.part most in
    omega arith

pub returns-in-SetOperator : goal.returns-in-SetOperator
returns-in-SetOperator c =
    let planning = c.args.planning.now in
    let whole = tree_of c.args.plan.now in
    let left = tree_of c.deref-left.result.now in
    let right = tree_of c.deref-right.result.now in
    let is : whole ≡ SetOperator left right =
    ap tree_of c.in-SetOperator.is ∙ (λ at. SetOperator (tree_of (sym c.deref-left.ensures at)) (tree_of (sym c.deref-right.ensures at))) in
    let below : AreBelowSet c.args.planning.now (SetOperator left right) c.args.first c.args.second =
    subst (λ w. AreBelowSet c.args.planning.now w c.args.first c.args.second) is c.requires.below in
    let most = sides-whole planning.catalog.now planning.query.now c.requires.planning.query whole left right c.args.first c.args.second
    c.part_rows-left_rows.result c.part_rows-right_rows.result is c.requires.part below.0.most below.1.most
    c.part_rows-left_rows.ensures.most c.part_rows-right_rows.ensures.most in
    record {
      value = c.both_sides.ensures
          ∙ (λ at. below.0.value at + below.1.value at + c.part_rows-left_rows.ensures.value at + c.part_rows-right_rows.ensures.value at)
          ∙ sym (ap (cost_of planning.catalog.now planning.query.now (cards_of planning.cards.now)) is);
      most = subst (λ n. n ≤ most_set_cost (terms whole)) (sym c.both_sides.ensures) most;
    }
