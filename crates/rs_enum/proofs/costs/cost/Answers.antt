-- A plan that has the set operator is one of two blocks, and another one is a part of the first block.
use Rattle.std.proofs.Common.{◌∙◌, sym, arith}
use Rattle.rs_query.specs.Blocks.{block_in}
use Rattle.rs_plan.specs.Shapes.{tree_of}
use Rattle.rs_enum.proofs.CostFacts.{block-formed, block-part, first-numbered, part-fits, set-fits, set-part}
use Rattle.rs_sample.specs.Kept.{cards_of}
use Rattle.rs_enum.proofs.costs.cost.Goals as goal

pub set_cost-requires-clause-part : goal.set_cost-requires-clause-part
set_cost-requires-clause-part c =
    set-part c.args.catalog.now c.args.query.now (tree_of c.args.plan.now) c.requires.plan (sym c.has_set_operator.ensures ∙ c.if-has_set_operator.true)

pub part_cost-requires-clause-part : goal.part_cost-requires-clause-part
part_cost-requires-clause-part c =
    block-part c.args.catalog.now c.args.query.now (tree_of c.args.plan.now) c.requires.plan (sym c.has_set_operator.ensures ∙ c.if-has_set_operator.false)

pub part_cost-requires-clause-number : goal.part_cost-requires-clause-number
part_cost-requires-clause-number c = first-numbered c.args.query.now (cards_of c.args.cards.now) c.requires.cards

pub returns-then-has_set_operator-clause-fits : goal.returns-then-has_set_operator-clause-fits
returns-then-has_set_operator-clause-fits c =
    set-fits c.args.catalog.now c.args.query.now (tree_of c.args.plan.now) c.set_cost.result c.requires.query
    (set-part c.args.catalog.now c.args.query.now (tree_of c.args.plan.now) c.requires.plan (sym c.has_set_operator.ensures ∙ c.if-has_set_operator.true))
    c.set_cost.ensures.most

pub returns-else-has_set_operator-clause-fits : goal.returns-else-has_set_operator-clause-fits
returns-else-has_set_operator-clause-fits c =
    let part = block-part c.args.catalog.now c.args.query.now (tree_of c.args.plan.now) c.requires.plan (sym c.has_set_operator.ensures ∙ c.if-has_set_operator.false) in
    let formed = block-formed c.args.catalog.now c.args.query.now 1 c.requires.query in
    let fits = part-fits c.args.catalog.now (block_in c.args.query.now 1) formed (tree_of c.args.plan.now) c.part_cost.result part c.part_cost.ensures.most in
    omega arith
