-- A plan that has the set operator is one of two blocks, and another one a part of the first block. Neither has many nodes.
use Rattle.std.proofs.Common.{◌∙◌, inl, sym, arith}
use Rattle.rs_query.specs.Blocks.{block_in}
use Rattle.rs_plan.specs.Shapes.{tree_of}
use Rattle.rs_enum.proofs.CostFacts.{block-formed, block-part, set-part}
use Rattle.rs_enum.proofs.TextFacts.{few-nodes, few-set-nodes}
use Rattle.rs_enum.proofs.text.explain.Goals as goal

pub set_lines-requires-clause-part : goal.set_lines-requires-clause-part
set_lines-requires-clause-part c =
    set-part c.args.catalog.now c.args.query.now (tree_of c.args.plan.now) (inl c.requires.plan) (sym c.has_set_operator.ensures ∙ c.if-has_set_operator.true)

pub set_lines-requires-clause-few : goal.set_lines-requires-clause-few
set_lines-requires-clause-few c =
    let tree = tree_of c.args.plan.now in
    let part = set-part c.args.catalog.now c.args.query.now tree (inl c.requires.plan) (sym c.has_set_operator.ensures ∙ c.if-has_set_operator.true) in
    let few = few-set-nodes c.args.catalog.now c.args.query.now c.requires.query tree part in
    omega arith

pub part_lines-requires-clause-part : goal.part_lines-requires-clause-part
part_lines-requires-clause-part c =
    block-part c.args.catalog.now c.args.query.now (tree_of c.args.plan.now) (inl c.requires.plan) (sym c.has_set_operator.ensures ∙ c.if-has_set_operator.false)

pub part_lines-requires-clause-few : goal.part_lines-requires-clause-few
part_lines-requires-clause-few c =
    let tree = tree_of c.args.plan.now in
    let part = block-part c.args.catalog.now c.args.query.now tree (inl c.requires.plan) (sym c.has_set_operator.ensures ∙ c.if-has_set_operator.false) in
    let formed = block-formed c.args.catalog.now c.args.query.now 1 c.requires.query in
    let few = few-nodes c.args.catalog.now (block_in c.args.query.now 1) formed tree part in
    omega arith
