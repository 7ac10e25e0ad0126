-- The masks of a part are masks of its block, and what is expected of it depends on them alone.
use Rattle.std.proofs.Common.{◌∙◌, sym, subst₂}
use Rattle.rs_sample.specs.Cards.{IsEstimated}
use Rattle.rs_sample.specs.Kept.{cards_of}
use Rattle.rs_query.specs.Blocks.{block_in}
use Rattle.rs_plan.specs.Shapes.{tree_of}
use Rattle.rs_plan.specs.Trees.{terms}
use Rattle.rs_enum.specs.QueryCards.{cards_at}
use Rattle.rs_enum.proofs.CostFacts.{block-cards, block-formed, masks-part, part-has-numbers}
use Rattle.rs_enum.proofs.OrderOfPlans.{estimate-part}
use Rattle.rs_enum.proofs.costs.part_rows.Goals as goal

pub signature-requires : goal.signature-requires
signature-requires c =
    part-has-numbers c.args.planning.now.catalog.now (block_in c.args.planning.now.query.now c.args.number)
    (block-formed c.args.planning.now.catalog.now c.args.planning.now.query.now c.args.number c.requires.planning.query) (tree_of c.args.plan.now) c.requires.part

pub rows_of-requires-clause-masks : goal.rows_of-requires-clause-masks
rows_of-requires-clause-masks c =
    let own = cards_at (cards_of c.args.planning.now.cards.now) c.args.number in
    let are = block-cards c.args.planning.now.query.now (cards_of c.args.planning.now.cards.now) c.args.number c.requires.planning.cards c.requires.number in
    subst₂ (λ x y. IsEstimated own x y) (sym c.signature.ensures.entries) (sym c.signature.ensures.terms)
    (masks-part (block_in c.args.planning.now.query.now c.args.number) own are c.args.planning.now.catalog.now (tree_of c.args.plan.now) c.requires.part)

pub returns-clause-value : goal.returns-clause-value
returns-clause-value c =
    let own = cards_at (cards_of c.args.planning.now.cards.now) c.args.number in
    c.rows_of.ensures.value
    ∙ (λ at. own.estimate (c.signature.ensures.entries at) (c.signature.ensures.terms at))
    ∙ sym (estimate-part c.args.planning.now.catalog.now c.args.planning.now.query.now (cards_of c.args.planning.now.cards.now) (block_in c.args.planning.now.query.now c.args.number) c.args.number
    (tree_of c.args.plan.now) (terms (tree_of c.args.plan.now)) c.requires.part)
