use Rattle.rs_query.proofs.PieceFacts.{from_first}
use Rattle.rs_query.proofs.search.Search.start.Goals as goal

pub returns : goal.returns
returns c =
    from_first c.args.catalog.now c.args.block.now c.in_ok-steps.steps.items c.in_ok-steps.ensures.first c.in_ok-steps.ensures.steps c.in_ok-steps.ensures.ranges
