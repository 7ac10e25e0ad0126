use Rattle.rs_query.specs.Blocks.{block_in}
use Rattle.rs_query.proofs.LimitFacts.{first-formed, sizes-few, weights-few}
use Rattle.rs_query.proofs.limits.limits_hold.Goals as goal

pub returns-clause-rows : goal.returns-clause-rows
returns-clause-rows c = λ number. sizes-few c.args.catalog.now c.limits_hold.ensures.rows (block_in c.args.query.now number)

pub returns-clause-weights : goal.returns-clause-weights
returns-clause-weights c =
    weights-few c.args.catalog.now (block_in c.args.query.now 1) c.limits_hold.ensures.scores (first-formed c.args.catalog.now c.args.query.now c.requires)
