-- What is inside one side is inside both together.
use Rattle.rs_filter.proofs.AcrossFacts.{part-below}
use Rattle.rs_filter.proofs.conditions.across.Goals as goal

pub overflow_sub-result : goal.overflow_sub-result
overflow_sub-result c =
    rw (c.within.ensures.value, c.within-2.ensures.value, c.within-3.ensures.value, c.union.ensures)
    (part-below c.args.left c.args.right c.args.block.now.conjuncts)
