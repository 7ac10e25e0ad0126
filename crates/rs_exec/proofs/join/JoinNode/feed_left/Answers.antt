-- The block is that of the join.
use Rattle.std.proofs.Common.{sym, subst}
use Rattle.rs_order.specs.Schedule.{Left}
use Rattle.rs_query.specs.declared.block.Block.{Block}
use Rattle.rs_exec.specs.Cores.{CanTake}
use Rattle.rs_exec.proofs.join.JoinNode.feed_left.Goals as goal

pub feed_left-requires : goal.feed_left-requires
feed_left-requires c =
    subst (λ (b : Block). CanTake Left c.args.context.now.catalog.now b c.args.self.now.conditions c.args.row c.args.self.now.core) (sym c.block-block.ensures) c.requires
