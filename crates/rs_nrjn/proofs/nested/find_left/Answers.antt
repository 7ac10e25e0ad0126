-- The row at the loop's place is one of the rows.
use Rattle.std.proofs.Common.{arith}
use Rattle.rs_order.proofs.EachFacts.{each-get_or}
use Rattle.rs_rank.specs.Rows.{CanMergeRows}
use Rattle.rs_nrjn.proofs.nested.find_left.Goals as goal

pub try_pair-requires-clause-rows : goal.try_pair-requires-clause-rows
try_pair-requires-clause-rows g c = each-get_or (λ left. CanMergeRows left c.args.row.now) c.args.lefts.now c.loop-left.left-index _ c.requires.rows (omega arith)
