-- The row at the loop's place is one of the rows.
use Rattle.std.proofs.Common.{arith}
use Rattle.rs_order.proofs.EachFacts.{each-get_or}
use Rattle.rs_rank.specs.Rows.{CanMergeRows}
use Rattle.rs_nrjn.proofs.nested.find_right.Goals as goal

pub try_pair-requires-clause-rows : goal.try_pair-requires-clause-rows
try_pair-requires-clause-rows g c = each-get_or (CanMergeRows c.args.row.now) c.args.rights.now c.loop-right.right-index _ c.requires.rows (omega arith)
