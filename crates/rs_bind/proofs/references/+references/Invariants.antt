use Rattle.std.proofs.Common.{◌+◌, ◌*◌, max}
use Rattle.rs_syntax.proofs.node.Node.TheLaws.{the_size}
use Rattle.rs_bind.proofs.references.+references.Given as goal

abbrev pub decreases-add_columns : goal.decreases-add_columns
decreases-add_columns l = 2 * the_size l.node.now

abbrev pub decreases-add_both : goal.decreases-add_both
decreases-add_both l = 2 * max (the_size l.left.now) (the_size l.right.now) + 1
