use Rattle.std.proofs.Common.{◌+◌, ◌*◌, max}
use Rattle.rs_syntax.proofs.node.Node.TheLaws.{the_size}
use Rattle.rs_typing.proofs.typing.+typing.Given as goal

abbrev pub decreases-type_node : goal.decreases-type_node
decreases-type_node g l = 3 * the_size l.node.now

abbrev pub decreases-type_one : goal.decreases-type_one
decreases-type_one g l = 3 * the_size l.part.now + 1

abbrev pub decreases-type_two : goal.decreases-type_two
decreases-type_two g l = 3 * max (the_size l.left.now) (the_size l.right.now) + 2

abbrev pub decreases-type_case : goal.decreases-type_case
decreases-type_case g l = 3 * max (the_size l.condition.now) (max (the_size l.outcome.now) (the_size l.rest.now)) + 2

abbrev pub decreases-type_pair : goal.decreases-type_pair
decreases-type_pair g l = 3 * max (the_size l.left.now) (the_size l.right.now) + 1
