-- None of the lists before is the one that is looked for, so it is one of all exactly where it is one of those that are left.
use Rattle.std.proofs.Common.{◌≡◌, drop}
use Rattle.rs_outputs.specs.Seen.{has_list}
use Rattle.rs_outputs.specs.Waiting.{lists_in}
use Rattle.rs_outputs.proofs.outputs.is_among.Given as goal

abbrev pub invariant-loop-list : goal.invariant-loop-list
invariant-loop-list l = has_list l.values (lists_in (drop l.list-index l.lists)) ≡ has_list l.values (lists_in l.lists)
