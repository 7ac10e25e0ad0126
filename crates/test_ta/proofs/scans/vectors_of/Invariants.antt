-- The lists so far are copied.
use Rattle.std.proofs.Common.{◌≡◌, take}
use Rattle.rs_ta.specs.MemLists.{scored_lists}
use Rattle.test_ta.specs.Asked.{lists_of}
use Rattle.test_ta.proofs.scans.vectors_of.Given as goal

abbrev pub invariant-loop-list : goal.invariant-loop-list
invariant-loop-list g l = scored_lists l.made.items ≡ lists_of (take l.list-index l.lists)
