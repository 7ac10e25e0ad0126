-- The score stands behind the entries so far.
use Rattle.std.proofs.Common.{◌≡◌, drop, map}
use Rattle.rs_ta.specs.Lists.{score_of}
use Rattle.rs_ta.specs.MemLists.{entry_of}
use Rattle.rs_ta.proofs.mem_lists.score_in.Given as goal

abbrev pub invariant-loop-score : goal.invariant-loop-score
invariant-loop-score l = score_of l.row (map entry_of l.list) ≡ score_of l.row (map entry_of (drop l.score-index l.list))
