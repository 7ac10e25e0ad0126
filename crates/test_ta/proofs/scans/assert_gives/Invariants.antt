-- The scan can be asked.
use Rattle.test_ta.specs.Asked.{CanBeAsked}
use Rattle.test_ta.specs.Holding.{holds_for}
use Rattle.test_ta.proofs.scans.assert_gives.Given as goal

abbrev pub invariant-loop-wanted : goal.invariant-loop-wanted
invariant-loop-wanted g l = CanBeAsked l.scan l.lists l.test.rows (holds_for l.test.row)
