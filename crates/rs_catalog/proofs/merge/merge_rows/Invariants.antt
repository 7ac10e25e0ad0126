use Rattle.std.proofs.Common.{◌++◌}
use Rattle.rs_rank.specs.Stable.{stable}
use Rattle.rs_catalog.proofs.MergeFacts.{IsMerging}
use Rattle.rs_catalog.proofs.RankingFacts.{score}
use Rattle.rs_catalog.proofs.merge.merge_rows.Given as goal

-- the first others are still to be put into the first rows, and what stands behind both stays there
abbrev pub invariant-loop-left : goal.invariant-loop-left
invariant-loop-left l = IsMerging score (stable score (l.fn.rows.items ++ l.others)) l.others l.rows.items l.end l.left

abbrev pub decreases-loop-left : goal.decreases-loop-left
decreases-loop-left l = l.left
