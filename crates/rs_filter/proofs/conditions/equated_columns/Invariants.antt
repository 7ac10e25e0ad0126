-- The columns so far are those of the first conjuncts.
use Rattle.std.proofs.Common.{◌≡◌, take}
use Rattle.rs_filter.specs.Conditions.{equated_columns}
use Rattle.rs_filter.proofs.conditions.equated_columns.Given as goal

abbrev pub invariant-loop-conjunct : goal.invariant-loop-conjunct
invariant-loop-conjunct l = l.columns.items ≡ equated_columns l.left l.right (take l.conjunct-index l.block.conjuncts)
