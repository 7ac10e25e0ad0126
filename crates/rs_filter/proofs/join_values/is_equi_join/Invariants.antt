-- The conjuncts so far are equalities, where they speak of both sides.
use Rattle.std.proofs.Common.{◌≡◌, true, take}
use Rattle.rs_filter.specs.JoinValues.{is_equi}
use Rattle.rs_filter.proofs.join_values.is_equi_join.Given as goal

abbrev pub invariant-loop-conjunct : goal.invariant-loop-conjunct
invariant-loop-conjunct l = is_equi l.left l.right (take l.conjunct-index l.block.conjuncts) ≡ true
