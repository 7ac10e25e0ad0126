-- Each conjunct across the sides equates a column of each, so it holds of both rows together.
use Rattle.rs_filter.proofs.EquiFacts.{equal-values-join}
use Rattle.rs_filter.proofs.laws.equal_join_values_match.Goals as goal

pub returns : goal.returns
returns c = λ catalogue block left right l r is apart equi left_side right_side same.
    equal-values-join catalogue block left right l r is apart equi left_side right_side same
