-- Each conjunct that equates a column of each side holds of both rows together.
use Rattle.rs_filter.proofs.JoinValueFacts.{equal-values}
use Rattle.rs_filter.proofs.laws.matches_have_equal_join_values.Goals as goal

pub returns : goal.returns
returns c = λ catalogue block left right l r is apart match. equal-values catalogue block left right l r is apart match
