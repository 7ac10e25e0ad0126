use Rattle.rs_expr.proofs.WidthFacts.{value-within, width-most}
use Rattle.rs_expr.proofs.laws.values_stay_within_widths.Goals as goal

pub returns-clause-value : goal.returns-clause-value
returns-clause-value c = value-within

pub returns-clause-most : goal.returns-clause-most
returns-clause-most c = width-most
