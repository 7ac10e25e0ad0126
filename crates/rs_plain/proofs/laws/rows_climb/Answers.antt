use Rattle.rs_query.proofs.RiseFacts.{Rise-query}
use Rattle.rs_plain.proofs.laws.rows_climb.Goals as goal

pub returns : goal.returns
returns c = λ answer catalogue query view. Rise-query answer catalogue query view
