-- Each of the compared parts ties.
use Rattle.rs_rank.proofs.OrderFacts.{IsTied-parts, IsTied-of_parts}
use Rattle.rs_rank.proofs.key_laws.equal_keys_have_equal_rows.Goals as goal

pub returns : goal.returns
returns c = λ key other. (IsTied-parts key other, IsTied-of_parts key other)
