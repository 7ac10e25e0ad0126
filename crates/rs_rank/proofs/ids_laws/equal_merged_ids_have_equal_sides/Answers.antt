use Rattle.rs_rank.proofs.IdsFacts.{equal_left, equal_right}
use Rattle.rs_rank.proofs.ids_laws.equal_merged_ids_have_equal_sides.Goals as goal

pub returns-clause-left : goal.returns-clause-left
returns-clause-left c = equal_left

pub returns-clause-right : goal.returns-clause-right
returns-clause-right c = equal_right
