use Rattle.rs_rank.proofs.IdsFacts.{merge_ids-left, merge_ids-right}
use Rattle.rs_rank.proofs.ids_laws.merged_ids_have_both_sides.Goals as goal

pub returns-clause-left : goal.returns-clause-left
returns-clause-left c = merge_ids-left

pub returns-clause-right : goal.returns-clause-right
returns-clause-right c = merge_ids-right
