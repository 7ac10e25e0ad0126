-- The entries of a view stand as in the ranking, and a greater score gives a greater sum.
use Rattle.rs_rank.specs.Masks.{mask_of}
use Rattle.rs_scan.proofs.IndexFacts.{index-climbs, index-count, index-ids, index-others, index-sums}
use Rattle.rs_scan.proofs.laws.index_rows_can_be_input.Goals as goal

pub returns-clause-count : goal.returns-clause-count
returns-clause-count c = λ block entry weight size max ranking is. index-count block entry weight size max ranking is

pub returns-clause-rising : goal.returns-clause-rising
returns-clause-rising c = λ weights block entry weight rows term size max ranking is_entry is some. index-climbs block entry weight is_entry weights (mask_of term) rows size max ranking is some

pub returns-clause-sums : goal.returns-clause-sums
returns-clause-sums c = λ weights block entry weight rows term size max ranking limits least most is same low. index-sums weights block entry weight rows term size max ranking limits least most is same low

pub returns-clause-ids : goal.returns-clause-ids
returns-clause-ids c = λ block entry weight rows ranking is_entry. index-ids block entry weight is_entry rows ranking

pub returns-clause-others : goal.returns-clause-others
returns-clause-others c = λ block entry weight rows size max ranking is_entry is. index-others block entry weight is_entry rows size max ranking is
