-- All rows were fed, and there is no bar behind the last answer.
use Rattle.rs_filter.proofs.DistinctLists.{all-asks, all-given}
use Rattle.rs_filter.proofs.distinct_laws.distinct_ends.Goals as goal

pub returns-clause-given : goal.returns-clause-given
returns-clause-given c = λ rows. all-given rows

pub returns-clause-asks : goal.returns-clause-asks
returns-clause-asks c = λ key rows. all-asks key rows
