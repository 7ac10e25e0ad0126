-- Rows with the same output values have the same key but for their ids, so the first one by ids is the first one by key.
use Rattle.rs_exec.proofs.DistinctListFacts.{distinct-outputs}
use Rattle.rs_exec.proofs.distinct_laws.distinct_gives_the_first_rows.Goals as goal

pub returns : goal.returns
returns c = λ w number child formed bounded weights part. distinct-outputs w number child formed bounded part weights
