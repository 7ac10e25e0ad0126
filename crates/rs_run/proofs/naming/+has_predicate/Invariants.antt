use Rattle.std.proofs.Common.{length}
use Rattle.rs_run.proofs.naming.+has_predicate.Given as goal

abbrev pub decreases-has_predicate : goal.decreases-has_predicate
decreases-has_predicate l = length l.statements.now
