use Rattle.rs_expr.specs.MemScorer.{answered_score}
use Rattle.rs_catalog.specs.IndexesHold.{IndexesHold}
use Rattle.cases_plans.proofs.script.tell_statements.Given as goal

-- all indexes hold the answers of the scorer
abbrev pub invariant-loop-statement : goal.invariant-loop-statement
invariant-loop-statement l = IndexesHold (answered_score l.scorer) l.catalog
