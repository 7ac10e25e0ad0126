use Rattle.cases_plans.specs.Scans.{CanBeScanned}
use Rattle.cases_plans.proofs.scans.tell_asks.Given as goal

-- the scan can be asked
abbrev pub invariant-loop : goal.invariant-loop
invariant-loop l = CanBeScanned l.scan l.lists l.test
