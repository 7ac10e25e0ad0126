use Rattle.std.proofs.Common.{◌≡◌, length}
use Rattle.test_units.proofs.columns.columns_of.Given as goal

-- one column for each turn
abbrev pub invariant-loop : goal.invariant-loop
invariant-loop l = length l.listed.items ≡ l.counter
