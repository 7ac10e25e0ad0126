use Rattle.std.proofs.Common.{◌≡◌, take}
use Rattle.rs_query.specs.WellFormed.{argument_columns, entries_mask}
use Rattle.rs_bind.proofs.terms.entries_of.Given as goal

abbrev pub invariant-loop-arg : goal.invariant-loop-arg
invariant-loop-arg l = l.entries ≡ entries_mask (argument_columns (take l.arg-index l.args))
