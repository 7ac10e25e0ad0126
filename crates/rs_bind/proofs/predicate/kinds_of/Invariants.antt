use Rattle.std.proofs.Common.{◌≡◌, map, take}
use Rattle.rs_bind.proofs.predicate.kinds_of.Given as goal

abbrev pub invariant-loop-column : goal.invariant-loop-column
invariant-loop-column l = l.kinds.items ≡ map (λ column. column.1) (take l.column-index l.columns)
