use Rattle.std.proofs.Common.{◌≡◌, List, map, take}
use Rattle.rs_value.specs.declared.value.Value.{Value}
use Rattle.rs_outputs.specs.Seen.{has_list}
use Rattle.rs_plain.proofs.sets.outputs_of.Given as goal

-- the lists are those of the rows so far
abbrev pub invariant-loop-row : goal.invariant-loop-row
invariant-loop-row l = (values : List Value) → has_list values l.outputs.lists ≡ has_list values (map (λ row. row.values) (take l.row-index l.rows))
