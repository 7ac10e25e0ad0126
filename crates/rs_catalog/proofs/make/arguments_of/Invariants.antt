use Rattle.std.proofs.Common.{◌≡◌, true, List, take}
use Rattle.rs_value.specs.declared.kind.Kind.{Kind}
use Rattle.rs_value.specs.Value.{all_fit}
use Rattle.rs_catalog.specs.Indexes.{args_fit, args_in, row_at}
use Rattle.rs_catalog.proofs.make.arguments_of.Given as goal

-- the values so far are those of the first arguments, and have their kinds
abbrev pub invariant-loop-arg : goal.invariant-loop-arg
invariant-loop-arg l = record {
  values : l.values.items ≡ args_in (take l.arg-index l.args) (row_at l.table.rows l.row);
  fit : (kinds : List Kind) → args_fit l.table.schema kinds l.args ≡ true → all_fit (take l.arg-index kinds) l.values.items ≡ true;
}
