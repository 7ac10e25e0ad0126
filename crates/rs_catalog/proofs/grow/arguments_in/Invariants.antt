use Rattle.std.proofs.Common.{◌≡◌, true, List, take}
use Rattle.rs_value.specs.declared.kind.Kind.{Kind}
use Rattle.rs_value.specs.Value.{all_fit}
use Rattle.rs_table.specs.Column.{Column}
use Rattle.rs_table.specs.Relation.{row_fits}
use Rattle.rs_catalog.specs.Indexes.{args_fit, args_in}
use Rattle.rs_catalog.proofs.grow.arguments_in.Given as goal

-- the values so far are those of the first arguments, and have their kinds
abbrev pub invariant-loop-arg : goal.invariant-loop-arg
invariant-loop-arg l = record {
  values : l.values.items ≡ args_in (take l.arg-index l.args) l.row;
  fit : (columns : List Column) (kinds : List Kind) → row_fits columns l.row ≡ true → args_fit columns kinds l.args ≡ true → all_fit (take l.arg-index kinds) l.values.items ≡ true;
}
