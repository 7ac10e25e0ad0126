-- The values so far are those of the first arguments, and have their kinds.
use Rattle.std.proofs.Common.{◌≡◌, true, List, map, take}
use Rattle.rs_value.specs.Value.{all_fit}
use Rattle.rs_value.specs.declared.kind.Kind.{Kind}
use Rattle.rs_query.specs.Meaning.{argument_value}
use Rattle.rs_query.specs.WellFormed.{AreArgs}
use Rattle.rs_query.proofs.block.Block.args_of.Given as goal

abbrev pub invariant-loop-arg : goal.invariant-loop-arg
invariant-loop-arg l = record {
  values : l.values.items ≡ map (argument_value l.catalog l.self l.ids.rows) (take l.arg-index l.args);
  fit : (kinds : List Kind) → AreArgs l.catalog l.self kinds l.args → all_fit (take l.arg-index kinds) l.values.items ≡ true;
}
