-- The values so far are the cells of the first columns, each of its column's kind.
use Rattle.std.proofs.Common.{◌≡◌, ℕ, map, take}
use Rattle.std.specs.List.{AllByRecursion}
use Rattle.rs_query.specs.Meaning.{column_value}
use Rattle.rs_filter.specs.JoinValues.{own_column}
use Rattle.rs_filter.proofs.JoinColumnFacts.{HasKindOf}
use Rattle.rs_filter.proofs.join_values.side_values.Given as goal

abbrev pub invariant-loop-pair : goal.invariant-loop-pair
invariant-loop-pair l = record {
  values_are : l.values.items ≡ map (λ (pair : (ℕ × ℕ) × (ℕ × ℕ)). column_value l.catalog l.block l.ids.rows (own_column l.side pair)) (take l.pair-index l.conditions.columns);
  kinds : AllByRecursion (λ (pair : (ℕ × ℕ) × (ℕ × ℕ)). HasKindOf l.catalog l.block (own_column l.side pair) (column_value l.catalog l.block l.ids.rows (own_column l.side pair))) (take l.pair-index l.conditions.columns);
}
