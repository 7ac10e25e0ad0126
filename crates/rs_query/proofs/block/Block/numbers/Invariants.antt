-- The numbers so far are those of the first rows.
use Rattle.std.proofs.Common.{ℤ, ℕ, ◌≡◌, ◌+◌, Some, length}
use Rattle.std.specs.Prelude.{slice_get}
use Rattle.rs_value.specs.declared.value.Value.TheVariants as value
use Rattle.rs_query.specs.Searching.{cell_of}
use Rattle.rs_query.proofs.block.Block.numbers.Given as goal

abbrev pub invariant-loop-row : goal.invariant-loop-row
invariant-loop-row l = record {
  sized : length l.numbers.items ≡ l.row;
  values : (place : ℕ) (number : ℤ) → slice_get l.numbers.items place ≡ Some number → cell_of l.catalog l.self l.column (place + 1) ≡ value.Int number;
}
