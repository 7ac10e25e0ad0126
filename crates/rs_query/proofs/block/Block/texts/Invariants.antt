-- The texts so far are those of the first rows.
use Rattle.std.proofs.Common.{ℕ, ◌≡◌, ◌+◌, Some, length, Bor, List}
use Rattle.std.specs.Prelude.{slice_get}
use Rattle.rs_value.specs.declared.value.Value.TheVariants as value
use Rattle.rs_query.specs.Searching.{cell_of}
use Rattle.rs_query.proofs.block.Block.texts.Given as goal

abbrev pub invariant-loop-row : goal.invariant-loop-row
invariant-loop-row l = record {
  sized : length l.texts.items ≡ l.row;
  values : (place : ℕ) (text : Bor (List ℕ)) → slice_get l.texts.items place ≡ Some text → cell_of l.catalog l.self l.column (place + 1) ≡ value.Text text.now;
}
