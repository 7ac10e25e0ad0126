-- The indexes so far are lists of the rows of their table.
use Rattle.std.proofs.Common.{◌≡◌, ℕ, Some}
use Rattle.std.specs.List.{AllByRecursion}
use Rattle.rs_ta.specs.IndexLists.{table_of_index}
use Rattle.rs_ta.proofs.IndexListFacts.{Listing}
use Rattle.rs_ta.proofs.index_lists.rows_of.Given as goal

abbrev pub invariant-loop-index : goal.invariant-loop-index
invariant-loop-index l =
    (table : ℕ) → AllByRecursion (λ index. table_of_index l.catalog index ≡ Some table) l.indexes → Listing l.catalog table l.indexes l.index-index l.rows
