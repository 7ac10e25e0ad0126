-- The word `top`: the first rows of a table by the number in a column.
use Rattle.std.specs.Prelude.{ℕ, ℤ, pos, List, map, take, Option, unwrap_or, option_map, slice_get, Result, Ok}
use Rattle.rs_value.specs.declared.value.Value.{Value}
use Rattle.rs_value.specs.declared.value.Value.TheVariants.{Int, Text}
use Rattle.rs_table.specs.declared.fault.TableFault.{TableFault}
use Rattle.rs_table.specs.Column.{place_of}
use Rattle.rs_table.specs.Relation.{Relation}
use Rattle.rs_value.specs.Results.{◌>>=◌}
use Rattle.rs_table.specs.Reading.{header_of, table_of}
use Rattle.rs_rank.specs.Stable.{stable}
use Rattle.rs_rank.specs.declared.answer.Answer.{Answer}
use Rattle.rs_rank.specs.declared.scored_row.ScoredRow.{ScoredRow}
use Rattle.rs_catalog.specs.Indexes.{row_at, scored_from}
use Rattle.rs_catalog.specs.declared.index.IndexFault.{IndexFault}
use Rattle.rs_statement.specs.declared.fault.Fault.{Fault}
use Rattle.rs_statement.specs.Faults.{only, or_index_fault}
use Rattle.rs_run.specs.Words.{TopWords}
use Rattle.rs_statement.specs.Content.{content_of, or_table_fault, table_limit}
use Rattle.rs_statement.specs.Lines.{rank_lines}

-- the number of a value. A text has 0 here, but the column that `top` ranks by is of numbers (`number_column` of `Schema::of_header`)
abbrev pub number_in : Value → ℤ
number_in (Int n) = n
number_in (Text t) = pos 0

-- the number that a row has at a place
abbrev pub number_at : ℕ → List Value → ℤ
number_at place values = unwrap_or (option_map number_in (slice_get values place)) (pos 0)

-- the rows of a table, each with the number in a column, which is there, as its score, or the first row whose number is no score
abbrev pub scored_rows : List ℕ → ℕ → Relation → Result (List ScoredRow) IndexFault
scored_rows column max table = scored_from (number_at (unwrap_or (place_of column table.schema) 0)) max 1 table.rows

-- a row of a table with its score, as an answer of a query over that table alone
abbrev pub row_answer : Relation → ScoredRow → Answer
row_answer table scored = record {
  ids = record { block = 1; mask = 1; rows = only scored.row };
  score = scored.score;
  values = row_at table.rows scored.row;
}

-- the first rows by score, greatest first, a tie to the earlier row
abbrev pub best_rows : List ℕ → ℕ → ℕ → Relation → Result (List Answer) Fault
best_rows column max count table = do
  scored ← or_index_fault column (scored_rows column max table)
  Ok (map (row_answer table) (take count (stable (λ row. row.score) scored)))

-- the lines of a table's first rows, or the first row whose number is no score
abbrev pub ranked_lines : TopWords → Relation → Result (List (List ℕ)) Fault
ranked_lines top table = do
  rows ← best_rows top.column top.max top.count table
  Ok (rank_lines 1 rows)

-- the table of a file's bytes, by its own header, in which this column is of numbers
abbrev pub named_table : List ℕ → List ℕ → Result Relation TableFault
named_table column bytes = do
  columns ← header_of column bytes
  table_of columns bytes

-- the table that `top` reads of a file, or why there is none
abbrev pub top_table : List ℕ → List ℕ → Option (List ℕ) → Result Relation Fault
top_table file column there = do
  bytes ← content_of table_limit file there
  or_table_fault file (named_table column bytes)

-- the lines that `top` prints of a file, or the fault that comes before any
abbrev pub top_lines : TopWords → Option (List ℕ) → Result (List (List ℕ)) Fault
top_lines top there = top_table top.file top.column there >>= ranked_lines top
