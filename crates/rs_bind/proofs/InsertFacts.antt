-- Rows whose binding is well may join their table.
use Rattle.std.proofs.Common.{◌≡◌, ℕ, ◌+◌, ◌≤◌, ◌==◌, true, List, [], ◌∷◌, length, sym, subst, ap, ◌∙◌, refl, arith, inl, inr}
use Rattle.std.specs.Prelude.{nat_abs, nat_le, ◌&&◌, Some, option_map, Result, Ok, Err, unwrap_or, if◌then◌else◌}
use Rattle.std.specs.List.{AllByRecursion}
use Rattle.std.proofs.lemmas.Bool.{le-leb, leb-true}
use Rattle.rs_value.specs.Answer.{Gives}
use Rattle.rs_value.specs.Number.{greatest_int}
use Rattle.rs_value.specs.Results.{◌>>=◌}
use Rattle.rs_value.specs.Value.{fits}
use Rattle.rs_value.specs.declared.kind.Kind.{Kind}
use Rattle.rs_value.specs.declared.kind.Kind.TheVariants as kind
use Rattle.rs_value.specs.declared.value.Value.{Value}
use Rattle.rs_value.specs.declared.value.Value.TheVariants as value
use Rattle.rs_syntax.specs.declared.name.Name.{Name}
use Rattle.rs_syntax.specs.declared.row.Cell.{Cell}
use Rattle.rs_syntax.specs.declared.row.Cell.TheVariants as cell
use Rattle.rs_syntax.specs.declared.row.RowSyn.{RowSyn}
use Rattle.rs_syntax.specs.Syntax.{Command, Insert}
use Rattle.rs_syntax.specs.Written.{IsWritten, IsWrittenCell, IsWrittenInsert, IsWrittenRow}
use Rattle.rs_table.specs.Column.{Column}
use Rattle.rs_table.specs.Relation.{Relation, most_rows, row_fits}
use Rattle.rs_catalog.specs.Catalog.{CatalogDef, NamedTable, number_named}
use Rattle.rs_catalog.specs.Growing.{CanJoin}
use Rattle.rs_catalog.specs.declared.room.What.TheVariants as what
use Rattle.rs_typing.specs.declared.fault.BindFault.{BindFault}
use Rattle.rs_typing.specs.declared.fault.BindFault.TheVariants.{At, Memory}
use Rattle.rs_typing.specs.declared.fault.Why.TheVariants.{LimitOf, NoTable, WrongCount}
use Rattle.rs_typing.specs.Missing.{or_fault}
use Rattle.rs_typing.proofs.StepFacts.{Ok-or_fault, Ok-steps, Ok-test}
use Rattle.rs_bind.specs.Inserts.{cell_value, cell_values, insert_of, row_values, rows_for_table, rows_values, table_in}
use Rattle.rs_bind.proofs.PlaceFacts.{slice_get-numbered}
use Rattle.rs_bind.proofs.TestFacts.{is-equal}

-- a cell, and cells as many as columns
cell_value-fits : (wanted : Kind) (c : Cell) (made : Value) → IsWrittenCell c → cell_value wanted c ≡ Ok made → fits wanted made ≡ true
cell_value-fits kind.Int (cell.Int n at) made within h =
    let same : value.Int n ≡ made = cc in
    subst (λ v. fits kind.Int v ≡ true) same (le-leb (nat_abs n) greatest_int within)
cell_value-fits kind.Int (cell.Text text at) made within h = cc
cell_value-fits kind.Text (cell.Int n at) made within h = cc
cell_value-fits kind.Text (cell.Text text at) made within h =
    let same : value.Text text ≡ made = cc in
    subst (λ v. fits kind.Text v ≡ true) same refl

cell_values-fit : (columns : List Column) (cells : List Cell) (made : List Value) → AllByRecursion IsWrittenCell cells → length cells ≡ length columns
    → cell_values columns cells ≡ Ok made → row_fits columns made ≡ true
cell_values-fit [] [] made written many h =
    let same : [] ≡ made = cc in
    subst (λ vs. row_fits [] vs ≡ true) same refl
cell_values-fit [] (c ∷ cells) made written many h = absurd (omega (arith, many))
cell_values-fit (column ∷ columns) [] made written many h = absurd (omega (arith, many))
cell_values-fit (column ∷ columns) (c ∷ cells) made written many h =
    let first = Ok-steps (cell_value column.1 c) (λ v. cell_values columns cells >>= λ vs. Ok (v ∷ vs)) made h in
    let rest = Ok-steps (cell_values columns cells) (λ vs. Ok (first.0 ∷ vs)) made first.2 in
    let same : first.0 ∷ rest.0 ≡ made = cc in
    subst (λ vs. row_fits (column ∷ columns) vs ≡ true) same
    (ap (λ b. b && row_fits columns rest.0) (cell_value-fits column.1 c first.0 written.0 first.1)
    ∙ cell_values-fit columns cells rest.0 written.1 (omega (arith, many)) rest.1)

-- a row: there is room for it, and it fits
abbrev counted : List Column → RowSyn → Result (List Value) BindFault
counted columns row = if length row.cells == length columns then cell_values columns row.cells else Err (At WrongCount row.at)

row_values-fit : (columns : List Column) (number : ℕ) (row : RowSyn) (made : List Value) → IsWrittenRow row → row_values columns number row ≡ Ok made
    → (number ≤ most_rows) × (row_fits columns made ≡ true)
row_values-fit columns number row made written h =
    let room = Ok-test (nat_le number most_rows) (counted columns row) (At LimitOf row.at) made h in
    let count = Ok-test (length row.cells == length columns) (cell_values columns row.cells) (At WrongCount row.at) made room.1 in (
      leb-true number most_rows room.0,
      cell_values-fit columns row.cells made written.cells (is-equal (length row.cells) (length columns) count.0) count.1,
    )

-- rows, of which the first would be the row of this number
abbrev AreFit : List Column → ℕ → List (List Value) → Type 0
AreFit columns number made = (number + length made ≤ most_rows + 1) × AllByRecursion (λ row. row_fits columns row ≡ true) made

rows_values-fit : (columns : List Column) (number : ℕ) (rows : List RowSyn) (made : List (List Value)) → AllByRecursion IsWrittenRow rows → number ≤ most_rows + 1
    → rows_values columns number rows ≡ Ok made → AreFit columns number made
rows_values-fit columns number [] made written few h =
    let same : [] ≡ made = cc in
    subst (AreFit columns number) same (omega (arith, few), tt)
rows_values-fit columns number (row ∷ rows) made written few h =
    let first = Ok-steps (row_values columns number row) (λ v. rows_values columns (number + 1) rows >>= λ vs. Ok (v ∷ vs)) made h in
    let rest = Ok-steps (rows_values columns (number + 1) rows) (λ vs. Ok (first.0 ∷ vs)) made first.2 in
    let one = row_values-fit columns number row first.0 written.0 first.1 in
    let more = rows_values-fit columns (number + 1) rows rest.0 written.1 (omega (arith, one.0)) rest.1 in
    let same : first.0 ∷ rest.0 ≡ made = cc in
    subst (AreFit columns number) same (omega (arith, more.0), (one.1, more.1))

some_rows-fit : (columns : List Column) (number : ℕ) (rows : List RowSyn) (made : List (List Value)) → IsWrittenInsert rows
    → rows_values columns number rows ≡ Ok made → AreFit columns number made
some_rows-fit columns number [] made written h = absurd (omega (arith, written.some))
some_rows-fit columns number (row ∷ rows) made written h =
    let first = Ok-steps (row_values columns number row) (λ v. rows_values columns (number + 1) rows >>= λ vs. Ok (v ∷ vs)) made h in
    let one = row_values-fit columns number row first.0 written.rows.0 first.1 in
    rows_values-fit columns number (row ∷ rows) made written.rows (omega (arith, one.0)) h

-- the rows of a statement, behind its table
module _ (catalogue : CatalogDef) (table : Name) (rows : List RowSyn) where
  abbrev of_table : ℕ → Result (ℕ × List (List Value)) BindFault
  of_table number = rows_for_table (table_in catalogue number) rows >>= λ made. Ok (number, made)

  CanJoin-of_rows : (number : ℕ) (made : List (List Value)) → IsWrittenInsert rows → number_named what.Table table.text catalogue ≡ Some number
      → rows_for_table (table_in catalogue number) rows ≡ Ok made → CanJoin catalogue number made
  CanJoin-of_rows number made written is_table h =
      let found = slice_get-numbered (λ t. t.name) catalogue.tables table.text number is_table in
      let is : table_in catalogue number ≡ found.0.table =
      ap (λ o. unwrap_or (option_map (λ (t : NamedTable). t.table) o) (record { schema = []; rows = [] })) found.1 in
      let fit = subst (λ (t : Relation). AreFit t.schema (length t.rows + 1) made) is
      (some_rows-fit (table_in catalogue number).schema (length (table_in catalogue number).rows + 1) rows made written h) in
      record { named = found.0; has_table = found.1; fit = fit.1; few = omega (arith, fit.0) }

  CanJoin-insert_of : (made : ℕ × List (List Value)) → IsWrittenInsert rows → insert_of catalogue (Insert table rows) ≡ Ok made → CanJoin catalogue made.0 made.1
  CanJoin-insert_of made written h =
      let first = Ok-steps (or_fault (At NoTable table.at) (number_named what.Table table.text catalogue)) of_table made h in
      let second = Ok-steps (rows_for_table (table_in catalogue first.0) rows) (λ m. Ok (first.0, m)) made first.2 in
      let same : (first.0, second.0) ≡ made = cc in
      subst (λ (m : ℕ × List (List Value)). CanJoin catalogue m.0 m.1) same
      (CanJoin-of_rows first.0 second.0 written (Ok-or_fault (At NoTable table.at) (number_named what.Table table.text catalogue) first.0 first.1) second.1)

CanJoin-of_command : (catalogue : CatalogDef) (command : Command) (made : ℕ × List (List Value)) → IsWritten command → insert_of catalogue command ≡ Ok made
    → CanJoin catalogue made.0 made.1
CanJoin-of_command catalogue (Insert table rows) made written h = CanJoin-insert_of catalogue table rows made written h
CanJoin-of_command catalogue command made written h = cc

-- what is given may join
pub CanJoin-given : (catalogue : CatalogDef) (command : Command) (made : ℕ × List (List Value)) → IsWritten command → Gives Memory (insert_of catalogue command) (Ok made)
    → CanJoin catalogue made.0 made.1
CanJoin-given catalogue command made written (inl h) = CanJoin-of_command catalogue command made written (sym h)
CanJoin-given catalogue command made written (inr h) = cc
