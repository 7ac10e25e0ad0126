-- An INSERT is typed, and refused, by its rules.
use Rattle.std.proofs.Common.{ℕ, ◌≡◌, ◌+◌, ◌<◌, ◌≤◌, ◌==◌, true, false, List, [], ◌∷◌, length, refl, sym, subst, ap, ◌∙◌, arith, inl, inr}
use Rattle.std.specs.Prelude.{◌↔◌, nat_le, Some, Result, Ok, Err, if◌then◌else◌}
use Rattle.std.specs.List.{zip}
use Rattle.std.proofs.lemmas.Bool.Decides.{nat_tests}
use Rattle.rs_value.specs.Results.{◌>>=◌}
use Rattle.rs_value.specs.declared.kind.Kind.TheVariants as kind
use Rattle.rs_value.specs.declared.value.Value.{Value}
use Rattle.rs_value.specs.declared.value.Value.TheVariants as value
use Rattle.rs_syntax.specs.declared.name.Name.{Name}
use Rattle.rs_syntax.specs.declared.row.Cell.{Cell}
use Rattle.rs_syntax.specs.declared.row.Cell.TheVariants as cell
use Rattle.rs_syntax.specs.declared.row.RowSyn.{RowSyn}
use Rattle.rs_syntax.specs.Syntax.{Insert}
use Rattle.rs_table.specs.Column.{Column}
use Rattle.rs_table.specs.Relation.{Relation, most_rows}
use Rattle.rs_catalog.specs.Catalog.{CatalogDef, number_named}
use Rattle.rs_catalog.specs.declared.room.What.TheVariants as what
use Rattle.rs_typing.specs.declared.fault.BindFault.{BindFault}
use Rattle.rs_typing.specs.declared.fault.BindFault.TheVariants.{At}
use Rattle.rs_typing.specs.declared.fault.Why.TheVariants.{LimitOf, NoTable, WrongCount, WrongKind}
use Rattle.rs_typing.specs.Missing.{or_fault}
use Rattle.rs_typing.proofs.ResultFacts.{same_Ok, well}
use Rattle.rs_typing.proofs.StepFacts.{Err-steps, Ok-or_fault, Ok-steps, Ok-test}
use Rattle.rs_bind.specs.InOrder.{Each, FirstRefused}
use Rattle.rs_bind.specs.Inserts.{cell_value, cell_values, insert_of, row_values, rows_for_table, rows_values, table_in}
use Rattle.rs_bind.specs.InsertRules.{TypesCell, RefusedCell, TypesRow, RefusedRow, TypesInsert, RefusedInsert}
use Rattle.rs_bind.specs.InsertRules.{from_number, from_text, no_number, no_text, too_many, wrong_count, in_cell, no_table, in_row}
use Rattle.rs_bind.proofs.InOrderFacts.{Each-steps, FirstRefused-steps, Follows, steps, steps-Each, steps-FirstRefused}
use Rattle.rs_bind.proofs.TestFacts.{Err-or_fault, Err-test, apart-test, equal-test, is-apart, is-equal}

-- a limit and its test
is-within : (a b : ℕ) → nat_le a b ≡ true → a ≤ b
is-within a b h = grind (arith, nat_tests)

is-beyond : (a b : ℕ) → nat_le a b ≡ false → b < a
is-beyond a b h = grind (arith, nat_tests)

within-test : (a b : ℕ) → a ≤ b → nat_le a b ≡ true
within-test a b h = grind (arith, nat_tests)

beyond-test : (a b : ℕ) → b < a → nat_le a b ≡ false
beyond-test a b h = grind (arith, nat_tests)

-- cells
abbrev cell_step : List Value → Column × Cell → Result Value BindFault
cell_step before pair = cell_value pair.0.1 pair.1

cell-typed : (before : List Value) (pair : Column × Cell) (v : Value) → cell_step before pair ≡ Ok v → TypesCell before pair v
cell-typed before ((name, kind.Int), cell.Int n at) v h = let same : value.Int n ≡ v = cc in subst (TypesCell before ((name, kind.Int), cell.Int n at)) same (from_number name n at)
cell-typed before ((name, kind.Int), cell.Text t at) v h = cc
cell-typed before ((name, kind.Text), cell.Int n at) v h = cc
cell-typed before ((name, kind.Text), cell.Text t at) v h = let same : value.Text t ≡ v = cc in subst (TypesCell before ((name, kind.Text), cell.Text t at)) same (from_text name t at)

cell-is : (before : List Value) (pair : Column × Cell) (v : Value) → TypesCell before pair v → cell_step before pair ≡ Ok v
cell-is before pair v (from_number name n at) = refl
cell-is before pair v (from_text name t at) = refl

cell-refused : (before : List Value) (pair : Column × Cell) (fault : BindFault) → cell_step before pair ≡ Err fault → RefusedCell before pair fault
cell-refused before ((name, kind.Int), cell.Int n at) fault h = cc
cell-refused before ((name, kind.Int), cell.Text t at) fault h =
    let same : At WrongKind at ≡ fault = cc in subst (RefusedCell before ((name, kind.Int), cell.Text t at)) same (no_number name t at)
cell-refused before ((name, kind.Text), cell.Int n at) fault h =
    let same : At WrongKind at ≡ fault = cc in subst (RefusedCell before ((name, kind.Text), cell.Int n at)) same (no_text name n at)
cell-refused before ((name, kind.Text), cell.Text t at) fault h = cc

cell-is_refused : (before : List Value) (pair : Column × Cell) (fault : BindFault) → RefusedCell before pair fault → cell_step before pair ≡ Err fault
cell-is_refused before pair fault (no_number name t at) = refl
cell-is_refused before pair fault (no_text name n at) = refl

cell-follows : Follows TypesCell RefusedCell cell_step
cell-follows = record { typed = cell-typed; is_typed = cell-is; refused = cell-refused; is_refused = cell-is_refused }

cells-steps : (before : List Value) (columns : List Column) (cells : List Cell) → cell_values columns cells ≡ steps cell_step before (zip columns cells)
cells-steps before [] cells = refl
cells-steps before (column ∷ columns) [] = refl
cells-steps before (column ∷ columns) (c ∷ cells) = go (λ b. cells-steps (b ∷ before) columns cells) (cell_value column.1 c) where
  go : ((b : Value) → cell_values columns cells ≡ steps cell_step (b ∷ before) (zip columns cells)) → (r : Result Value BindFault)
      → (r >>= λ first. cell_values columns cells >>= λ rest. Ok (first ∷ rest))
      ≡ (r >>= λ first. steps cell_step (first ∷ before) (zip columns cells) >>= λ more. Ok (first ∷ more))
  go again (Err fault) = refl
  go again (Ok first) = ap (λ s. s >>= λ more. Ok (first ∷ more)) (again first)

cells-typed : (columns : List Column) (cells : List Cell) (made : List Value) → cell_values columns cells ≡ Ok made → Each TypesCell [] (zip columns cells) made
cells-typed columns cells made h = Each-steps TypesCell RefusedCell cell_step cell-follows [] (zip columns cells) made (sym (cells-steps [] columns cells) ∙ h)

cells-are : (columns : List Column) (cells : List Cell) (made : List Value) → Each TypesCell [] (zip columns cells) made → cell_values columns cells ≡ Ok made
cells-are columns cells made each = cells-steps [] columns cells ∙ steps-Each TypesCell RefusedCell cell_step cell-follows each

cells-refused : (columns : List Column) (cells : List Cell) (fault : BindFault) → cell_values columns cells ≡ Err fault
    → FirstRefused TypesCell RefusedCell [] (zip columns cells) fault
cells-refused columns cells fault h =
    FirstRefused-steps TypesCell RefusedCell cell_step cell-follows [] (zip columns cells) fault (sym (cells-steps [] columns cells) ∙ h)

cells-are_refused : (columns : List Column) (cells : List Cell) (fault : BindFault) → FirstRefused TypesCell RefusedCell [] (zip columns cells) fault
    → cell_values columns cells ≡ Err fault
cells-are_refused columns cells fault first = cells-steps [] columns cells ∙ steps-FirstRefused TypesCell RefusedCell cell_step cell-follows first

-- rows
module _ (table : Relation) where
  abbrev number_behind : List (List Value) → ℕ
  number_behind before = length table.rows + length before + 1

  abbrev row_step : List (List Value) → RowSyn → Result (List Value) BindFault
  row_step before row = row_values table.schema (number_behind before) row

  abbrev counted : RowSyn → Result (List Value) BindFault
  counted row = if length row.cells == length table.schema then cell_values table.schema row.cells else Err (At WrongCount row.at)

  row-typed : (before : List (List Value)) (row : RowSyn) (made : List Value) → row_step before row ≡ Ok made → TypesRow table before row made
  row-typed before row made h =
      let room = Ok-test (nat_le (number_behind before) most_rows) (counted row) (At LimitOf row.at) made h in
      let count = Ok-test (length row.cells == length table.schema) (cell_values table.schema row.cells) (At WrongCount row.at) made room.1 in
      record {
        room = omega (arith, is-within (number_behind before) most_rows room.0);
        count = is-equal (length row.cells) (length table.schema) count.0;
        cells = cells-typed table.schema row.cells made count.1;
      }

  -- the steps of a row that there is room for, and of one whose number of cells is right too
  past-room : (before : List (List Value)) (row : RowSyn) → length table.rows + length before < most_rows → row_step before row ≡ counted row
  past-room before row room =
      ap (λ b. if b then counted row else Err (At LimitOf row.at)) (within-test (number_behind before) most_rows (omega (arith, room)))

  past-count : (before : List (List Value)) (row : RowSyn) → length table.rows + length before < most_rows → length row.cells ≡ length table.schema
      → row_step before row ≡ cell_values table.schema row.cells
  past-count before row room count =
      past-room before row room
      ∙ ap (λ b. if b then cell_values table.schema row.cells else Err (At WrongCount row.at)) (equal-test (length row.cells) (length table.schema) count)

  row-is : (before : List (List Value)) (row : RowSyn) (made : List Value) → TypesRow table before row made → row_step before row ≡ Ok made
  row-is before row made t = past-count before row t.room t.count ∙ cells-are table.schema row.cells made t.cells

  row-refused : (before : List (List Value)) (row : RowSyn) (fault : BindFault) → row_step before row ≡ Err fault → RefusedRow table before row fault
  row-refused before row fault h =
      elim (Err-test (nat_le (number_behind before) most_rows) (counted row) (At LimitOf row.at) fault h) [
        | inl full ↦ subst (RefusedRow table before row) full.1 (too_many (omega (arith, is-beyond (number_behind before) most_rows full.0)))
        | inr roomy ↦ behind_room (omega (arith, is-within (number_behind before) most_rows roomy.0)) roomy.1
      ] where
        behind_room : length table.rows + length before < most_rows → counted row ≡ Err fault → RefusedRow table before row fault
        behind_room room k =
            elim (Err-test (length row.cells == length table.schema) (cell_values table.schema row.cells) (At WrongCount row.at) fault k) [
              | inl fails ↦ subst (RefusedRow table before row) fails.1 (wrong_count room (is-apart (length row.cells) (length table.schema) fails.0))
              | inr counts ↦ in_cell fault room (is-equal (length row.cells) (length table.schema) counts.0) (cells-refused table.schema row.cells fault counts.1)
            ]

  row-is_refused : (before : List (List Value)) (row : RowSyn) (fault : BindFault) → RefusedRow table before row fault → row_step before row ≡ Err fault
  row-is_refused before row fault (too_many full) =
      ap (λ b. if b then counted row else Err (At LimitOf row.at)) (beyond-test (number_behind before) most_rows (omega (arith, full)))
  row-is_refused before row fault (wrong_count room apart) =
      past-room before row room
      ∙ ap (λ b. if b then cell_values table.schema row.cells else Err (At WrongCount row.at)) (apart-test (length row.cells) (length table.schema) apart)
  row-is_refused before row fault (in_cell f room count first) = past-count before row room count ∙ cells-are_refused table.schema row.cells f first

  row-follows : Follows (TypesRow table) (RefusedRow table) row_step
  row-follows = record { typed = row-typed; is_typed = row-is; refused = row-refused; is_refused = row-is_refused }

  rows-steps : (before : List (List Value)) (rows : List RowSyn) (first : ℕ) → first ≡ number_behind before → rows_values table.schema first rows ≡ steps row_step before rows
  rows-steps before [] first is = refl
  rows-steps before (row ∷ rows) first is =
      rw is (go (λ b. rows-steps (b ∷ before) rows (number_behind before + 1) (omega arith)) (row_values table.schema (number_behind before) row)) where
        go : ((b : List Value) → rows_values table.schema (number_behind before + 1) rows ≡ steps row_step (b ∷ before) rows) → (r : Result (List Value) BindFault)
            → (r >>= λ b. rows_values table.schema (number_behind before + 1) rows >>= λ rest. Ok (b ∷ rest))
            ≡ (r >>= λ b. steps row_step (b ∷ before) rows >>= λ more. Ok (b ∷ more))
        go again (Err fault) = refl
        go again (Ok b) = ap (λ s. s >>= λ more. Ok (b ∷ more)) (again b)

  all-steps : (rows : List RowSyn) → rows_for_table table rows ≡ steps row_step [] rows
  all-steps rows = rows-steps [] rows (length table.rows + 1) (omega arith)

  rows-typed : (rows : List RowSyn) (made : List (List Value)) → rows_for_table table rows ≡ Ok made → Each (TypesRow table) [] rows made
  rows-typed rows made h = Each-steps (TypesRow table) (RefusedRow table) row_step row-follows [] rows made (sym (all-steps rows) ∙ h)

  rows-are : (rows : List RowSyn) (made : List (List Value)) → Each (TypesRow table) [] rows made → rows_for_table table rows ≡ Ok made
  rows-are rows made each = all-steps rows ∙ steps-Each (TypesRow table) (RefusedRow table) row_step row-follows each

  rows-refused : (rows : List RowSyn) (fault : BindFault) → rows_for_table table rows ≡ Err fault → FirstRefused (TypesRow table) (RefusedRow table) [] rows fault
  rows-refused rows fault h = FirstRefused-steps (TypesRow table) (RefusedRow table) row_step row-follows [] rows fault (sym (all-steps rows) ∙ h)

  rows-are_refused : (rows : List RowSyn) (fault : BindFault) → FirstRefused (TypesRow table) (RefusedRow table) [] rows fault → rows_for_table table rows ≡ Err fault
  rows-are_refused rows fault first = all-steps rows ∙ steps-FirstRefused (TypesRow table) (RefusedRow table) row_step row-follows first

-- an INSERT
module _ (catalogue : CatalogDef) (table : Name) (rows : List RowSyn) where
  abbrev own_rows : ℕ → Result (List (List Value)) BindFault
  own_rows n = rows_for_table (table_in catalogue n) rows

  abbrev behind_table : ℕ → Result (ℕ × List (List Value)) BindFault
  behind_table n = own_rows n >>= λ made. well (n, made)

  abbrev command_insert : Result (ℕ × List (List Value)) BindFault
  command_insert = insert_of catalogue (Insert table rows)

  insert-typed : (made : ℕ × List (List Value)) → command_insert ≡ Ok made → TypesInsert catalogue table rows made
  insert-typed made h =
      let first = Ok-steps (or_fault (At NoTable table.at) (number_named what.Table table.text catalogue)) behind_table made h in
      let second = Ok-steps (own_rows first.0) (λ m. well (first.0, m)) made first.2 in
      subst (TypesInsert catalogue table rows) (same_Ok (first.0, second.0) made second.2) (record {
        is_table = Ok-or_fault (At NoTable table.at) (number_named what.Table table.text catalogue) first.0 first.1;
        are_rows = rows-typed (table_in catalogue first.0) rows second.0 second.1;
      })

  past-table : (n : ℕ) → number_named what.Table table.text catalogue ≡ Some n → command_insert ≡ behind_table n
  past-table n is = ap (λ o. or_fault (At NoTable table.at) o >>= behind_table) is

  insert-is : (made : ℕ × List (List Value)) → TypesInsert catalogue table rows made → command_insert ≡ Ok made
  insert-is made t = past-table made.0 t.is_table ∙ ap (λ r. r >>= λ m. well (made.0, m)) (rows-are (table_in catalogue made.0) rows made.1 t.are_rows)

  insert-refused : (fault : BindFault) → command_insert ≡ Err fault → RefusedInsert catalogue table rows fault
  insert-refused fault h = elim (Err-steps (or_fault (At NoTable table.at) (number_named what.Table table.text catalogue)) behind_table fault h) [
    | inl refuses ↦ (let missing = Err-or_fault (At NoTable table.at) fault (number_named what.Table table.text catalogue) refuses in
        subst (RefusedInsert catalogue table rows) missing.1 (no_table missing.0))
    | inr first ↦ elim (Err-steps (own_rows first.0) (λ m. well (first.0, m)) fault first.2) [
      | inl refuses ↦ in_row first.0 fault (Ok-or_fault (At NoTable table.at) (number_named what.Table table.text catalogue) first.0 first.1)
          (rows-refused (table_in catalogue first.0) rows fault refuses)
      | inr second ↦ cc
    ]
  ]

  insert-is_refused : (fault : BindFault) → RefusedInsert catalogue table rows fault → command_insert ≡ Err fault
  insert-is_refused fault (no_table missing) = ap (λ o. or_fault (At NoTable table.at) o >>= behind_table) missing
  insert-is_refused fault (in_row n f is refused) =
      past-table n is ∙ ap (λ r. r >>= λ m. well (n, m)) (rows-are_refused (table_in catalogue n) rows f refused)

  pub inserts_by_rules : (made : ℕ × List (List Value)) → (command_insert ≡ Ok made) ↔ TypesInsert catalogue table rows made
  inserts_by_rules made = (λ h. insert-typed made h, λ h. insert-is made h)

  pub inserts_refused_by_rules : (fault : BindFault) → (command_insert ≡ Err fault) ↔ RefusedInsert catalogue table rows fault
  inserts_refused_by_rules fault = (λ h. insert-refused fault h, λ h. insert-is_refused fault h)
