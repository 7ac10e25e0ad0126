-- Cells of the rows of a block: which table, row and column they are of, and of which kind.
use Rattle.std.proofs.Common.{ℕ, zero, suc, ◌≡◌, ◌∙◌, ◌+◌, ◌-◌, ◌<◌, ◌≤◌, ◌++◌, true, List, [], ◌∷◌, Some, None, length, map, take, get_or, refl, sym, ap, arith}
use Rattle.std.specs.Prelude.{Option, pos, slice_get, unwrap_or, option_map, option_and_then}
use Rattle.std.proofs.lemmas.Bool.{false≢true}
use Rattle.std.proofs.lemmas.List.{length-map}
use Rattle.std.proofs.lemmas.Option.{slice_get_within, unwrap_or-slice_get}
use Rattle.rs_value.specs.Value.{fits}
use Rattle.rs_value.specs.declared.kind.Kind.{Kind}
use Rattle.rs_value.specs.declared.kind.Kind.TheVariants as kind
use Rattle.rs_value.specs.declared.value.Value.{Value}
use Rattle.rs_value.specs.declared.value.Value.TheVariants as value
use Rattle.rs_table.specs.Column.{Column}
use Rattle.rs_table.specs.Relation.{Relation, cell_at}
use Rattle.rs_expr.proofs.UsesFacts.{condition_uses_more}
use Rattle.rs_expr.specs.Formulas.{Condition}
use Rattle.rs_expr.specs.Uses.{condition_uses, has_argument, is_kind}
use Rattle.rs_catalog.specs.Catalog.{CatalogDef, NamedTable}
use Rattle.rs_query.proofs.ListFacts.{take-slice_get}
use Rattle.rs_query.specs.declared.block.Block.{Block}
use Rattle.rs_query.specs.Meaning.{column_value}
use Rattle.rs_query.specs.Tables.{HasRow, row_number, size_of, entry_table}
use Rattle.rs_query.specs.WellFormed.{has_kind, column_kind}

-- what a function made of an option
mapped : {A B : Type 0} (f : A → B) (o : Option A) (b : B) → option_map f o ≡ Some b → (a : A) × (o ≡ Some a) × (f a ≡ b)
mapped f (Some a) b e = (a, refl, cc)
mapped f None b e = cc

module _ (catalogue : CatalogDef) (block : Block) where
  -- the table of an entry
  pub entry_table-entry : (entry : ℕ) (from : ℕ × List ℕ) (table : Relation) → slice_get block.from (entry - 1) ≡ Some from
      → option_map (λ (t : NamedTable). t.table) (slice_get catalogue.tables from.0) ≡ Some table → entry_table catalogue block entry ≡ Some table
  entry_table-entry entry from table at is =
      ap (option_and_then (λ (f : ℕ × List ℕ). option_map (λ (t : NamedTable). t.table) (slice_get catalogue.tables f.0))) at ∙ is

  -- what is known of a column, where the table of its entry is known
  pub record IsOf (column : ℕ × ℕ) (table : Relation) : Type 0 where
    pub size : size_of catalogue block column.0 ≡ length table.rows
    pub cell : (rows : List ℕ) → column_value catalogue block rows column ≡ unwrap_or (cell_at table (row_number rows column.0) column.1) (value.Int (pos 0))
    pub typed : (kind : Kind) → column_kind catalogue block column ≡ Some kind → (c : Column) × (slice_get table.schema column.1 ≡ Some c) × (c.1 ≡ kind)

  pub IsOf-table : (column : ℕ × ℕ) (table : Relation) → entry_table catalogue block column.0 ≡ Some table → IsOf column table
  IsOf-table column table e = record {
    size = ap (λ (o : Option Relation). unwrap_or (option_map (λ (t : Relation). length t.rows) o) 0) e;
    cell = λ rows. ap (λ (o : Option Relation). unwrap_or (option_and_then (λ (t : Relation). cell_at t (row_number rows column.0) column.1) o) (value.Int (pos 0))) e;
    typed = λ kind is. mapped (λ (c : Column). c.1) (slice_get table.schema column.1) kind
        (sym (ap (λ (o : Option Relation). option_map (λ (c : Column). c.1) (option_and_then (λ (t : Relation). slice_get t.schema column.1) o)) e) ∙ is);
  }

  -- such a column is one of the table
  pub column-within : (column : ℕ × ℕ) (table : Relation) (kind : Kind) → IsOf column table → column_kind catalogue block column ≡ Some kind → column.1 < length table.schema
  column-within column table kind is e =
      let there = is.typed kind e in
      slice_get_within table.schema column.1 there.0 there.1

  -- the row of the entry is one of the table
  pub row-within : (rows : List ℕ) (column : ℕ × ℕ) (table : Relation) → IsOf column table → HasRow catalogue block rows column.0
      → (1 ≤ get_or rows (column.0 - 1) 0) × (get_or rows (column.0 - 1) 0 ≤ length table.rows)
  row-within rows column table is has =
      let same : row_number rows column.0 ≡ get_or rows (column.0 - 1) 0 = unwrap_or-slice_get rows (column.0 - 1) 0 in
      let size = is.size in
      (omega arith, omega arith)

  -- the value that the table has there is the cell
  pub column_value-value : (rows : List ℕ) (column : ℕ × ℕ) (table : Relation) (v : Value) → IsOf column table
      → cell_at table (get_or rows (column.0 - 1) 0) column.1 ≡ Some v → v ≡ column_value catalogue block rows column
  column_value-value rows column table v is e =
      let same : row_number rows column.0 ≡ get_or rows (column.0 - 1) 0 = unwrap_or-slice_get rows (column.0 - 1) 0 in
      sym (is.cell rows ∙ ap (λ n. unwrap_or (cell_at table n column.1) (value.Int (pos 0))) same ∙ ap (λ (o : Option Value). unwrap_or o (value.Int (pos 0))) e)

  -- values have the kinds of columns
  abbrev pub HaveKinds : List (ℕ × ℕ) → List Value → Type 0
  HaveKinds columns values = (kind : Kind) (i : ℕ) → has_kind catalogue block columns kind i ≡ true → has_argument values kind i ≡ true

  pub kind_there : (kind : Kind) (o : Option Kind) → is_kind kind o ≡ true → o ≡ Some kind
  kind_there kind.Int (Some kind.Int) is = refl
  kind_there kind.Int (Some kind.Text) is = absurd (false≢true is)
  kind_there kind.Int None is = absurd (false≢true is)
  kind_there kind.Text (Some kind.Int) is = absurd (false≢true is)
  kind_there kind.Text (Some kind.Text) is = refl
  kind_there kind.Text None is = absurd (false≢true is)

  -- the kind of the column at a place
  pub kind-at : (columns : List (ℕ × ℕ)) (kind : Kind) (i : ℕ) (column : ℕ × ℕ) → slice_get columns i ≡ Some column → has_kind catalogue block columns kind i ≡ true
      → column_kind catalogue block column ≡ Some kind
  kind-at columns kind i column there is = kind_there kind (column_kind catalogue block column) (rw there at is)

  no_kind : (kind : Kind) → is_kind kind None ≡ true → ⊥
  no_kind kind.Int is = false≢true is
  no_kind kind.Text is = false≢true is

  -- where there is a column of a kind there is one
  pub has_kind-within : (columns : List (ℕ × ℕ)) (kind : Kind) (i : ℕ) → has_kind catalogue block columns kind i ≡ true → i < length columns
  has_kind-within [] kind i is = absurd (no_kind kind is)
  has_kind-within (column ∷ columns) kind zero is = omega arith
  has_kind-within (column ∷ columns) kind (suc i) is = let behind = has_kind-within columns kind i is in omega arith

  -- one more value of the kind of its column
  HaveKinds-push : (columns : List (ℕ × ℕ)) (values : List Value) (column : ℕ × ℕ) (value : Value) → length columns ≡ length values
      → HaveKinds columns values → ((kind : Kind) → column_kind catalogue block column ≡ Some kind → fits kind value ≡ true)
      → HaveKinds (columns ++ column ∷ []) (values ++ value ∷ [])
  HaveKinds-push [] [] column value same have here kind zero is = here kind (kind_there kind (column_kind catalogue block column) is)
  HaveKinds-push [] [] column value same have here kind (suc i) is = absurd (no_kind kind is)
  HaveKinds-push [] (v ∷ values) column value same have here kind i is = absurd (omega arith)
  HaveKinds-push (c ∷ columns) [] column value same have here kind i is = absurd (omega arith)
  HaveKinds-push (c ∷ columns) (v ∷ values) column value same have here kind zero is = have kind zero is
  HaveKinds-push (c ∷ columns) (v ∷ values) column value same have here kind (suc i) is =
      HaveKinds-push columns values column value (omega arith) (λ k j. have k (suc j)) here kind i is

  -- the same of the first columns of a list
  pub HaveKinds-more : (rows : List ℕ) (columns : List (ℕ × ℕ)) (values made : List Value) (i : ℕ) (column : ℕ × ℕ) (v : Value) → slice_get columns i ≡ Some column
      → values ≡ map (column_value catalogue block rows) (take i columns) → made ≡ values ++ v ∷ [] → HaveKinds (take i columns) values
      → ((kind : Kind) → column_kind catalogue block column ≡ Some kind → fits kind v ≡ true) → HaveKinds (take (i + 1) columns) made
  HaveKinds-more rows columns values made i column v at so_far is have here =
      let count : length values ≡ length (take i columns) = ap length so_far ∙ length-map (take i columns) (column_value catalogue block rows) in
      rw (take-slice_get columns i column at, is) (HaveKinds-push (take i columns) values column v (sym count) have here)

  -- a condition on columns may be put to values of their kinds
  pub condition_uses-values : (columns : List (ℕ × ℕ)) (values : List Value) (condition : Condition) → HaveKinds columns values
      → condition_uses (has_kind catalogue block columns) condition ≡ true → condition_uses (has_argument values) condition ≡ true
  condition_uses-values columns values condition have uses = condition_uses_more (has_kind catalogue block columns) (has_argument values) have condition uses
