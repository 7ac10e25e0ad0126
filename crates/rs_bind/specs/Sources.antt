-- FROM: the tables of a block, the columns that a reference stands for, and the output columns.
use Rattle.std.specs.Prelude.{ℕ, suc, ◌*◌, nat_le, ◌==◌, List, [], ◌∷◌, ◌++◌, length, map, Option, Some, None, Result, Ok, Err, if◌then◌else◌}
use Rattle.std.specs.List.{list_any}
use Rattle.std.specs.Str.{bytes_eq}
use Rattle.rs_value.specs.declared.kind.Kind.{Kind}
use Rattle.rs_lex.specs.declared.token.Span.{Span}
use Rattle.rs_syntax.specs.declared.name.ColRef.{ColRef}
use Rattle.rs_syntax.specs.declared.name.Name.{Name}
use Rattle.rs_syntax.specs.declared.select.Items.{Items}
use Rattle.rs_syntax.specs.declared.select.Items.TheVariants as items
use Rattle.rs_table.specs.Column.{Column}
use Rattle.rs_value.specs.Results.{◌>>=◌}
use Rattle.rs_catalog.specs.Catalog.{CatalogDef, number_named}
use Rattle.rs_catalog.specs.declared.room.What.TheVariants as what
use Rattle.rs_typing.specs.declared.fault.BindFault.{BindFault}
use Rattle.rs_typing.specs.declared.fault.BindFault.TheVariants.{At}
use Rattle.rs_typing.specs.declared.fault.Why.TheVariants.{Ambiguous, LimitOf, NameTwice, NoColumn, NoTable}
use Rattle.rs_typing.specs.Missing.{or_fault}
use Rattle.rs_typing.specs.Parameters.{placed}
use Rattle.rs_typing.specs.Typing.{span_of_column}
use Rattle.rs_bind.specs.Indexes.{columns_in, is_of_entry}
use Rattle.rs_bind.specs.Names.{most_columns}

-- the name by which an entry is known: its alias, or that of its table where none is written
abbrev pub alias_of : Name × Option Name → Name
alias_of entry = of entry.1 where
  of : Option Name → Name
  of None = entry.0
  of (Some alias) = alias

-- the most FROM entries of a block
abbrev pub most_entries : ℕ
most_entries = 6

-- entries behind those of these aliases: at each, from left to right, there may be no more than six, its table has to be there, and its alias may not
-- stand before
abbrev pub entries_behind : CatalogDef → List (List ℕ) → List (Name × Option Name) → Result (List (ℕ × List ℕ)) BindFault
entries_behind catalogue before [] = Ok []
entries_behind catalogue before (entry ∷ rest) =
    if length before == most_entries then Err (At LimitOf entry.0.at)
    else (do
      table ← or_fault (At NoTable entry.0.at) (number_named what.Table entry.0.text catalogue)
      more ← (if list_any (λ alias. bytes_eq alias (alias_of entry).text) before then Err (At NameTwice (alias_of entry).at)
          else entries_behind catalogue ((alias_of entry).text ∷ before) rest)
      Ok ((table, (alias_of entry).text) ∷ more))

-- the tables of FROM by their numbers, with their aliases
abbrev pub entries_of : CatalogDef → List (Name × Option Name) → Result (List (ℕ × List ℕ)) BindFault
entries_of catalogue from = entries_behind catalogue [] from

-- an entry as the columns of expressions see it: its alias, and the columns of its table
abbrev pub Source : Type 0
Source = List ℕ × List Column

abbrev pub sources_of : CatalogDef → List (ℕ × List ℕ) → List Source
sources_of catalogue from = map (λ (entry : ℕ × List ℕ). (entry.1, columns_in catalogue entry.0)) from

-- a column of a block, the FROM entry counted from 1 and the table's column from 0, with its kind
abbrev pub Found : Type 0
Found = (ℕ × ℕ) × Kind

-- the columns that a reference can stand for, from the entry of this number on
abbrev pub matches_from : ℕ → ColRef → List Source → List Found
matches_from entry c [] = []
matches_from entry c (source ∷ rest) =
    (if is_of_entry source.0 c.alias then found (placed c.column.text source.1) else []) ++ matches_from (suc entry) c rest where
      found : Option (ℕ × Kind) → List Found
      found None = []
      found (Some column) = ((entry, column.0), column.1) ∷ []

-- the only one of what a reference can stand for
abbrev pub the_only : {A : Type 0} → Span → List A → Result A BindFault
the_only at [] = Err (At NoColumn at)
the_only at (a ∷ []) = Ok a
the_only at (a ∷ b ∷ more) = Err (At Ambiguous at)

-- the column that a reference stands for
abbrev pub column_in : List Source → ColRef → Result Found BindFault
column_in sources c = the_only (span_of_column c) (matches_from 1 c sources)

-- the columns of a table, from this one on
abbrev pub columns_from : ℕ → ℕ → List Column → List Found
columns_from entry place [] = []
columns_from entry place (column ∷ rest) = ((entry, place), column.1) ∷ columns_from entry (suc place) rest

-- all columns of all entries, from the entry of this number on
abbrev pub all_columns_from : ℕ → List Source → List Found
all_columns_from entry [] = []
all_columns_from entry (source ∷ rest) = columns_from entry 0 source.1 ++ all_columns_from (suc entry) rest

-- the most columns that the entries of a block have
abbrev pub most_block_columns : ℕ
most_block_columns = most_entries * most_columns

-- the most output columns of a block
abbrev pub most_items : ℕ
most_items = most_block_columns

-- output columns behind this many: at each, from left to right, there may be no more, and then it has to be a column
abbrev pub items_behind : List Source → ℕ → List ColRef → Result (List Found) BindFault
items_behind sources before [] = Ok []
items_behind sources before (c ∷ rest) =
    if before == most_items then Err (At LimitOf (span_of_column c))
    else (do
      column ← column_in sources c
      more ← items_behind sources (suc before) rest
      Ok (column ∷ more))

-- the output columns; `*` stands for all columns of all entries
abbrev pub items_of : List Source → Items → Result (List Found) BindFault
items_of sources (items.Star at) =
    if nat_le (length (all_columns_from 1 sources)) most_items then Ok (all_columns_from 1 sources) else Err (At LimitOf at)
items_of sources (items.List columns) = items_behind sources 0 columns
