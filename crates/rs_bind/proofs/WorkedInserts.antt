-- INSERTs and their first broken rules, computed on literals: the statements INSERT INTO t VALUES (..), ...
use Rattle.std.proofs.Common.{◌≡◌, ℕ, List, [], ◌∷◌, refl}
use Rattle.std.specs.Prelude.{pos, negsuc, Result, Ok, Err, codes}
use Rattle.rs_value.specs.declared.kind.Kind.TheVariants as kind
use Rattle.rs_value.specs.declared.value.Value.{Value}
use Rattle.rs_value.specs.declared.value.Value.TheVariants as value
use Rattle.rs_lex.specs.declared.token.Span.{Span}
use Rattle.rs_syntax.specs.declared.row.Cell.{Cell}
use Rattle.rs_syntax.specs.declared.row.Cell.TheVariants as cell
use Rattle.rs_syntax.specs.declared.row.RowSyn.{RowSyn}
use Rattle.rs_syntax.specs.Syntax.{Insert, Close}
use Rattle.rs_table.specs.Column.{Column}
use Rattle.rs_catalog.specs.Catalog.{CatalogDef, NamedTable}
use Rattle.rs_typing.specs.declared.fault.BindFault.{BindFault}
use Rattle.rs_typing.specs.declared.fault.BindFault.TheVariants.{At, Memory}
use Rattle.rs_typing.specs.declared.fault.Why.{Why}
use Rattle.rs_typing.specs.declared.fault.Why.TheVariants.{LimitOf, NoTable, WrongCount, WrongKind}
use Rattle.rs_bind.specs.Inserts.{insert_of, rows_values}

abbrev table : List ℕ → List Column → List (List Value) → NamedTable
table name schema rows = record { name = name; table = record { schema = schema; rows = rows } }

-- the columns x INT and s TEXT
abbrev columns : List Column
columns = (codes "x", kind.Int) ∷ (codes "s", kind.Text) ∷ []

-- the tables u (x TEXT), without a row, and t (x INT, s TEXT), with one
abbrev made : CatalogDef
made = record {
  tables = table (codes "u") ((codes "x", kind.Text) ∷ []) [] ∷ table (codes "t") columns ((value.Int (pos 1) ∷ value.Text (codes "a") ∷ []) ∷ []) ∷ [];
  predicates = [];
  indexes = [];
}

abbrev span : ℕ → ℕ → Span
span from to = record { start = from; end = to }

abbrev row : List Cell → ℕ → ℕ → RowSyn
row cells from to = record { cells = cells; at = span from to }

-- INSERT INTO table VALUES ..: the name of a table of one letter stands at 12
abbrev insert : List ℕ → List RowSyn → Result (ℕ × List (List Value)) BindFault
insert on rows = insert_of made (Insert (record { text = on; at = span 12 13 }) rows)

abbrev refused : {A : Type 0} → Why → ℕ → ℕ → Result A BindFault
refused why from to = Err (At why (span from to))

-- (9, 'b'), (-1, '')
two_rows : insert (codes "t") (row (cell.Int (pos 9) (span 22 23) ∷ cell.Text (codes "b") (span 25 28) ∷ []) 21 29
    ∷ row (cell.Int (negsuc 0) (span 32 34) ∷ cell.Text [] (span 36 38) ∷ []) 31 39 ∷ [])
    ≡ Ok (1, (value.Int (pos 9) ∷ value.Text (codes "b") ∷ []) ∷ (value.Int (negsuc 0) ∷ value.Text [] ∷ []) ∷ [])
two_rows = refl

-- ('c') joins the other table
other_table : insert (codes "u") (row (cell.Text (codes "c") (span 22 25) ∷ []) 21 26 ∷ []) ≡ Ok (0, (value.Text (codes "c") ∷ []) ∷ [])
other_table = refl

-- the table comes first, also where a row is wrong: INSERT INTO v VALUES ('x')
no_table : insert (codes "v") (row (cell.Text (codes "x") (span 22 25) ∷ []) 21 26 ∷ []) ≡ refused NoTable 12 13
no_table = refl

-- (9) and (9, 'b', 1), also where a cell is of the wrong kind: ('b')
too_few : insert (codes "t") (row (cell.Int (pos 9) (span 22 23) ∷ []) 21 24 ∷ []) ≡ refused WrongCount 21 24
too_few = refl

too_many : insert (codes "t") (row (cell.Int (pos 9) (span 22 23) ∷ cell.Text (codes "b") (span 25 28) ∷ cell.Int (pos 1) (span 30 31) ∷ []) 21 32 ∷ [])
    ≡ refused WrongCount 21 32
too_many = refl

count_before_kind : insert (codes "t") (row (cell.Text (codes "b") (span 22 25) ∷ []) 21 26 ∷ []) ≡ refused WrongCount 21 26
count_before_kind = refl

-- a text for a number, a number with its sign for a text, and both: the first one from the left is told
text_for_number : insert (codes "t") (row (cell.Text (codes "b") (span 22 25) ∷ cell.Text (codes "b") (span 27 30) ∷ []) 21 31 ∷ []) ≡ refused WrongKind 22 25
text_for_number = refl

number_for_text : insert (codes "t") (row (cell.Int (pos 9) (span 22 23) ∷ cell.Int (negsuc 0) (span 25 27) ∷ []) 21 28 ∷ []) ≡ refused WrongKind 25 27
number_for_text = refl

both_wrong : insert (codes "t") (row (cell.Text (codes "b") (span 22 25) ∷ cell.Int (pos 9) (span 27 28) ∷ []) 21 29 ∷ []) ≡ refused WrongKind 22 25
both_wrong = refl

-- the cells of a row come before the number of those of the next row: (1, 2), (3), and the other way round: (1, 'a'), (3), (4, 5)
cells_before_next_row : insert (codes "t") (row (cell.Int (pos 1) (span 22 23) ∷ cell.Int (pos 2) (span 25 26) ∷ []) 21 27
    ∷ row (cell.Int (pos 3) (span 30 31) ∷ []) 29 32 ∷ []) ≡ refused WrongKind 25 26
cells_before_next_row = refl

row_before_next_cells : insert (codes "t") (row (cell.Int (pos 1) (span 22 23) ∷ cell.Text (codes "a") (span 25 28) ∷ []) 21 29
    ∷ row (cell.Int (pos 3) (span 32 33) ∷ []) 31 34
    ∷ row (cell.Int (pos 4) (span 37 38) ∷ cell.Int (pos 5) (span 40 41) ∷ []) 36 42 ∷ []) ≡ refused WrongCount 31 34
row_before_next_cells = refl

-- where 131,071 rows stand, one more joins; the next one is refused at its place, also where the number of its cells is wrong
abbrev last_row : RowSyn
last_row = row (cell.Int (pos 1) (span 22 23) ∷ cell.Text (codes "a") (span 25 28) ∷ []) 21 29

last_of_limit : rows_values columns 131072 (last_row ∷ []) ≡ Ok ((value.Int (pos 1) ∷ value.Text (codes "a") ∷ []) ∷ [])
last_of_limit = refl

room_before_count : rows_values columns 131072 (last_row ∷ row (cell.Int (pos 3) (span 32 33) ∷ []) 31 34 ∷ []) ≡ refused LimitOf 31 34
room_before_count = refl

-- and a row in front of it that is wrong comes first
count_before_next_room : rows_values columns 131072 (row (cell.Int (pos 3) (span 22 23) ∷ []) 21 24 ∷ last_row ∷ []) ≡ refused WrongCount 21 24
count_before_next_room = refl

-- of another statement nothing is said
no_insert : insert_of made (Close (record { text = codes "t"; at = span 6 7 })) ≡ Err Memory
no_insert = refl
