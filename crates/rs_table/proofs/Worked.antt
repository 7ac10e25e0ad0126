-- The schema and the table of some files, computed.
use Rattle.std.proofs.Common.{ℕ, pos, negsuc, ◌≡◌, ◌++◌, List, [], ◌∷◌, codes, refl}
use Rattle.std.specs.Prelude.{⊤, Some, None, Ok, Err}
use Rattle.std.specs.Str.{chars, is_utf8}
use lib.Utf8.{encode}
use Rattle.csv.proofs.OnLiterals.{csv_on_literals}
use Rattle.rs_value.specs.declared.kind.Kind.TheVariants as kind
use Rattle.rs_value.specs.declared.value.Value.TheVariants.{Int, Text}
use Rattle.rs_table.specs.declared.fault.TableFault.TheVariants.{NoHeader, HeaderDiffers, FieldCount, NotUtf8, NotInt, TooManyRows, NoColumn, TooManyColumns}
use Rattle.rs_table.specs.Column.{Column, place_of}
use Rattle.rs_table.specs.Relation.{Relation, cell_at}
use Rattle.rs_table.specs.Stored.{rows_across}
use Rattle.rs_table.specs.Texts.{column_texts, text_number}
use Rattle.rs_table.specs.Reading.{header_of, row_of, table_of}

-- what computes a file's records and tests their text
unfoldable on_literals : ⊤
unfolding csv_on_literals is_utf8 chars encode
on_literals = tt

-- a file of things with their prices and cities
abbrev things : List ℕ
things = codes "name,price,city\na,40,1\nb,90,1\nc,40,2\n"

-- its columns: a city is a text, though it reads as a number
abbrev columns : List Column
columns = (codes "name", kind.Text) ∷ (codes "price", kind.Int) ∷ (codes "city", kind.Text) ∷ []

-- its table
abbrev table : Relation
table = record {
  schema = columns;
  rows = (Text (codes "a") ∷ Int (pos 40) ∷ Text (codes "1") ∷ []) ∷ (Text (codes "b") ∷ Int (pos 90) ∷ Text (codes "1") ∷ []) ∷ (Text (codes "c") ∷ Int (pos 40) ∷ Text (codes "2") ∷ []) ∷ [];
}

-- the header makes the schema
pub header_of-things : header_of (codes "price") things ≡ Ok columns
unfolding on_literals
header_of-things = refl

-- the rows stand in the file's order
pub table_of-things : table_of columns things ≡ Ok table
unfolding on_literals
table_of-things = refl

-- rows count from 1, and columns from 0
pub first_price : cell_at table 1 1 ≡ Some (Int (pos 40))
first_price = refl

pub last_city : cell_at table 3 2 ≡ Some (Text (codes "2"))
last_city = refl

pub no_row_more : cell_at table 4 1 ≡ None
no_row_more = refl

-- texts are numbered by their first occurrence in their own column
abbrev letters : Relation
letters = record {
  schema = (codes "a", kind.Text) ∷ (codes "b", kind.Text) ∷ [];
  rows = (Text (codes "x") ∷ Text (codes "y") ∷ []) ∷ (Text (codes "y") ∷ Text (codes "z") ∷ []) ∷ (Text (codes "x") ∷ Text (codes "x") ∷ []) ∷ [];
}

pub number_of_x : text_number (codes "x") (column_texts letters 0) ≡ 0
number_of_x = refl

pub number_of_y : text_number (codes "y") (column_texts letters 0) ≡ 1
number_of_y = refl

pub number_of_x_elsewhere : text_number (codes "x") (column_texts letters 1) ≡ 2
number_of_x_elsewhere = refl

pub number_of_second_city : text_number (codes "2") (column_texts table 2) ≡ 1
number_of_second_city = refl

-- rows stand column by column, and join at the end of each column
pub across : rows_across 2 ((Int (pos 1) ∷ Int (pos 2) ∷ []) ∷ (Text (codes "x") ∷ Text (codes "y") ∷ []) ∷ [])
    ≡ (Int (pos 1) ∷ Text (codes "x") ∷ []) ∷ (Int (pos 2) ∷ Text (codes "y") ∷ []) ∷ []
across = refl

-- a column of numbers, and one of numbers beside one of texts
abbrev v : List Column
v = (codes "v", kind.Int) ∷ []

abbrev vw : List Column
vw = (codes "v", kind.Int) ∷ (codes "w", kind.Text) ∷ []

-- a file of nothing, or of blank lines, has no header
pub no_table : table_of v [] ≡ Err NoHeader
unfolding on_literals
no_table = refl

pub no_schema : header_of (codes "v") (codes "\n\n") ≡ Err NoHeader
unfolding on_literals
no_schema = refl

-- a header alone is a table with no row
pub no_row : table_of v (codes "v\n") ≡ Ok (record { schema = v; rows = [] })
unfolding on_literals
no_row = refl

-- numbers have a sign or none
pub signs : table_of v (codes "v\n-40\n+7\n007\n")
    ≡ Ok (record { schema = v; rows = (Int (negsuc 39) ∷ []) ∷ (Int (pos 7) ∷ []) ∷ (Int (pos 7) ∷ []) ∷ [] })
unfolding on_literals
signs = refl

-- a cell that is no number, in the first row and in the second
pub not_int : table_of v (codes "v\nx\n") ≡ Err (NotInt 1 1)
unfolding on_literals
not_int = refl

pub not_int_later : table_of v (codes "v\n1\nx\n") ≡ Err (NotInt 2 1)
unfolding on_literals
not_int_later = refl

-- nothing, and spaces round digits, are no numbers
pub empty_cell : table_of v (codes "v\n\"\"\n") ≡ Err (NotInt 1 1)
unfolding on_literals
empty_cell = refl

pub spaced_cell : table_of v (codes "v\n 1\n") ≡ Err (NotInt 1 1)
unfolding on_literals
spaced_cell = refl

-- a row with too few fields, and one with too many
pub short_row : table_of vw (codes "v,w\n1\n") ≡ Err (FieldCount 1 1)
unfolding on_literals
short_row = refl

pub long_row : table_of vw (codes "v,w\n1,a\n2,b,c\n") ≡ Err (FieldCount 2 3)
unfolding on_literals
long_row = refl

-- the number of fields counts before the cells, and the cells from left to right
pub count_first : table_of vw (codes "v,w\nx\n") ≡ Err (FieldCount 1 1)
unfolding on_literals
count_first = refl

pub left_first : table_of vw (codes "v,w\nx," ++ 0xFF ∷ codes "\n") ≡ Err (NotInt 1 1)
unfolding on_literals
left_first = refl

-- the header counts before the rows
pub header_first : table_of v (codes "x\ny\n") ≡ Err (HeaderDiffers 1)
unfolding on_literals
header_first = refl

-- a header with another name, one that is shorter and one that is longer
pub other_name : table_of vw (codes "v,x\n") ≡ Err (HeaderDiffers 2)
unfolding on_literals
other_name = refl

pub short_header : table_of vw (codes "v\n") ≡ Err (HeaderDiffers 2)
unfolding on_literals
short_header = refl

pub long_header : table_of vw (codes "v,w,x\n") ≡ Err (HeaderDiffers 3)
unfolding on_literals
long_header = refl

-- names are compared byte by byte
pub other_case : table_of v (codes "V\n") ≡ Err (HeaderDiffers 1)
unfolding on_literals
other_case = refl

-- a cell of a column of texts that isn't UTF-8
pub not_utf8 : table_of vw (codes "v,w\n1,a" ++ 0xFF ∷ codes "\n") ≡ Err (NotUtf8 1 2)
unfolding on_literals
not_utf8 = refl

-- row 131,073 is too many, whatever it holds
pub too_many_rows : row_of vw 131073 [] ≡ Err TooManyRows
too_many_rows = refl

pub last_row : row_of vw 131072 (codes "1" ∷ [] ∷ []) ≡ Ok (Int (pos 1) ∷ Text [] ∷ [])
unfolding on_literals
last_row = refl

-- a name that stands twice: the first column of it is of numbers, and is the one that is found
pub name_twice : header_of (codes "v") (codes "v,v\n") ≡ Ok ((codes "v", kind.Int) ∷ (codes "v", kind.Text) ∷ [])
unfolding on_literals
name_twice = refl

pub place_twice : place_of (codes "v") ((codes "v", kind.Int) ∷ (codes "v", kind.Text) ∷ []) ≡ Some 0
place_twice = refl

pub place_later : place_of (codes "w") vw ≡ Some 1
place_later = refl

pub no_place : place_of (codes "x") vw ≡ None
no_place = refl

-- a header that has no such column
pub no_column : header_of (codes "x") (codes "v,w\n") ≡ Err NoColumn
unfolding on_literals
no_column = refl

-- a name that isn't UTF-8 counts before the missing column
pub name_not_utf8 : header_of (codes "x") (codes "v," ++ 0xFF ∷ codes "\n") ≡ Err (NotUtf8 0 2)
unfolding on_literals
name_not_utf8 = refl

-- 64 columns are the most, and too many count before all else
pub most_columns : header_of [] (codes ",,,,,,,,,,,,,,,,,,,,,,,,,,,,,,,,,,,,,,,,,,,,,,,,,,,,,,,,,,,,,,," ++ 0xFF ∷ codes "\n") ≡ Err (NotUtf8 0 64)
unfolding on_literals
most_columns = refl

pub too_many_columns : header_of [] (codes ",,,,,,,,,,,,,,,,,,,,,,,,,,,,,,,,,,,,,,,,,,,,,,,,,,,,,,,,,,,,,,,," ++ 0xFF ∷ codes "\n") ≡ Err (TooManyColumns 65)
unfolding on_literals
too_many_columns = refl

-- a byte order mark, U+FEFF in UTF-8
abbrev mark : List ℕ
mark = 0xEF ∷ 0xBB ∷ 0xBF ∷ []

-- one mark is no part of the header, and a second one is part of its first field
pub one_mark : header_of (codes "v") (mark ++ codes "v\n") ≡ Ok v
unfolding on_literals
one_mark = refl

pub two_marks : header_of (codes "v") (mark ++ mark ++ codes "v\n") ≡ Err NoColumn
unfolding on_literals
two_marks = refl

pub two_marks_differ : table_of v (mark ++ mark ++ codes "v\n") ≡ Err (HeaderDiffers 1)
unfolding on_literals
two_marks_differ = refl
