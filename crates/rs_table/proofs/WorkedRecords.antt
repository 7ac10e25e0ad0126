-- The records of some files, computed.
use Rattle.std.proofs.Common.{◌≡◌, ◌∷◌, ◌++◌, [], List, ℕ, codes, refl}
use Rattle.csv.proofs.OnLiterals.{csv_on_literals}
use Rattle.rs_table.specs.Records.{records_of}

-- a byte order mark, U+FEFF in UTF-8
abbrev mark : List ℕ
mark = 0xEF ∷ 0xBB ∷ 0xBF ∷ []

-- a record to a line
pub three_lines : records_of (codes "name,age\nAda,36\nAlan,41\n")
    ≡ (codes "name" ∷ codes "age" ∷ []) ∷ (codes "Ada" ∷ codes "36" ∷ []) ∷ (codes "Alan" ∷ codes "41" ∷ []) ∷ []
unfolding csv_on_literals
three_lines = refl

-- the last line's end may be left out
pub no_last_end : records_of (codes "a,b\n1,2") ≡ (codes "a" ∷ codes "b" ∷ []) ∷ (codes "1" ∷ codes "2" ∷ []) ∷ []
unfolding csv_on_literals
no_last_end = refl

-- a CR LF is one end, and a quoted field holds a comma and, for two quotes, one
pub quoted : records_of (codes "id,text\r\n7,\"one, \"\"two\"\"\"\r\n")
    ≡ (codes "id" ∷ codes "text" ∷ []) ∷ (codes "7" ∷ codes "one, \"two\"" ∷ []) ∷ []
unfolding csv_on_literals
quoted = refl

-- a quoted field holds a line's end
pub quoted_line_end : records_of (codes "a,\"b\r\nc\"\nd,e\n")
    ≡ (codes "a" ∷ codes "b\r\nc" ∷ []) ∷ (codes "d" ∷ codes "e" ∷ []) ∷ []
unfolding csv_on_literals
quoted_line_end = refl

-- a CR alone ends a record
pub lone_return : records_of (codes "a,b\r1,2\r") ≡ (codes "a" ∷ codes "b" ∷ []) ∷ (codes "1" ∷ codes "2" ∷ []) ∷ []
unfolding csv_on_literals
lone_return = refl

-- blank lines are no records
pub blank_lines : records_of (codes "\n\r\na\n\n\r\n\rb\n\n") ≡ (codes "a" ∷ []) ∷ (codes "b" ∷ []) ∷ []
unfolding csv_on_literals
blank_lines = refl

-- a line of a comma is two empty fields, and a line of two quotes is one
pub empty_fields : records_of (codes ",\n\"\"\n") ≡ ([] ∷ [] ∷ []) ∷ ([] ∷ []) ∷ []
unfolding csv_on_literals
empty_fields = refl

-- a comma at the end of the file begins a field, which is empty
pub last_comma : records_of (codes "a,") ≡ (codes "a" ∷ [] ∷ []) ∷ []
unfolding csv_on_literals
last_comma = refl

-- records may differ in length
pub other_lengths : records_of (codes "a,b\n1\n2,3,4\n")
    ≡ (codes "a" ∷ codes "b" ∷ []) ∷ (codes "1" ∷ []) ∷ (codes "2" ∷ codes "3" ∷ codes "4" ∷ []) ∷ []
unfolding csv_on_literals
other_lengths = refl

-- spaces are part of a field
pub spaces : records_of (codes " a , b \n") ≡ (codes " a " ∷ codes " b " ∷ []) ∷ []
unfolding csv_on_literals
spaces = refl

-- a quote in a field that didn't begin with one is an ordinary byte
pub inner_quote : records_of (codes "a\"b,c \"d\" e\n") ≡ (codes "a\"b" ∷ codes "c \"d\" e" ∷ []) ∷ []
unfolding csv_on_literals
inner_quote = refl

-- what stands behind a closing quote joins the field, a later quote too
pub after_quote : records_of (codes "\"ab\"cd,\"e\"f\"g\n") ≡ (codes "abcd" ∷ codes "ef\"g" ∷ []) ∷ []
unfolding csv_on_literals
after_quote = refl

-- a quoted field that isn't closed ends with the file, and its record counts
pub not_closed : records_of (codes "a,b\n1,\"2\n3,4\n") ≡ (codes "a" ∷ codes "b" ∷ []) ∷ (codes "1" ∷ codes "2\n3,4\n" ∷ []) ∷ []
unfolding csv_on_literals
not_closed = refl

-- an opening quote alone is a record of one empty field
pub quote_alone : records_of (codes "\"") ≡ ([] ∷ []) ∷ []
unfolding csv_on_literals
quote_alone = refl

-- an empty file has no record
pub empty_file : records_of [] ≡ []
unfolding csv_on_literals
empty_file = refl

-- a mark at the start is no part of the first field
pub one_mark : records_of (mark ++ codes "a,b\n") ≡ (codes "a" ∷ codes "b" ∷ []) ∷ []
unfolding csv_on_literals
one_mark = refl

-- behind a mark a field may begin with a quote
pub mark_before_quote : records_of (mark ++ codes "\"a,b\"\n") ≡ (codes "a,b" ∷ []) ∷ []
unfolding csv_on_literals
mark_before_quote = refl

-- a second mark stays
pub two_marks : records_of (mark ++ mark ++ codes "a,b\n") ≡ ((mark ++ codes "a") ∷ codes "b" ∷ []) ∷ []
unfolding csv_on_literals
two_marks = refl

-- a mark that isn't at the start stays
pub later_mark : records_of (codes "a\n" ++ mark ++ codes "b\n") ≡ (codes "a" ∷ []) ∷ ((mark ++ codes "b") ∷ []) ∷ []
unfolding csv_on_literals
later_mark = refl

-- a part of a mark is an ordinary field
pub part_of_mark : records_of (0xEF ∷ 0xBB ∷ []) ≡ ((0xEF ∷ 0xBB ∷ []) ∷ []) ∷ []
unfolding csv_on_literals
part_of_mark = refl

-- a file that is a mark alone has no record
pub mark_alone : records_of mark ≡ []
unfolding csv_on_literals
mark_alone = refl
