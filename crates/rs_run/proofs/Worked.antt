-- The definitions, computed on examples.
use Rattle.std.proofs.Common.{ℕ, ◌≡◌, ◌++◌, List, [], ◌∷◌, Some, None, refl}
use Rattle.std.specs.Prelude.{Option, codes, pos, negsuc, Ok, Err}
use Rattle.csv.proofs.OnLiterals.{csv_on_literals}
use Rattle.std.specs.Fmt.{digits}
use Rattle.std.specs.Str.{chars, is_utf8}
use Rattle.std.specs.Str.Lossy.{utf8_valid_len}
use Rattle.std.specs.Char.{encode_utf8}
use Rattle.csv.specs.Writing.{escaped, fields_text, is_blank}
use Rattle.rs_outside.specs.declared.files.FetchFault.TheVariants as fetch
use Rattle.rs_table.specs.declared.fault.TableFault.{TableFault}
use Rattle.rs_table.specs.declared.fault.TableFault.TheVariants as table
use Rattle.rs_statement.specs.declared.fault.Fault.TheVariants as fault
use Rattle.rs_statement.specs.declared.fault.SessionFault.TheVariants as session
use Rattle.rs_statement.specs.declared.evaluating.Evaluating.TheVariants.{Plainly, Planned}
use Rattle.rs_statement.specs.declared.sampling.Sampling.TheVariants.{ByScores}
use Rattle.rs_run.specs.Words.{Form, RunGenerated, RunScript, Top, form_of}
use Rattle.rs_statement.specs.declared.script_fault.ScriptFault.TheVariants as script
use Rattle.rs_statement.specs.Faults.{only}
use Rattle.rs_run.specs.Plain.{source_of, without_mark}
use Rattle.rs_expr.specs.Scoring.{Answering}
use Rattle.rs_events.specs.Events.{Fetch, Put}
use Rattle.rs_outside.specs.Files.{Finds, found_in}
use Rattle.rs_statement.specs.Steps.{Run}
use Rattle.rs_run.specs.Running.{IsRun, IsRunOf}
use Rattle.rs_run.specs.declared.fault.RunFault.TheVariants.{Statement, Usage}
use Rattle.rs_events.specs.declared.status.Status.TheVariants as status
use Rattle.rs_run.specs.Faults.{run_fault_line, status_of}

hotels : List ℕ
hotels = codes "name,price,city\na,40,1\nb,90,1\nc,40,2\n"

words : List ℕ → List ℕ → List (List ℕ)
words max count = codes "top" ∷ codes "h.csv" ∷ codes "price" ∷ max ∷ count ∷ []

-- the words `top f v 9 3`
on_v : List (List ℕ)
on_v = codes "top" ∷ codes "f" ∷ codes "v" ∷ codes "9" ∷ codes "3" ∷ []

-- the answers of a scorer that isn't asked
unasked : Answering
unasked predicate args = pos 0

-- the run of words that are of a form
abbrev OfSome : (Form → Run → Type 0) → Option Form → Run → Type 0
OfSome is None run = ⊥
OfSome is (Some form) run = is form run

abbrev IsFormRun : Finds → Answering → List (List ℕ) → Run → Type 0
IsFormRun finds answer words run = OfSome (IsRunOf finds answer) (form_of words) run

-- a run that fetches `f` and ends with a fault of its table
ends_at : TableFault → Run
ends_at why = record { events = Fetch (codes "f") ∷ []; fault = Some (fault.Table (codes "f") why) }

-- the two rows of greatest price, the tie to the earlier row
best_two : IsFormRun (found_in (λ name. Some hotels)) unasked (words (codes "100") (codes "2"))
    (record { events = Fetch (codes "h.csv") ∷ Put (codes "1,90,b,90,1\n") ∷ Put (codes "2,40,a,40,1\n") ∷ []; fault = None })
unfolding hotels words csv_on_literals digits chars is_utf8 encode_utf8 escaped fields_text is_blank
best_two = (Some hotels, refl, refl)

-- there are fewer rows than are asked for
all_rows : IsFormRun (found_in (λ name. Some hotels)) unasked (words (codes "100") (codes "9"))
    (record { events = Fetch (codes "h.csv") ∷ Put (codes "1,90,b,90,1\n") ∷ Put (codes "2,40,a,40,1\n") ∷ Put (codes "3,40,c,40,2\n") ∷ []; fault = None })
unfolding hotels words csv_on_literals digits chars is_utf8 encode_utf8 escaped fields_text is_blank
all_rows = (Some hotels, refl, refl)

-- MAX itself is a score
score_of_max : IsFormRun (found_in (λ name. Some hotels)) unasked (words (codes "90") (codes "1"))
    (record { events = Fetch (codes "h.csv") ∷ Put (codes "1,90,b,90,1\n") ∷ []; fault = None })
unfolding hotels words csv_on_literals digits chars is_utf8 encode_utf8 escaped fields_text is_blank
score_of_max = (Some hotels, refl, refl)

-- a number above MAX ends the run before any put
bad_score : IsFormRun (found_in (λ name. Some hotels)) unasked (words (codes "80") (codes "2"))
    (record { events = Fetch (codes "h.csv") ∷ []; fault = Some (fault.BadScore (codes "price") (only 2) (pos 90) 80) })
unfolding hotels words csv_on_literals digits chars is_utf8 encode_utf8 escaped fields_text is_blank
bad_score = (Some hotels, refl, refl)

-- no row is asked for
no_count : IsFormRun (found_in (λ name. Some hotels)) unasked (words (codes "100") (codes "0"))
    (record { events = Fetch (codes "h.csv") ∷ []; fault = None })
unfolding hotels words csv_on_literals digits chars is_utf8 encode_utf8 escaped fields_text is_blank
no_count = (Some hotels, refl, refl)

-- the numbers are looked at all the same
no_count_bad_score : IsFormRun (found_in (λ name. Some hotels)) unasked (words (codes "80") (codes "0"))
    (record { events = Fetch (codes "h.csv") ∷ []; fault = Some (fault.BadScore (codes "price") (only 2) (pos 90) 80) })
unfolding hotels words csv_on_literals digits chars is_utf8 encode_utf8 escaped fields_text is_blank
no_count_bad_score = (Some hotels, refl, refl)

-- rows of one score stay in the order of the file
ties : IsFormRun (found_in (λ name. Some (codes "n,v\na,1\nb,2\nc,1\nd,2\n"))) unasked on_v
    (record { events = Fetch (codes "f") ∷ Put (codes "1,2,b,2\n") ∷ Put (codes "2,2,d,2\n") ∷ Put (codes "3,1,a,1\n") ∷ []; fault = None })
unfolding on_v ends_at csv_on_literals digits chars is_utf8 encode_utf8 escaped fields_text is_blank
ties = (Some (codes "n,v\na,1\nb,2\nc,1\nd,2\n"), refl, refl)

-- a header alone is a table without rows
header_alone : IsFormRun (found_in (λ name. Some (codes "n,v\n"))) unasked on_v
    (record { events = Fetch (codes "f") ∷ []; fault = None })
unfolding on_v ends_at csv_on_literals digits chars is_utf8 encode_utf8 escaped fields_text is_blank
header_alone = (Some (codes "n,v\n"), refl, refl)

-- a quoted field is printed as it must be to be read again
quoted : IsFormRun (found_in (λ name. Some (codes "n,v\r\n\"a,\"\"b\"\"\nc\",5\r\n"))) unasked on_v
    (record { events = Fetch (codes "f") ∷ Put (codes "1,5,\"a,\"\"b\"\"\nc\",5\n") ∷ []; fault = None })
unfolding on_v ends_at csv_on_literals digits chars is_utf8 encode_utf8 escaped fields_text is_blank
quoted = (Some (codes "n,v\r\n\"a,\"\"b\"\"\nc\",5\r\n"), refl, refl)

-- 0 is a score
score_of_zero : IsFormRun (found_in (λ name. Some (codes "v\n0\n"))) unasked on_v
    (record { events = Fetch (codes "f") ∷ Put (codes "1,0,0\n") ∷ []; fault = None })
unfolding on_v ends_at csv_on_literals digits chars is_utf8 encode_utf8 escaped fields_text is_blank
score_of_zero = (Some (codes "v\n0\n"), refl, refl)

-- a number below 0 is no score
negative : IsFormRun (found_in (λ name. Some (codes "v\n5\n-1\n"))) unasked on_v
    (record { events = Fetch (codes "f") ∷ []; fault = Some (fault.BadScore (codes "v") (only 2) (negsuc 0) 9) })
unfolding on_v ends_at csv_on_literals digits chars is_utf8 encode_utf8 escaped fields_text is_blank
negative = (Some (codes "v\n5\n-1\n"), refl, refl)

-- the first number that is no score is told
first_bad_score : IsFormRun (found_in (λ name. Some (codes "v\n10\n99\n"))) unasked on_v
    (record { events = Fetch (codes "f") ∷ []; fault = Some (fault.BadScore (codes "v") (only 1) (pos 10) 9) })
unfolding on_v ends_at csv_on_literals digits chars is_utf8 encode_utf8 escaped fields_text is_blank
first_bad_score = (Some (codes "v\n10\n99\n"), refl, refl)

-- an empty file has no header
no_header : IsFormRun (found_in (λ name. Some [])) unasked on_v
    (ends_at table.NoHeader)
unfolding on_v ends_at csv_on_literals digits chars is_utf8 encode_utf8 escaped fields_text is_blank
no_header = (Some [], refl, refl)

-- no column has the name
no_column : IsFormRun (found_in (λ name. Some (codes "w,V\n1,1\n"))) unasked on_v
    (ends_at table.NoColumn)
unfolding on_v ends_at csv_on_literals digits chars is_utf8 encode_utf8 escaped fields_text is_blank
no_column = (Some (codes "w,V\n1,1\n"), refl, refl)

-- the first column of the name is the one of numbers
first_column : IsFormRun (found_in (λ name. Some (codes "v,v\n3,x\n"))) unasked on_v
    (record { events = Fetch (codes "f") ∷ Put (codes "1,3,3,x\n") ∷ []; fault = None })
unfolding on_v ends_at csv_on_literals digits chars is_utf8 encode_utf8 escaped fields_text is_blank
first_column = (Some (codes "v,v\n3,x\n"), refl, refl)

-- a cell that is no number
not_int : IsFormRun (found_in (λ name. Some (codes "v\nx\n"))) unasked on_v
    (ends_at (table.NotInt 1 1))
unfolding on_v ends_at csv_on_literals digits chars is_utf8 encode_utf8 escaped fields_text is_blank
not_int = (Some (codes "v\nx\n"), refl, refl)

-- a row that is no row of the table comes before a number that is no score
not_int_first : IsFormRun (found_in (λ name. Some (codes "v\n99\nx\n"))) unasked on_v
    (ends_at (table.NotInt 2 1))
unfolding on_v ends_at csv_on_literals digits chars is_utf8 encode_utf8 escaped fields_text is_blank
not_int_first = (Some (codes "v\n99\nx\n"), refl, refl)

-- a row with too few fields
field_count : IsFormRun (found_in (λ name. Some (codes "v,w\n1\n"))) unasked on_v
    (ends_at (table.FieldCount 1 1))
unfolding on_v ends_at csv_on_literals digits chars is_utf8 encode_utf8 escaped fields_text is_blank
field_count = (Some (codes "v,w\n1\n"), refl, refl)

-- a cell that is no text
not_utf8 : IsFormRun (found_in (λ name. Some (codes "v,w\n1," ++ 255 ∷ 10 ∷ []))) unasked on_v
    (ends_at (table.NotUtf8 1 2))
unfolding on_v ends_at csv_on_literals digits chars is_utf8 encode_utf8 escaped fields_text is_blank
not_utf8 = (Some (codes "v,w\n1," ++ 255 ∷ 10 ∷ []), refl, refl)

-- a name that is no text
name_not_utf8 : IsFormRun (found_in (λ name. Some (codes "v," ++ 255 ∷ 10 ∷ []))) unasked on_v
    (ends_at (table.NotUtf8 0 2))
unfolding on_v ends_at csv_on_literals digits chars is_utf8 encode_utf8 escaped fields_text is_blank
name_not_utf8 = (Some (codes "v," ++ 255 ∷ 10 ∷ []), refl, refl)

-- the file is not there
missing : IsFormRun (found_in (λ name. None)) unasked on_v (record { events = Fetch (codes "f") ∷ []; fault = Some (fault.Read (codes "f") fetch.Missing) })
unfolding on_v digits
missing = (None, refl, refl)

-- words of another number fetch nothing
no_words : IsRun (found_in (λ name. None)) unasked [] (record { events = []; fault = Some Usage })
no_words = refl

-- a word too many
too_many_words : form_of (codes "top" ∷ codes "f" ∷ codes "v" ∷ codes "9" ∷ codes "3" ∷ codes "3" ∷ []) ≡ None
unfolding digits
too_many_words = refl

-- another first word
other_word : form_of (codes "topp" ∷ codes "f" ∷ codes "v" ∷ codes "9" ∷ codes "3" ∷ []) ≡ None
unfolding digits
other_word = refl

-- the greatest numbers
greatest_numbers : form_of (words (codes "4294967295") (codes "1000000")) ≡ Some (Top (record { file = codes "h.csv"; column = codes "price"; max = 4294967295; count = 1000000 }))
unfolding words digits
greatest_numbers = refl

-- the least numbers
least_numbers : form_of (words (codes "1") (codes "0")) ≡ Some (Top (record { file = codes "h.csv"; column = codes "price"; max = 1; count = 0 }))
unfolding words digits
least_numbers = refl

-- 20 digits may begin with zeros
leading_zeros : form_of (words (codes "00000000000000000007") (codes "007")) ≡ Some (Top (record { file = codes "h.csv"; column = codes "price"; max = 7; count = 7 }))
unfolding words digits
leading_zeros = refl

-- 21 digits are no number
too_many_digits : form_of (words (codes "000000000000000000007") (codes "1")) ≡ None
unfolding words digits
too_many_digits = refl

-- MAX may not be 0
max_of_zero : form_of (words (codes "0") (codes "1")) ≡ None
unfolding words digits
max_of_zero = refl

-- MAX is too great
max_too_great : form_of (words (codes "4294967296") (codes "1")) ≡ None
unfolding words digits
max_too_great = refl

-- K is too great
count_too_great : form_of (words (codes "1") (codes "1000001")) ≡ None
unfolding words digits
count_too_great = refl

-- a number has no sign
sign : form_of (words (codes "1") (codes "+1")) ≡ None
unfolding words digits
sign = refl

-- a number has a digit
no_digit : form_of (words (codes "") (codes "1")) ≡ None
unfolding words digits
no_digit = refl

-- the form of `top`
form_of_top : form_of (words (codes "1") (codes "0")) ≡ Some (Top (record { file = codes "h.csv"; column = codes "price"; max = 1; count = 0 }))
unfolding words digits
form_of_top = refl

-- the form of `plain`
form_of_plain : form_of (codes "plain" ∷ codes "s.sql" ∷ []) ≡ Some (RunScript (codes "s.sql") Plainly)
form_of_plain = refl

-- a script may have any name
form_of_plain_top : form_of (codes "plain" ∷ codes "top" ∷ []) ≡ Some (RunScript (codes "top") Plainly)
form_of_plain_top = refl

-- the form of `run`
form_of_run : form_of (codes "run" ∷ codes "s.sql" ∷ codes "007" ∷ []) ≡ Some (RunScript (codes "s.sql") (Planned (ByScores 7)))
unfolding digits
form_of_run = refl

-- the greatest seed, and one more
form_of_greatest_seed : form_of (codes "run" ∷ codes "s.sql" ∷ codes "18446744073709551615" ∷ []) ≡ Some (RunScript (codes "s.sql") (Planned (ByScores 18446744073709551615)))
unfolding digits
form_of_greatest_seed = refl

form_of_seed_too_great : form_of (codes "run" ∷ codes "s.sql" ∷ codes "18446744073709551616" ∷ []) ≡ None
unfolding digits
form_of_seed_too_great = refl

-- a seed that is no number, and none
form_of_no_number : form_of (codes "run" ∷ codes "s.sql" ∷ codes "x" ∷ []) ≡ None
unfolding digits
form_of_no_number = refl

form_of_no_seed : form_of (codes "run" ∷ codes "s.sql" ∷ []) ≡ None
form_of_no_seed = refl

-- the form of `gen`, its greatest numbers, and one more or less
form_of_gen : form_of (codes "gen" ∷ codes "7" ∷ codes "600" ∷ []) ≡ Some (RunGenerated 7 600)
unfolding digits
form_of_gen = refl

form_of_greatest_gen : form_of (codes "gen" ∷ codes "4294967295" ∷ codes "2000" ∷ []) ≡ Some (RunGenerated 4294967295 2000)
unfolding digits
form_of_greatest_gen = refl

form_of_number_too_great : form_of (codes "gen" ∷ codes "4294967296" ∷ codes "1" ∷ []) ≡ None
unfolding digits
form_of_number_too_great = refl

form_of_rows_too_many : form_of (codes "gen" ∷ codes "0" ∷ codes "2001" ∷ []) ≡ None
unfolding digits
form_of_rows_too_many = refl

form_of_no_rows : form_of (codes "gen" ∷ codes "0" ∷ codes "0" ∷ []) ≡ None
unfolding digits
form_of_no_rows = refl

form_of_gen_alone : form_of (codes "gen" ∷ codes "7" ∷ []) ≡ None
form_of_gen_alone = refl

-- words of no form
form_of_nothing : form_of [] ≡ None
form_of_nothing = refl

form_of_plain_alone : form_of (codes "plain" ∷ []) ≡ None
form_of_plain_alone = refl

form_of_two_scripts : form_of (codes "plain" ∷ codes "s.sql" ∷ codes "t.sql" ∷ []) ≡ None
form_of_two_scripts = refl

form_of_other_case : form_of (codes "Plain" ∷ codes "s.sql" ∷ []) ≡ None
form_of_other_case = refl

form_of_bad_numbers : form_of (words (codes "0") (codes "1")) ≡ None
unfolding words digits
form_of_bad_numbers = refl

-- exactly one byte order mark is removed
one_mark : without_mark (239 ∷ 187 ∷ 191 ∷ 36 ∷ []) ≡ 36 ∷ []
one_mark = refl

two_marks : without_mark (239 ∷ 187 ∷ 191 ∷ 239 ∷ 187 ∷ 191 ∷ 36 ∷ []) ≡ 239 ∷ 187 ∷ 191 ∷ 36 ∷ []
two_marks = refl

a_mark_alone : without_mark (239 ∷ 187 ∷ 191 ∷ []) ≡ []
a_mark_alone = refl

part_of_a_mark : without_mark (239 ∷ 187 ∷ []) ≡ 239 ∷ 187 ∷ []
part_of_a_mark = refl

mark_behind_a_byte : without_mark (36 ∷ 239 ∷ 187 ∷ 191 ∷ []) ≡ 36 ∷ 239 ∷ 187 ∷ 191 ∷ []
mark_behind_a_byte = refl

no_byte : without_mark [] ≡ []
no_byte = refl

-- the text of a script, and why there is none
source : source_of (codes "s.sql") (Some (239 ∷ 187 ∷ 191 ∷ codes "SELECT 1")) ≡ Ok (codes "SELECT 1")
unfolding chars is_utf8 encode_utf8
source = refl

source_missing : source_of (codes "s.sql") None ≡ Err (fault.Read (codes "s.sql") fetch.Missing)
source_missing = refl

source_not_utf8 : source_of (codes "s.sql") (Some (codes "SELECT " ++ 255 ∷ [])) ≡ Err (fault.Script (script.NotUtf8 7))
unfolding chars is_utf8 encode_utf8 utf8_valid_len
source_not_utf8 = refl

-- places count from behind the mark
source_not_utf8_behind_mark : source_of (codes "s.sql") (Some (239 ∷ 187 ∷ 191 ∷ 65 ∷ 255 ∷ [])) ≡ Err (fault.Script (script.NotUtf8 1))
unfolding chars is_utf8 encode_utf8 utf8_valid_len
source_not_utf8_behind_mark = refl

-- the line of words of no form
line_of_usage : run_fault_line Usage ≡ codes "usage: ranksql top FILE COLUMN MAX K, run SCRIPT SEED, plain SCRIPT, gen NUMBER ROWS, ta SCRIPT, feed LEFT RIGHT K, cert LEFT RIGHT K, check FILE, view SCRIPT\n"
line_of_usage = refl

-- the status of each
status_of_script : status_of (Some (Statement (fault.Script (script.NotUtf8 0)))) ≡ status.Script
status_of_script = refl

status_of_probe : status_of (Some (Statement (fault.Probe (codes "q")))) ≡ status.Probe
status_of_probe = refl

status_of_session : status_of (Some (Statement (fault.Session session.Full (codes "k")))) ≡ status.Session
status_of_session = refl
