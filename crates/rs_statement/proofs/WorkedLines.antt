-- The lines of faults, computed on examples.
use Rattle.std.proofs.Common.{◌≡◌, [], ◌∷◌, refl}
use Rattle.std.specs.Prelude.{codes, pos, negsuc}
use Rattle.std.specs.Fmt.{digits}
use Rattle.rs_outside.specs.declared.files.FetchFault.TheVariants as fetch
use Rattle.rs_table.specs.declared.fault.TableFault.TheVariants as table
use Rattle.rs_statement.specs.declared.fault.Fault.TheVariants as fault
use Rattle.rs_statement.specs.declared.script_fault.ScriptFault.TheVariants as script
use Rattle.rs_lex.specs.declared.fault.LexFault.TheVariants as lex
use Rattle.rs_syntax.specs.declared.fault.SyntaxFault.TheVariants as syntax
use Rattle.rs_catalog.specs.declared.room.RoomFault.TheVariants as room
use Rattle.rs_typing.specs.declared.fault.Why.TheVariants as why
use Rattle.rs_statement.specs.Faults.{fault_line, only}

-- the line of want of memory
line_of_memory : fault_line fault.Memory ≡ codes "memory\n"
unfolding digits
line_of_memory = refl

-- the line of a file that is not there
line_of_missing : fault_line (fault.Read (codes "h.csv") fetch.Missing) ≡ codes "read: h.csv: missing\n"
unfolding digits
line_of_missing = refl

-- of a file with too many bytes
line_of_too_long : fault_line (fault.Read (codes "h.csv") fetch.TooLong) ≡ codes "read: h.csv: too long\n"
unfolding digits
line_of_too_long = refl

-- of a file whose fetch failed
line_of_failed : fault_line (fault.Read (codes "h.csv") fetch.Failed) ≡ codes "read: h.csv: failed\n"
unfolding digits
line_of_failed = refl

-- the line of an output that failed
line_of_write : fault_line fault.Write ≡ codes "write\n"
unfolding digits
line_of_write = refl

-- the line of a number that is no score
line_of_bad_score : fault_line (fault.BadScore (codes "price") (only 2) (pos 90) 80) ≡ codes "score: price rows 2: 90 is not in 0..80\n"
unfolding digits
line_of_bad_score = refl

-- of a number below 0
line_of_negative : fault_line (fault.BadScore (codes "v") (only 131072) (negsuc 3999999999999999999) 4294967295) ≡ codes "score: v rows 131072: -4000000000000000000 is not in 0..4294967295\n"
unfolding digits
line_of_negative = refl

-- of a predicate's score
line_of_bad_predicate : fault_line (fault.BadScore (codes "p") (only 1) (pos 40) 10) ≡ codes "score: p rows 1: 40 is not in 0..10\n"
unfolding digits
line_of_bad_predicate = refl

-- of a term that speaks of the second FROM entry and the fourth
line_of_bad_term : fault_line (fault.BadScore (codes "near") (0 ∷ 3 ∷ 0 ∷ 120 ∷ 0 ∷ 0 ∷ []) (negsuc 4) 100) ≡ codes "score: near rows 3 120: -5 is not in 0..100\n"
unfolding digits
line_of_bad_term = refl

-- the line of a call that failed
line_of_probe : fault_line (fault.Probe (codes "q")) ≡ codes "probe: q\n"
unfolding digits
line_of_probe = refl

-- the line of a file without a header
line_of_no_header : fault_line (fault.Table (codes "h.csv") table.NoHeader) ≡ codes "table: h.csv: NoHeader\n"
unfolding digits
line_of_no_header = refl

-- of a header with another name
line_of_header_differs : fault_line (fault.Table (codes "h.csv") (table.HeaderDiffers 65)) ≡ codes "table: h.csv: HeaderDiffers column 65\n"
unfolding digits
line_of_header_differs = refl

-- of a row with too few fields or too many
line_of_field_count : fault_line (fault.Table (codes "h.csv") (table.FieldCount 12 3)) ≡ codes "table: h.csv: FieldCount row 12 found 3\n"
unfolding digits
line_of_field_count = refl

-- of a field that is not UTF-8
line_of_not_utf8 : fault_line (fault.Table (codes "h.csv") (table.NotUtf8 0 2)) ≡ codes "table: h.csv: NotUtf8 row 0 column 2\n"
unfolding digits
line_of_not_utf8 = refl

-- of a cell that is no number
line_of_not_int : fault_line (fault.Table (codes "h.csv") (table.NotInt 3 10)) ≡ codes "table: h.csv: NotInt row 3 column 10\n"
unfolding digits
line_of_not_int = refl

-- of a file with too many rows
line_of_too_many_rows : fault_line (fault.Table (codes "h.csv") table.TooManyRows) ≡ codes "table: h.csv: TooManyRows\n"
unfolding digits
line_of_too_many_rows = refl

-- of a header without the column
line_of_no_column : fault_line (fault.Table (codes "h.csv") table.NoColumn) ≡ codes "table: h.csv: NoColumn\n"
unfolding digits
line_of_no_column = refl

-- of a header with too many columns
line_of_too_many_columns : fault_line (fault.Table (codes "h.csv") (table.TooManyColumns 65)) ≡ codes "table: h.csv: TooManyColumns found 65\n"
unfolding digits
line_of_too_many_columns = refl

-- the line of a script that is no text
line_of_script_not_utf8 : fault_line (fault.Script (script.NotUtf8 7)) ≡ codes "script: NotUtf8 at 7\n"
unfolding digits
line_of_script_not_utf8 = refl

-- of one that has no tokens
line_of_bad_byte : fault_line (fault.Script (script.Lex (lex.BadByte 0))) ≡ codes "script: lex BadByte at 0\n"
unfolding digits
line_of_bad_byte = refl

line_of_open_text : fault_line (fault.Script (script.Lex (lex.OpenText 7))) ≡ codes "script: lex OpenText at 7\n"
unfolding digits
line_of_open_text = refl

line_of_number_too_wide : fault_line (fault.Script (script.Lex (lex.NumberTooWide 1048557))) ≡ codes "script: lex NumberTooWide at 1048557\n"
unfolding digits
line_of_number_too_wide = refl

line_of_too_many_tokens : fault_line (fault.Script (script.Lex (lex.TooManyTokens 100000))) ≡ codes "script: lex TooManyTokens at 100000\n"
unfolding digits
line_of_too_many_tokens = refl

-- of one whose tokens are no statements
line_of_expected : fault_line (fault.Script (script.Parse (syntax.Expected 12))) ≡ codes "script: parse Expected at 12\n"
unfolding digits
line_of_expected = refl

line_of_too_deep : fault_line (fault.Script (script.Parse (syntax.TooDeep 292))) ≡ codes "script: parse TooDeep at 292\n"
unfolding digits
line_of_too_deep = refl

line_of_too_many_statements : fault_line (fault.Script (script.Parse (syntax.TooManyStatements 8000))) ≡ codes "script: parse TooManyStatements at 8000\n"
unfolding digits
line_of_too_many_statements = refl

line_of_not_in_profile : fault_line (fault.Script (script.Parse (syntax.NotInProfile 34))) ≡ codes "script: parse NotInProfile at 34\n"
unfolding digits
line_of_not_in_profile = refl

-- of a statement that breaks a rule
line_of_wrong_kind : fault_line (fault.Script (script.Bind why.WrongKind 174)) ≡ codes "script: bind WrongKind at 174\n"
unfolding digits
line_of_wrong_kind = refl

line_of_no_table : fault_line (fault.Script (script.Bind why.NoTable 0)) ≡ codes "script: bind NoTable at 0\n"
unfolding digits
line_of_no_table = refl

line_of_bad_divisor : fault_line (fault.Script (script.Bind why.BadDivisor 1048575)) ≡ codes "script: bind BadDivisor at 1048575\n"
unfolding digits
line_of_bad_divisor = refl

-- of one for whose name there is no room
line_of_full : fault_line (fault.Script (script.Room room.Full 637)) ≡ codes "script: catalogue Full at 637\n"
unfolding digits
line_of_full = refl

line_of_name_taken : fault_line (fault.Script (script.Room room.NameTaken 13)) ≡ codes "script: catalogue NameTaken at 13\n"
unfolding digits
line_of_name_taken = refl
