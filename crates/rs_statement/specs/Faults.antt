-- What ends a run early: its line on standard error.
use Rattle.std.specs.Prelude.{ℕ, ◌==◌, not, List, [], ◌∷◌, ◌++◌, Result, Ok, Err, codes}
use Rattle.std.specs.List.{filter}
use Rattle.std.specs.Fmt.{decimal, signed_decimal}
use Rattle.rs_outside.specs.declared.files.FetchFault.{FetchFault}
use Rattle.rs_outside.specs.declared.files.FetchFault.TheVariants as fetch
use Rattle.rs_table.specs.declared.fault.TableFault.{TableFault}
use Rattle.rs_table.specs.declared.fault.TableFault.TheVariants as table
use Rattle.rs_lex.specs.declared.fault.LexFault.{LexFault}
use Rattle.rs_lex.specs.declared.fault.LexFault.TheVariants as lex
use Rattle.rs_syntax.specs.declared.fault.SyntaxFault.{SyntaxFault}
use Rattle.rs_syntax.specs.declared.fault.SyntaxFault.TheVariants as syntax
use Rattle.rs_catalog.specs.declared.index.IndexFault.{IndexFault}
use Rattle.rs_catalog.specs.declared.index.IndexFault.TheVariants as index
use Rattle.rs_catalog.specs.declared.room.RoomFault.{RoomFault}
use Rattle.rs_catalog.specs.declared.room.RoomFault.TheVariants as room
use Rattle.rs_typing.specs.declared.fault.Why.{Why}
use Rattle.rs_typing.specs.declared.fault.Why.TheVariants as why
use Rattle.rs_statement.specs.declared.fault.Fault.{Fault}
use Rattle.rs_statement.specs.declared.fault.Fault.TheVariants as fault
use Rattle.rs_statement.specs.declared.fault.SessionFault.{SessionFault}
use Rattle.rs_statement.specs.declared.fault.SessionFault.TheVariants as session
use Rattle.rs_statement.specs.declared.script_fault.ScriptFault.{ScriptFault}
use Rattle.rs_statement.specs.declared.script_fault.ScriptFault.TheVariants as script

-- the fault of a run whose script the lexer refuses, or the parser. Want of memory is none of a script
abbrev pub lex_fault : LexFault → Fault
lex_fault lex.Memory = fault.Memory
lex_fault (lex.BadByte at) = fault.Script (script.Lex (lex.BadByte at))
lex_fault (lex.OpenText at) = fault.Script (script.Lex (lex.OpenText at))
lex_fault (lex.NumberTooWide at) = fault.Script (script.Lex (lex.NumberTooWide at))
lex_fault (lex.TooManyTokens at) = fault.Script (script.Lex (lex.TooManyTokens at))

abbrev pub parse_fault : SyntaxFault → Fault
parse_fault syntax.Memory = fault.Memory
parse_fault (syntax.Expected at) = fault.Script (script.Parse (syntax.Expected at))
parse_fault (syntax.TooDeep at) = fault.Script (script.Parse (syntax.TooDeep at))
parse_fault (syntax.TooManyStatements at) = fault.Script (script.Parse (syntax.TooManyStatements at))
parse_fault (syntax.NotInProfile at) = fault.Script (script.Parse (syntax.NotInProfile at))

-- the row numbers of six entries, of which only the first one has a row
abbrev pub only : ℕ → List ℕ
only row = row ∷ 0 ∷ 0 ∷ 0 ∷ 0 ∷ 0 ∷ []

-- the fault of a run in which the rows of a table aren't ranked, by this predicate or by the numbers in this column
abbrev pub index_fault : List ℕ → IndexFault → Fault
index_fault predicate (index.BadScore row got max) = fault.BadScore predicate (only row) got max
index_fault predicate index.Probe = fault.Probe predicate
index_fault predicate index.Memory = fault.Memory

abbrev pub or_index_fault : {A : Type 0} → List ℕ → Result A IndexFault → Result A Fault
or_index_fault predicate (Ok a) = Ok a
or_index_fault predicate (Err why) = Err (index_fault predicate why)

-- why a file was not read
abbrev pub fetch_text : FetchFault → List ℕ
fetch_text fetch.Missing = codes "missing"
fetch_text fetch.TooLong = codes "too long"
fetch_text fetch.Failed = codes "failed"
fetch_text fetch.Memory = codes "memory"

-- why a file is no table
abbrev pub table_text : TableFault → List ℕ
table_text table.NoHeader = codes "NoHeader"
table_text (table.HeaderDiffers column) = codes "HeaderDiffers column " ++ decimal column
table_text (table.FieldCount row found) = codes "FieldCount row " ++ decimal row ++ codes " found " ++ decimal found
table_text (table.NotUtf8 row column) = codes "NotUtf8 row " ++ decimal row ++ codes " column " ++ decimal column
table_text (table.NotInt row column) = codes "NotInt row " ++ decimal row ++ codes " column " ++ decimal column
table_text table.TooManyRows = codes "TooManyRows"
table_text table.Memory = codes "memory"
table_text table.NoColumn = codes "NoColumn"
table_text (table.TooManyColumns found) = codes "TooManyColumns found " ++ decimal found

-- why a script has no tokens. Want of memory has a text too, though no fault of a run is such
abbrev pub lex_text : LexFault → List ℕ
lex_text (lex.BadByte at) = codes "BadByte at " ++ decimal at
lex_text (lex.OpenText at) = codes "OpenText at " ++ decimal at
lex_text (lex.NumberTooWide at) = codes "NumberTooWide at " ++ decimal at
lex_text (lex.TooManyTokens at) = codes "TooManyTokens at " ++ decimal at
lex_text lex.Memory = codes "memory"

-- why tokens are no statements, and the same of want of memory
abbrev pub parse_text : SyntaxFault → List ℕ
parse_text (syntax.Expected at) = codes "Expected at " ++ decimal at
parse_text (syntax.TooDeep at) = codes "TooDeep at " ++ decimal at
parse_text (syntax.TooManyStatements at) = codes "TooManyStatements at " ++ decimal at
parse_text (syntax.NotInProfile at) = codes "NotInProfile at " ++ decimal at
parse_text syntax.Memory = codes "memory"

-- the rule that a statement breaks
abbrev pub why_text : Why → List ℕ
why_text why.NoTable = codes "NoTable"
why_text why.NoColumn = codes "NoColumn"
why_text why.Ambiguous = codes "Ambiguous"
why_text why.NoPredicate = codes "NoPredicate"
why_text why.WrongKind = codes "WrongKind"
why_text why.WrongCount = codes "WrongCount"
why_text why.NameTwice = codes "NameTwice"
why_text why.TooWide = codes "TooWide"
why_text why.DistinctNeedsOutput = codes "DistinctNeedsOutput"
why_text why.SetColumnsDiffer = codes "SetColumnsDiffer"
why_text why.LimitOf = codes "LimitOf"
why_text why.ConstantTerm = codes "ConstantTerm"
why_text why.BadDivisor = codes "BadDivisor"

-- why the catalogue has no room for a name
abbrev pub room_text : RoomFault → List ℕ
room_text room.NameTaken = codes "NameTaken"
room_text room.Full = codes "Full"

-- why a session refuses the name of a cursor
abbrev pub session_text : SessionFault → List ℕ
session_text session.NameTaken = codes "NameTaken"
session_text session.Unknown = codes "Unknown"
session_text session.Full = codes "Full"

-- why a script ends
abbrev pub script_text : ScriptFault → List ℕ
script_text (script.NotUtf8 at) = codes "NotUtf8 at " ++ decimal at
script_text (script.Lex why) = codes "lex " ++ lex_text why
script_text (script.Parse why) = codes "parse " ++ parse_text why
script_text (script.Bind why at) = codes "bind " ++ why_text why ++ codes " at " ++ decimal at
script_text (script.Room why at) = codes "catalogue " ++ room_text why ++ codes " at " ++ decimal at

-- the row numbers without the zeros, which stand for no row
abbrev pub numbers_of : List ℕ → List ℕ
numbers_of rows = filter (λ row. not (row == 0)) rows

-- numbers in decimal, with one space between
abbrev pub spaced : List ℕ → List ℕ
spaced [] = []
spaced (number ∷ []) = decimal number
spaced (number ∷ next ∷ rest) = decimal number ++ 32 ∷ spaced (next ∷ rest)

-- what a fault's line says
abbrev pub fault_text : Fault → List ℕ
fault_text fault.Memory = codes "memory"
fault_text (fault.Read name why) = codes "read: " ++ name ++ codes ": " ++ fetch_text why
fault_text fault.Write = codes "write"
fault_text (fault.Table name why) = codes "table: " ++ name ++ codes ": " ++ table_text why
fault_text (fault.BadScore predicate rows got max) =
    codes "score: " ++ predicate ++ codes " rows " ++ spaced (numbers_of rows) ++ codes ": " ++ signed_decimal got ++ codes " is not in 0.." ++ decimal max
fault_text (fault.Probe predicate) = codes "probe: " ++ predicate
fault_text (fault.Script why) = codes "script: " ++ script_text why
fault_text (fault.Session why name) = codes "session: " ++ session_text why ++ codes " " ++ name

-- the line of a fault
abbrev pub fault_line : Fault → List ℕ
fault_line fault = fault_text fault ++ 10 ∷ []
