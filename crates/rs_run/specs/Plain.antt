-- Scripts: the statements of a file, one after another.
use Rattle.std.specs.Prelude.{ℕ, ◌≡◌, ◌≤◌, List, [], ◌∷◌, length, take, drop, Option, Result, Ok, Err, if◌then◌else◌}
use Rattle.std.specs.Str.{bytes_eq}
use Rattle.rs_value.specs.Text.{text_of}
use Rattle.rs_value.specs.declared.text.TextFault.{TextFault}
use Rattle.rs_value.specs.declared.text.TextFault.TheVariants as text
use Rattle.rs_value.specs.Results.{◌>>=◌}
use Rattle.rs_lex.specs.Spelling as lex
use Rattle.rs_lex.specs.declared.fault.LexFault.{LexFault}
use Rattle.rs_lex.specs.declared.token.Token.{Token}
use Rattle.rs_syntax.specs.Scripts.{IsSound, Parses, Refuses}
use Rattle.rs_syntax.specs.Syntax.{Command}
use Rattle.rs_syntax.specs.declared.fault.SyntaxFault.{SyntaxFault}
use Rattle.rs_statement.specs.declared.fault.Fault.{Fault}
use Rattle.rs_statement.specs.declared.fault.Fault.TheVariants.{Memory, Script}
use Rattle.rs_statement.specs.declared.script_fault.ScriptFault.TheVariants.{NotUtf8, Lex, Parse}
use Rattle.rs_statement.specs.Content.{content_of}
use Rattle.rs_events.specs.Events.{Fetch}
use Rattle.rs_outside.specs.Files.{Finds}
use Rattle.rs_events.specs.Run.{Run, behind, fails}

-- the most bytes of a script's file, a byte order mark counted
abbrev pub script_limit : ℕ
script_limit = 1048576

abbrev pub byte_order_mark : List ℕ
byte_order_mark = 239 ∷ 187 ∷ 191 ∷ []

-- bytes behind one byte order mark, where they begin with one
abbrev pub without_mark : List ℕ → List ℕ
without_mark bytes = if bytes_eq (take 3 bytes) byte_order_mark then drop 3 bytes else bytes

-- bytes that are no text end the run; `text_of` never answers that there was no memory
abbrev pub or_text_fault : Result (List ℕ) TextFault → Result (List ℕ) Fault
or_text_fault (Ok script) = Ok script
or_text_fault (Err (text.NotUtf8 at)) = Err (Script (NotUtf8 at))
or_text_fault (Err text.Memory) = Err Memory

-- the text of a script's file behind a byte order mark, or why there is none
abbrev pub source_of : List ℕ → Option (List ℕ) → Result (List ℕ) Fault
source_of name there = do
  bytes ← content_of script_limit name there
  or_text_fault (text_of (without_mark bytes))

-- the text of a script is made of these tokens, which are few enough
pub record HasTokens (script : List ℕ) (tokens : List Token) : Type 0 where
  pub spells : lex.Spells 0 script tokens
  pub few : length tokens ≤ lex.most_tokens

-- the text of a script is made of these statements
pub record HasStatements (script : List ℕ) (commands : List Command) : Type 0 where
  pub tokens : List Token
  pub lexed : HasTokens script tokens
  pub parsed : Parses script tokens commands
  pub sound : IsSound script tokens

-- what the text of a script does: the lexer comes first, then the parser, and then the statements, which have these runs. A fault of the text is told so,
-- whatever the type of faults of the statements
pub data TextRuns {F : Type 0} (told : Fault → F) (statements : List Command → Run F → Type 0) (script : List ℕ) : Run F → Type 0 where
  unlexed : (fault : LexFault) → lex.RefusesBytes 0 0 script fault → TextRuns told statements script (fails (told (Script (Lex fault))))
  unparsed : (tokens : List Token) (fault : SyntaxFault) → HasTokens script tokens → Refuses script tokens fault → TextRuns told statements script (fails (told (Script (Parse fault))))
  runs : (commands : List Command) (run : Run F) → HasStatements script commands → statements commands run → TextRuns told statements script run

-- what a script does: its file is fetched first
pub data ScriptRuns {F : Type 0} (told : Fault → F) (finds : Finds) (statements : List Command → Run F → Type 0) (name : List ℕ) : Run F → Type 0 where
  unread : (there : Option (List ℕ)) (fault : Fault) → finds name there → source_of name there ≡ Err fault → ScriptRuns told finds statements name (behind (Fetch name ∷ []) (fails (told fault)))
  read : (there : Option (List ℕ)) (script : List ℕ) (run : Run F) → finds name there → source_of name there ≡ Ok script → TextRuns told statements script run
      → ScriptRuns told finds statements name (behind (Fetch name ∷ []) run)

-- a fault told as it is
abbrev pub as_it_is : Fault → Fault
as_it_is fault = fault
