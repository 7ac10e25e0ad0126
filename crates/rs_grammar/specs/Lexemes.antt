-- What a token of a script is to the grammar: its kind, its text and its number.
use Rattle.std.specs.Prelude.{ℕ, ℤ, pos, ◌≡◌, ◌-◌, ◌≤◌, ◌==◌, ◌&&◌, List, [], ◌∷◌, ◌++◌, length, take, drop, codes, if◌then◌else◌}
use Rattle.std.specs.Str.{str_eq_ignore_ascii_case}
use Rattle.rs_value.specs.Number.{number_of}
use Rattle.rs_lex.specs.Bytes.{quote, apostrophe}
use Rattle.rs_lex.specs.Front.{front_of}
use Rattle.rs_lex.specs.Spelling.{Spells}
use Rattle.rs_lex.specs.declared.front.Front.TheVariants.{Found}
use Rattle.rs_lex.specs.declared.token.Sort.{Sort}
use Rattle.rs_lex.specs.declared.token.Sort.TheVariants.{Word, Quoted, Number, Literal, Symbol}
use Rattle.rs_lex.specs.declared.token.Span.{Span}
use Rattle.rs_lex.specs.declared.token.Token.{Token}
use Rattle.rs_grammar.specs.Kinds.{accepts, names}
use Rattle.rs_grammar.specs.declared.kind.TokenKind.{TokenKind}
use Rattle.rs_grammar.specs.declared.kind.TokenKind.TheVariants as kind
use Rattle.rs_grammar.specs.declared.lexeme.Lexeme.{Lexeme}

-- the piece of a script from one place up to another
abbrev pub piece : List ℕ → Span → List ℕ
piece script at = take (at.end - at.start) (drop at.start script)

-- the words that mean something: the reserved ones, those that this profile leaves out, and the keywords
unfoldable pub words : List (List ℕ × TokenKind)
words =
    (codes "ALL", kind.All) ∷ (codes "AND", kind.And) ∷ (codes "AS", kind.As) ∷ (codes "BY", kind.By) ∷ (codes "CASE", kind.Case)
    ∷ (codes "CLOSE", kind.Close) ∷ (codes "CREATE", kind.Create) ∷ (codes "DECLARE", kind.Declare) ∷ (codes "DESC", kind.Desc)
    ∷ (codes "DISTINCT", kind.Distinct) ∷ (codes "ELSE", kind.Else) ∷ (codes "END", kind.End) ∷ (codes "EXCEPT", kind.Except)
    ∷ (codes "EXPLAIN", kind.Explain) ∷ (codes "FETCH", kind.Fetch) ∷ (codes "FOR", kind.For) ∷ (codes "FROM", kind.From)
    ∷ (codes "INSERT", kind.Insert) ∷ (codes "INTERSECT", kind.Intersect) ∷ (codes "LIMIT", kind.Limit) ∷ (codes "NOT", kind.Not) ∷ (codes "ON", kind.On)
    ∷ (codes "OR", kind.Or) ∷ (codes "ORDER", kind.Order) ∷ (codes "SELECT", kind.Select) ∷ (codes "THEN", kind.Then)
    ∷ (codes "UNION", kind.Union) ∷ (codes "WHEN", kind.When) ∷ (codes "WHERE", kind.Where)
    ∷ (codes "ASC", kind.Foreign) ∷ (codes "BETWEEN", kind.Foreign) ∷ (codes "DELETE", kind.Foreign) ∷ (codes "DROP", kind.Foreign)
    ∷ (codes "EXISTS", kind.Foreign) ∷ (codes "FULL", kind.Foreign) ∷ (codes "GROUP", kind.Foreign) ∷ (codes "HAVING", kind.Foreign)
    ∷ (codes "IN", kind.Foreign) ∷ (codes "INNER", kind.Foreign) ∷ (codes "IS", kind.Foreign)
    ∷ (codes "JOIN", kind.Foreign) ∷ (codes "LEFT", kind.Foreign) ∷ (codes "LIKE", kind.Foreign) ∷ (codes "NULL", kind.Foreign)
    ∷ (codes "OFFSET", kind.Foreign) ∷ (codes "OUTER", kind.Foreign) ∷ (codes "RIGHT", kind.Foreign) ∷ (codes "UPDATE", kind.Foreign)
    ∷ (codes "WITH", kind.Foreign)
    ∷ (codes "TABLE", kind.Table) ∷ (codes "PREDICATE", kind.Predicate) ∷ (codes "RANK", kind.Rank) ∷ (codes "INDEX", kind.Index)
    ∷ (codes "INT", kind.Int) ∷ (codes "INTEGER", kind.Integer) ∷ (codes "TEXT", kind.Text) ∷ (codes "MAX", kind.Max)
    ∷ (codes "MIN", kind.Min) ∷ (codes "ABS", kind.Abs) ∷ (codes "COST", kind.Cost) ∷ (codes "CURSOR", kind.Cursor)
    ∷ (codes "ANALYZE", kind.Analyze) ∷ (codes "INTO", kind.Into) ∷ (codes "VALUES", kind.Values) ∷ []

-- the symbols; `!=` is read as `<>`
unfoldable pub symbols : List (List ℕ × TokenKind)
symbols =
    (codes "(", kind.OpenBracket) ∷ (codes ")", kind.CloseBracket) ∷ (codes ",", kind.Comma) ∷ (codes ";", kind.Semicolon)
    ∷ (codes ".", kind.Dot) ∷ (codes "+", kind.Plus) ∷ (codes "-", kind.Minus) ∷ (codes "*", kind.Star) ∷ (codes "/", kind.Slash)
    ∷ (codes "=", kind.Equal) ∷ (codes "<>", kind.NotEqual) ∷ (codes "!=", kind.NotEqual) ∷ (codes "<", kind.Less)
    ∷ (codes "<=", kind.LessEqual) ∷ (codes ">", kind.Greater) ∷ (codes ">=", kind.GreaterEqual) ∷ []

-- the kind of a word in a table, where A to Z are the same as a to z; a word that isn't there is a name
abbrev pub kind_in : List (List ℕ × TokenKind) → List ℕ → TokenKind
kind_in [] word = kind.Name
kind_in (entry ∷ rest) word = if str_eq_ignore_ascii_case entry.0 word then entry.1 else kind_in rest word

-- the kind of a token
abbrev pub token_kind : Sort → List ℕ → TokenKind
token_kind Word bytes = kind_in words bytes
token_kind Quoted bytes = kind.Name
token_kind Number bytes = kind.Number
token_kind Literal bytes = kind.Literal
token_kind Symbol bytes = kind_in symbols bytes

-- the bytes between the marks at both ends
abbrev pub between : List ℕ → List ℕ
between bytes = take (length bytes - 2) (drop 1 bytes)

-- bytes with each doubled mark made one
abbrev pub undoubled : ℕ → List ℕ → List ℕ
undoubled mark [] = []
undoubled mark (byte ∷ []) = byte ∷ []
undoubled mark (byte ∷ next ∷ rest) =
    if (byte == mark) && (next == mark) then byte ∷ undoubled mark rest else byte ∷ undoubled mark (next ∷ rest)

-- what a name or a text says
abbrev pub token_text : Sort → List ℕ → List ℕ
token_text Word bytes = if accepts names (token_kind Word bytes) then bytes else []
token_text Quoted bytes = undoubled quote (between bytes)
token_text Number bytes = []
token_text Literal bytes = undoubled apostrophe (between bytes)
token_text Symbol bytes = []

-- the value of a number
abbrev pub value_of : Sort → List ℕ → ℤ
value_of Word bytes = pos 0
value_of Quoted bytes = pos 0
value_of Number bytes = pos (number_of bytes)
value_of Literal bytes = pos 0
value_of Symbol bytes = pos 0

-- what a token of a script is to the grammar: its kind, the text that a name or a text says, the value of a number, and
-- its place
abbrev pub lexeme_of : List ℕ → Token → Lexeme
lexeme_of script token =
    let bytes = piece script token.at in
    record { kind = token_kind token.sort bytes; text = token_text token.sort bytes; number = value_of token.sort bytes; at = token.at }

-- a token stands in a script: it is what the bytes from its start on begin with
pub record IsTokenOf (script : List ℕ) (token : Token) : Type 0 where
  pub ordered : token.at.start ≤ token.at.end
  pub within : token.at.end ≤ length script
  pub found : front_of (drop token.at.start script) ≡ Found token.sort (token.at.end - token.at.start)

-- tokens are the first ones of those that a script spells
pub record IsFront (script : List ℕ) (tokens : List Token) : Type 0 where
  pub more : List Token
  pub spelled : Spells 0 script (tokens ++ more)
