-- The places at which tokens are no script.
use Rattle.std.specs.Prelude.{ℕ, ◌≡◌, ◌+◌, ◌<◌, ◌≤◌, ◌⊎◌, Bool, true, false, List, [], ◌∷◌, ◌++◌, length, take, drop, if◌then◌else◌}
use Rattle.rs_grammar.specs.Kinds.{accepts, counted_kinds}
use Rattle.rs_grammar.specs.Grammar.{Tree, yield, Fits, Viable, script}
use Rattle.rs_grammar.specs.declared.kind.TokenKind.TheVariants.{Foreign, Semicolon}
use Rattle.rs_grammar.specs.declared.lexeme.Lexeme.{Lexeme}

-- the most tokens of a statement that count towards its depth
abbrev pub most_deep : ℕ
most_deep = 256

-- the most statements of a script
abbrev pub most_statements : ℕ
most_statements = 1000

abbrev pub is_semicolon : Lexeme → Bool
is_semicolon l = accepts (Semicolon ∷ []) l.kind

abbrev pub is_counted : Lexeme → Bool
is_counted l = accepts counted_kinds l.kind

-- how many tokens that count towards the depth stand behind the last `;`, where this many stand in front of the first token
abbrev pub tally_from : ℕ → List Lexeme → ℕ
tally_from n [] = n
tally_from n (l ∷ ls) = tally_from (if is_semicolon l then 0 else if is_counted l then n + 1 else n) ls

abbrev pub tally : List Lexeme → ℕ
tally ls = tally_from 0 ls

-- how many statements `;` ends
abbrev pub statements_ended : List Lexeme → ℕ
statements_ended [] = 0
statements_ended (l ∷ ls) = (if is_semicolon l then 1 else 0) + statements_ended ls

-- in front of the last token fewer statements end than a script may have
abbrev pub IsWithinStatements : List Lexeme → Type 0
IsWithinStatements ls = (i : ℕ) → i < length ls → statements_ended (take i ls) < most_statements

-- whether the first token is a word out of the profile
abbrev pub is_foreign : List Lexeme → Bool
is_foreign [] = false
is_foreign (l ∷ ls) = accepts (Foreign ∷ []) l.kind

-- tokens derive from the script's rule
abbrev pub IsScript : List Lexeme → Type 0
IsScript ls = (t : Tree) × Fits script t × (yield t ≡ ls)

-- the tokens in front of a place begin a script, and together with the one there they don't; at the end, they are no script
pub record IsUnexpected (ls : List Lexeme) (at : ℕ) : Type 0 where
  pub within : at ≤ length ls
  pub before : Viable script (take at ls)
  pub here : at < length ls → Viable script (take (at + 1) ls) → ⊥
  pub whole : at ≡ length ls → IsScript ls → ⊥

-- the 257th token of one statement that counts, where the tokens up to and with it begin a script
pub record IsTooDeep (ls : List Lexeme) (at : ℕ) : Type 0 where
  pub token : Lexeme
  pub behind : List Lexeme
  pub here : drop at ls ≡ token ∷ behind
  pub counts : is_counted token ≡ true
  pub full : tally (take at ls) ≡ most_deep
  pub viable : Viable script (take (at + 1) ls)

-- the token behind the `;` that ends statement 1,000
pub record IsTooMany (ls : List Lexeme) (at : ℕ) : Type 0 where
  pub within : at < length ls
  pub front : List Lexeme
  pub last : Lexeme
  pub before : take at ls ≡ front ++ last ∷ []
  pub ends : is_semicolon last ≡ true
  pub full : statements_ended (take at ls) ≡ most_statements
  pub viable : Viable script (take at ls)

-- what is wrong at a place
pub data Problem : Type 0 where
  Unexpected Foreigner TooDeep TooMany : Problem

abbrev pub ProblemStands : List Lexeme → Problem → ℕ → Type 0
ProblemStands ls Unexpected at = IsUnexpected ls at × (is_foreign (drop at ls) ≡ false)
ProblemStands ls Foreigner at = IsUnexpected ls at × (is_foreign (drop at ls) ≡ true)
ProblemStands ls TooDeep at = IsTooDeep ls at
ProblemStands ls TooMany at = IsTooMany ls at

-- which of two problems at one place is told
abbrev pub order_of : Problem → ℕ
order_of TooMany = 0
order_of Unexpected = 1
order_of Foreigner = 1
order_of TooDeep = 2

-- the first problem: it stands at the smallest place at which one does. Of those at that place too many statements come
-- first, then what isn't expected or isn't part of the language, and then too deep
pub record IsRefused (ls : List Lexeme) (problem : Problem) (at : ℕ) : Type 0 where
  pub stands : ProblemStands ls problem at
  pub least : (other : Problem) (place : ℕ) → ProblemStands ls other place → (at < place) ⊎ ((at ≡ place) × (order_of problem ≤ order_of other))
