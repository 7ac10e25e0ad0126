-- The statements that the tokens of a script parse to, and the place at which they parse to none.
use Rattle.std.specs.Prelude.{ℕ, ◌≡◌, List, [], ◌∷◌, length, drop, map}
use Rattle.rs_grammar.specs.Grammar.{Tree, Fits, yield, script}
use Rattle.rs_grammar.specs.Lexemes.{lexeme_of}
use Rattle.rs_grammar.specs.Places.{Problem, Unexpected, Foreigner, TooDeep, TooMany, ProblemStands, IsRefused}
use Rattle.rs_grammar.specs.declared.lexeme.Lexeme.{Lexeme}
use Rattle.rs_lex.specs.declared.token.Token.{Token}
use Rattle.rs_syntax.specs.Statements.{script_of}
use Rattle.rs_syntax.specs.Syntax.{Command}
use Rattle.rs_syntax.specs.declared.fault.SyntaxFault.{SyntaxFault}
use Rattle.rs_syntax.specs.declared.fault.SyntaxFault.TheVariants as fault

-- the tokens of a script as the grammar sees them
abbrev pub lexemes_of : List ℕ → List Token → List Lexeme
lexemes_of text tokens = map (lexeme_of text) tokens

-- the tokens of a script parse to these statements: a tree derives them from the grammar, and stands for the statements
pub record Parses (text : List ℕ) (tokens : List Token) (commands : List Command) : Type 0 where
  pub tree : Tree
  pub fits : Fits script tree
  pub spells : yield tree ≡ lexemes_of text tokens
  pub means : script_of tree ≡ commands

-- nothing is wrong with the tokens of a script: each limit is kept, and the grammar is
abbrev pub IsSound : List ℕ → List Token → Type 0
IsSound text tokens = (problem : Problem) (at : ℕ) → ProblemStands (lexemes_of text tokens) problem at → ⊥

-- the byte at which a token starts; behind the last one, the length of the script
abbrev pub byte_in : List ℕ → List Lexeme → ℕ
byte_in text [] = length text
byte_in text (l ∷ ls) = l.at.start

-- the byte at which a token starts; behind the last one, the length of the script
abbrev pub byte_at : List ℕ → List Token → ℕ → ℕ
byte_at text tokens at = byte_in text (drop at (lexemes_of text tokens))

-- what is told of a problem
abbrev pub fault_of : Problem → ℕ → SyntaxFault
fault_of Unexpected byte = fault.Expected byte
fault_of Foreigner byte = fault.NotInProfile byte
fault_of TooDeep byte = fault.TooDeep byte
fault_of TooMany byte = fault.TooManyStatements byte

-- the tokens of a script are refused with this fault: it tells the first problem and its place
pub record Refuses (text : List ℕ) (tokens : List Token) (fault : SyntaxFault) : Type 0 where
  pub problem : Problem
  pub at : ℕ
  pub refused : IsRefused (lexemes_of text tokens) problem at
  pub tells : fault_of problem (byte_at text tokens at) ≡ fault
