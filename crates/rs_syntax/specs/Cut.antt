-- Where the parser ends, and what it tells.
use Rattle.std.specs.Prelude.{ℕ, ◌≡◌, Bool, true, List, [], ◌∷◌, ◌++◌, if◌then◌else◌}
use Rattle.rs_grammar.specs.Kinds.{accepts}
use Rattle.rs_grammar.specs.Places.{is_semicolon, statements_ended, most_statements}
use Rattle.rs_grammar.specs.declared.kind.TokenKind.TheVariants.{Foreign}
use Rattle.rs_grammar.specs.declared.lexeme.Lexeme.{Lexeme}
use Rattle.rs_lex.specs.declared.token.Token.{Token}
use Rattle.rs_syntax.specs.declared.fault.SyntaxFault.{SyntaxFault}
use Rattle.rs_syntax.specs.declared.fault.SyntaxFault.TheVariants as fault

-- the last token is the `;` that ends the last statement that a script may have
pub record EndsLast (kept : List Lexeme) : Type 0 where
  pub front : List Lexeme
  pub last : Lexeme
  pub is : kept ≡ front ++ last ∷ []
  pub ends : is_semicolon last ≡ true
  pub full : statements_ended kept ≡ most_statements

-- what is told where the parser can't go on at its next token, or behind the tokens that it was given
abbrev pub refusal_of : List Lexeme → List Token → ℕ → Bool → SyntaxFault
refusal_of (l ∷ ls) more end is_too_deep =
    if is_too_deep then fault.TooDeep l.at.start else if accepts (Foreign ∷ []) l.kind then fault.NotInProfile l.at.start else fault.Expected l.at.start
refusal_of [] [] end is_too_deep = fault.Expected end
refusal_of [] (token ∷ more) end is_too_deep = fault.TooManyStatements token.at.start
