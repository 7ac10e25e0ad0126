-- Lexemes, computed on literals.
use Rattle.std.proofs.Common.{ℕ, ◌≡◌, List, [], ◌∷◌, map, refl}
use Rattle.std.specs.Prelude.{pos, codes}
use Rattle.rs_lex.specs.Spelling.{token_at}
use Rattle.rs_lex.specs.declared.token.Sort.TheVariants as sort
use Rattle.rs_grammar.specs.Lexemes.{words, symbols, token_kind, undoubled, lexeme_of}
use Rattle.rs_grammar.specs.declared.kind.TokenKind.{TokenKind}
use Rattle.rs_grammar.specs.declared.kind.TokenKind.TheVariants.{Foreign, Insert, Select, From, Order, By, Rank, Integer, Analyze, Into, Values, Name, Number, Literal, OpenBracket, CloseBracket, Semicolon, Star, NotEqual, Less, LessEqual, Greater}
use Rattle.rs_grammar.specs.declared.lexeme.Lexeme.{Lexeme}

-- a token that says nothing, and a name
abbrev mark : TokenKind → ℕ → ℕ → Lexeme
mark kind start end = record { kind = kind; text = []; number = pos 0; at = record { start = start; end = end } }

abbrev name : TokenKind → List ℕ → ℕ → ℕ → Lexeme
name kind text start end = record { kind = kind; text = text; number = pos 0; at = record { start = start; end = end } }

-- a query: what is reserved says nothing, what the profile leaves out is foreign
query : map (lexeme_of (codes "SELECT * FROM h ORDER BY p(price) ASC;"))
    (token_at 0 sort.Word 6 ∷ token_at 7 sort.Symbol 1 ∷ token_at 9 sort.Word 4 ∷ token_at 14 sort.Word 1 ∷ token_at 16 sort.Word 5 ∷ token_at 22 sort.Word 2
    ∷ token_at 25 sort.Word 1 ∷ token_at 26 sort.Symbol 1 ∷ token_at 27 sort.Word 5 ∷ token_at 32 sort.Symbol 1 ∷ token_at 34 sort.Word 3 ∷ token_at 37 sort.Symbol 1 ∷ [])
    ≡ mark Select 0 6 ∷ mark Star 7 8 ∷ mark From 9 13 ∷ name Name (codes "h") 14 15 ∷ mark Order 16 21 ∷ mark By 22 24
    ∷ name Name (codes "p") 25 26 ∷ mark OpenBracket 26 27 ∷ name Name (codes "price") 27 32 ∷ mark CloseBracket 32 33 ∷ mark Foreign 34 37 ∷ mark Semicolon 37 38 ∷ []
unfolding words symbols
query = refl

-- a reserved word in any case, whose text is empty
reserved_in_any_case : map (lexeme_of (codes "Select sELECT")) (token_at 0 sort.Word 6 ∷ token_at 7 sort.Word 6 ∷ []) ≡ mark Select 0 6 ∷ mark Select 7 13 ∷ []
unfolding words
reserved_in_any_case = refl

-- a keyword keeps its text, with its case
keyword : map (lexeme_of (codes "rank Integer ANALYZE")) (token_at 0 sort.Word 4 ∷ token_at 5 sort.Word 7 ∷ token_at 13 sort.Word 7 ∷ [])
    ≡ name Rank (codes "rank") 0 4 ∷ name Integer (codes "Integer") 5 12 ∷ name Analyze (codes "ANALYZE") 13 20 ∷ []
unfolding words
keyword = refl

-- INSERT is reserved, INTO and VALUES are keywords
insert : map (lexeme_of (codes "insert Into VALUES")) (token_at 0 sort.Word 6 ∷ token_at 7 sort.Word 4 ∷ token_at 12 sort.Word 6 ∷ [])
    ≡ mark Insert 0 6 ∷ name Into (codes "Into") 7 11 ∷ name Values (codes "VALUES") 12 18 ∷ []
unfolding words
insert = refl

-- a word that only begins or ends with a reserved one is a name
longer_words : map (token_kind sort.Word) (codes "selected" ∷ codes "_select" ∷ codes "selec" ∷ codes "r_nk" ∷ []) ≡ Name ∷ Name ∷ Name ∷ Name ∷ []
unfolding words
longer_words = refl

-- between marks a reserved word is a name
reserved_between_marks : lexeme_of (codes "\"select\"") (token_at 0 sort.Quoted 8) ≡ name Name (codes "select") 0 8
reserved_between_marks = refl

-- a doubled mark is one
literal_with_a_mark : lexeme_of (codes "'a''b'") (token_at 0 sort.Literal 6) ≡ name Literal (codes "a'b") 0 6
literal_with_a_mark = refl

name_with_a_mark : lexeme_of (codes "\"x\"\"y\"") (token_at 0 sort.Quoted 6) ≡ name Name (codes "x\"y") 0 6
name_with_a_mark = refl

only_marks : lexeme_of (codes "''''''") (token_at 0 sort.Literal 6) ≡ name Literal (codes "''") 0 6
only_marks = refl

-- the other mark is a byte like each other
other_mark : lexeme_of (codes "'a\"\"b'") (token_at 0 sort.Literal 6) ≡ name Literal (codes "a\"\"b") 0 6
other_mark = refl

empty_literal : lexeme_of (codes " ''") (token_at 1 sort.Literal 2) ≡ name Literal [] 1 3
empty_literal = refl

-- `é` is C3 A9
beyond_ascii : lexeme_of (39 ∷ 0xc3 ∷ 0xa9 ∷ 39 ∷ 39 ∷ 39 ∷ []) (token_at 0 sort.Literal 6) ≡ name Literal (0xc3 ∷ 0xa9 ∷ 39 ∷ []) 0 6
beyond_ascii = refl

long_text : undoubled 39 (codes "The quick brown fox doesn''t jump over the lazy dog, which doesn''t mind.") ≡ codes "The quick brown fox doesn't jump over the lazy dog, which doesn't mind."
long_text = refl

-- comparisons
comparisons : map (token_kind sort.Symbol) (codes "<>" ∷ codes "!=" ∷ codes "<" ∷ codes "<=" ∷ codes ">" ∷ []) ≡ NotEqual ∷ NotEqual ∷ Less ∷ LessEqual ∷ Greater ∷ []
unfolding symbols
comparisons = refl

-- a number with leading zeros, and the greatest one
leading_zeros : lexeme_of (codes "007") (token_at 0 sort.Number 3) ≡ record { kind = Number; text = []; number = pos 7; at = record { start = 0; end = 3 } }
leading_zeros = refl

greatest_number : lexeme_of (codes "4000000000000000000") (token_at 0 sort.Number 19) ≡ record { kind = Number; text = []; number = pos 4000000000000000000; at = record { start = 0; end = 19 } }
greatest_number = refl
