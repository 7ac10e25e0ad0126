-- What a token is, and what stands between tokens, said of their bytes alone.
use Rattle.std.specs.Prelude.{ℕ, ◌≡◌, ◌<◌, ◌≤◌, ◌-◌, ◌==◌, ◌&&◌, ◌++◌, ◌⊎◌, Bool, false, not, IsTrue, Contains, List, [], ◌∷◌, codes, length, take, drop, if◌then◌else◌}
use Rattle.std.specs.List.{list_all}
use Rattle.rs_value.specs.Number.{number_of, are_digits, greatest_int}
use Rattle.rs_lex.specs.Bytes.{is_letter, is_word_byte, is_blank, begins, quote, apostrophe}
use Rattle.rs_lex.specs.declared.token.Sort.{Sort}
use Rattle.rs_lex.specs.declared.token.Sort.TheVariants.{Word, Quoted, Number, Literal, Symbol}
use Rattle.rs_lex.specs.declared.token.Token.{Token}

-- a letter or `_`, and then letters, digits and `_`
abbrev pub is_word : List ℕ → Bool
is_word [] = false
is_word (byte ∷ rest) = is_letter byte && list_all is_word_byte rest

-- all symbols
abbrev pub symbols : List (List ℕ)
symbols =
    codes "(" ∷ codes ")" ∷ codes "," ∷ codes ";" ∷ codes "." ∷ codes "+" ∷ codes "-" ∷ codes "*" ∷ codes "/"
    ∷ codes "=" ∷ codes "<>" ∷ codes "!=" ∷ codes "<" ∷ codes "<=" ∷ codes ">" ∷ codes ">=" ∷ []

-- a text in which each mark is doubled
abbrev pub doubled : ℕ → List ℕ → List ℕ
doubled mark [] = []
doubled mark (byte ∷ rest) = if byte == mark then byte ∷ byte ∷ doubled mark rest else byte ∷ doubled mark rest

-- a text between two marks, each mark in it doubled
abbrev pub between : ℕ → List ℕ → List ℕ
between mark text = mark ∷ (doubled mark text ++ (mark ∷ []))

-- these bytes are a token of this sort, said without `front_of`: a word; a name or a text between its marks, of which a
-- name has a character; digits of at most 4,000,000,000,000,000,000; or a symbol
abbrev pub IsToken : Sort → List ℕ → Type 0
IsToken Word bytes = IsTrue (is_word bytes)
IsToken Quoted bytes = (name : List ℕ) × (0 < length name) × (bytes ≡ between quote name)
IsToken Number bytes = IsTrue (are_digits bytes) × (number_of bytes ≤ greatest_int)
IsToken Literal bytes = (text : List ℕ) × (bytes ≡ between apostrophe text)
IsToken Symbol bytes = Contains symbols bytes

-- what remains of a script from a token on, where `bytes` are those from the place `at` on
abbrev pub from_token : ℕ → List ℕ → Token → List ℕ
from_token at bytes token = drop (token.at.start - at) bytes

-- how many bytes a token has
abbrev pub token_length : Token → ℕ
token_length token = token.at.end - token.at.start

-- a byte directly behind a token of this sort would go on with it, so that none ends in front of that byte: a letter behind
-- a number counts too, and two `-` begin a comment
abbrev pub GoesOn : Sort → List ℕ → ℕ → Type 0
GoesOn Word bytes next = IsTrue (is_word_byte next)
GoesOn Quoted bytes next = next ≡ quote
GoesOn Number bytes next = IsTrue (is_word_byte next)
GoesOn Literal bytes next = next ≡ apostrophe
GoesOn Symbol bytes next = Contains symbols (bytes ++ (next ∷ [])) ⊎ (bytes ++ (next ∷ []) ≡ codes "--")

-- none of this many bytes goes on behind them
abbrev pub EndsAt : Sort → ℕ → List ℕ → Type 0
EndsAt sort n bytes = (next : ℕ) (rest : List ℕ) → drop n bytes ≡ next ∷ rest → GoesOn sort (take n bytes) next → ⊥

-- this many blanks, all that stand there
pub record IsBlanks (n : ℕ) (bytes : List ℕ) : Type 0 where
  pub some : 0 < n
  pub within : n ≤ length bytes
  pub blanks : IsTrue (list_all is_blank (take n bytes))
  pub whole : IsTrue (begins is_blank (drop n bytes)) → ⊥

-- a comment of this many bytes: from `--` up to the next line feed, or to the end of the script
pub record IsComment (n : ℕ) (bytes : List ℕ) : Type 0 where
  pub within : n ≤ length bytes
  pub more : List ℕ
  pub begun : bytes ≡ codes "--" ++ more
  pub line : IsTrue (list_all (λ byte. not (byte == 10)) (take n bytes))
  pub whole : IsTrue (begins (λ byte. not (byte == 10)) (drop n bytes)) → ⊥

-- what stands between tokens: blanks, or a comment
abbrev pub IsGap : ℕ → List ℕ → Type 0
IsGap n bytes = IsBlanks n bytes ⊎ IsComment n bytes
