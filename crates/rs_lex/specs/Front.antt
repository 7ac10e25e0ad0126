-- What stands at the front of the rest of a script.
use Rattle.std.specs.Prelude.{ℕ, ◌+◌, ◌==◌, ◌&&◌, ◌||◌, nat_le, Bool, not, List, [], ◌∷◌, length, take, drop, take_while, Option, Some, None, option_map, if◌then◌else◌}
use Rattle.rs_value.specs.Number.{number_of, greatest_int}
use Rattle.rs_lex.specs.Bytes.{is_letter, is_digit, is_word_byte, is_blank, begins, quote, apostrophe}
use Rattle.rs_lex.specs.declared.token.Sort.TheVariants.{Word, Quoted, Number, Literal, Symbol}
use Rattle.rs_lex.specs.declared.front.Front.{Front}
use Rattle.rs_lex.specs.declared.front.Front.TheVariants.{End, Gap, Found, Bad, Open, Wide}

-- how many bytes at the front pass a test, one after another
abbrev pub run_length : (ℕ → Bool) → List ℕ → ℕ
run_length test bytes = length (take_while test bytes)

-- how many bytes close a text behind its first mark, that mark at its end included: marks are read from left to right,
-- two that stand together are one doubled mark, and a mark closes the text only where no second one follows it
abbrev pub closed_length : ℕ → List ℕ → Option ℕ
closed_length mark [] = None
closed_length mark (byte ∷ []) = if byte == mark then Some 1 else None
closed_length mark (byte ∷ next ∷ rest) =
    if byte == mark then (if next == mark then option_map (λ n. n + 2) (closed_length mark rest) else Some 1)
    else option_map (λ n. n + 1) (closed_length mark (next ∷ rest))

-- a number: no letter may follow its digits directly, and it may not be too great
abbrev pub number_front : List ℕ → Front
number_front bytes =
    let digits = run_length is_digit bytes in
    if nat_le (number_of (take digits bytes)) greatest_int then
    (if begins is_letter (drop digits bytes) then Bad digits else Found Number digits)
    else Wide

-- a text between marks, behind the first one
abbrev pub literal_front : Option ℕ → Front
literal_front None = Open
literal_front (Some n) = Found Literal (n + 1)

-- a name between marks, behind the first one, which isn't empty
abbrev pub quoted_front : Option ℕ → Front
quoted_front None = Open
quoted_front (Some n) = if n == 1 then Bad 0 else Found Quoted (n + 1)

-- a symbol of two bytes
abbrev pub is_pair : ℕ → ℕ → Bool
is_pair first second = ((first == 60) && ((second == 62) || (second == 61))) || ((first == 33) && (second == 61)) || ((first == 62) && (second == 61))

-- a symbol of one byte: `( ) , ; . + - * / = < >`
abbrev pub is_symbol : ℕ → Bool
is_symbol byte = (byte == 40) || (byte == 41) || (byte == 44) || (byte == 59) || (byte == 46) || (byte == 43) || (byte == 45) || (byte == 42) || (byte == 47) || (byte == 61) || (byte == 60) || (byte == 62)

-- a symbol, the longer one first
abbrev pub symbol_front : ℕ → List ℕ → Front
symbol_front byte rest =
    if begins (is_pair byte) rest then Found Symbol 2 else if is_symbol byte then Found Symbol 1 else Bad 0

-- a comment goes up to the next line feed, or to the end
abbrev pub begins_comment : ℕ → List ℕ → Bool
begins_comment byte rest = (byte == 45) && begins (λ next. next == 45) rest

-- what stands at the front, by its first byte: nothing, blanks or a comment, a token of some length, or a fault. Each
-- run of bytes is as long as it can be
unfoldable pub front_of : List ℕ → Front
front_of [] = End
front_of (byte ∷ rest) =
    if is_blank byte then Gap (run_length is_blank (byte ∷ rest))
    else if begins_comment byte rest then Gap (run_length (λ c. not (c == 10)) (byte ∷ rest))
    else if is_letter byte then Found Word (run_length is_word_byte (byte ∷ rest))
    else if is_digit byte then number_front (byte ∷ rest)
    else if byte == quote then quoted_front (closed_length quote rest)
    else if byte == apostrophe then literal_front (closed_length apostrophe rest)
    else symbol_front byte rest
