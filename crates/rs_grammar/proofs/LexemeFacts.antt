-- What the tokens of a script are like: their places, their bytes and their numbers.
use Rattle.std.proofs.Common.{ℕ, zero, suc, ◌≡◌, ◌+◌, ◌-◌, ◌<◌, ◌≤◌, ◌==◌, ◌&&◌, ◌||◌, inl, inr, nat_le, Bool, true, false, not, cond, List, [], ◌∷◌, ◌++◌, length, get_or, take, drop, Option, Some, None, refl, sym, ap, ◌∙◌, arith, if◌then◌else◌, length-drop, length-append, append_assoc}
use Rattle.std.specs.Prelude.{IsUtf8, All, IfSome, option_map, take_while}
use Rattle.std.specs.Str.{IsAscii}
use Rattle.std.proofs.lemmas.Bool.{eqb-true, and_parts, or_cases, leb-true, cond_both}
use Rattle.std.proofs.Math.Seq.{drop-drop, take-append_seam, drop-append-add, get_or-append_seam}
use Rattle.std.proofs.lemmas.List.Elements.{All-nil, All-cons, All-same, All-take}
use Rattle.std.proofs.lemmas.List.Sums.{take_while-cons}
use Rattle.std.proofs.lemmas.List.{append-nil, take-take, get_or-drop, length-take-le}
use Rattle.std.proofs.lemmas.Str.Ascii.{IsAscii-from_all}
use Rattle.std.proofs.lemmas.Str.{IsUtf8-nil, IsUtf8-take, IsUtf8-drop, IsUtf8-between, IsUtf8-append, IsUtf8-from_ascii, IsCharBoundary-before_ascii, IsCharBoundary-after_ascii}
use Rattle.rs_value.specs.Number.{number_of, decimal_value, are_digits, greatest_int}
use Rattle.rs_lex.specs.Bytes.{is_from, is_letter, is_digit, is_word_byte, is_blank, begins, quote, apostrophe}
use Rattle.rs_lex.specs.Front.{front_of, run_length, closed_length, number_front, literal_front, quoted_front, symbol_front, begins_comment, is_pair, is_symbol}
use Rattle.rs_lex.specs.Spelling.{Spells, token_at, nothing}
use Rattle.rs_lex.specs.Spelling as spelling
use Rattle.rs_lex.specs.declared.front.Front.{Front}
use Rattle.rs_lex.specs.declared.front.Front.TheVariants.{End, Gap, Found, Bad, Open, Wide}
use Rattle.rs_lex.specs.declared.token.Sort.{Sort}
use Rattle.rs_lex.specs.declared.token.Sort.TheVariants.{Word, Quoted, Number, Literal, Symbol}
use Rattle.rs_lex.specs.declared.token.Token.{Token}
use Rattle.rs_lex.proofs.SpellingFacts.{front_of-found, front_of-gap}
use Rattle.rs_lex.proofs.FrontFacts.{number_front-wide}
use Rattle.rs_grammar.specs.Kinds.{accepts, names}
use Rattle.rs_grammar.specs.Lexemes.{IsTokenOf, IsFront, piece, between, undoubled, token_kind, token_text}

-- the tokens that the bytes from a place on spell stand in the script
tokens_from : (script : List ℕ) (at : ℕ) (bytes : List ℕ) (tokens : List Token) → at ≤ length script → bytes ≡ drop at script → Spells at bytes tokens → All (IsTokenOf script) tokens
tokens_from script at bytes tokens within is (nothing _ _ e) = All-nil (IsTokenOf script)
tokens_from script at bytes tokens within is (spelling.Spells.passes _ n _ _ e h) =
    let size = front_of-gap bytes n e in
    let left : length bytes ≡ length script - at = ap length is ∙ length-drop at script in
    tokens_from script (at + n) (drop n bytes) tokens (omega (arith, size.1, left)) (ap (drop n) is ∙ drop-drop n at script) h
tokens_from script at bytes tokens within is (spelling.Spells.takes _ n sort _ rest e h) =
    let size = front_of-found bytes sort n e in
    let left : length bytes ≡ length script - at = ap length is ∙ length-drop at script in
    let some : at + n - at ≡ n = omega arith in
    All-cons (IsTokenOf script) (token_at at sort n) rest
    (record { ordered = omega arith; within = omega (arith, size.1, left); found = rw (some, ← is) e })
    (tokens_from script (at + n) (drop n bytes) rest (omega (arith, size.1, left)) (ap (drop n) is ∙ drop-drop n at script) h)

-- all tokens of a script are its first ones
pub IsFront-whole : (script : List ℕ) (tokens : List Token) → Spells 0 script tokens → IsFront script tokens
IsFront-whole script tokens h = record { more = []; spelled = rw append-nil h }

-- each of the first tokens of a script stands in it
pub IsTokenOf-each : (script : List ℕ) (tokens : List Token) → IsFront script tokens → All (IsTokenOf script) tokens
IsTokenOf-each script tokens h =
    let all : All (IsTokenOf script) (tokens ++ h.more) = tokens_from script 0 script (tokens ++ h.more) (omega arith) refl h.spelled in
    All-same (IsTokenOf script) tokens (take (length tokens) (tokens ++ h.more)) (sym (take-append_seam tokens h.more)) (All-take (IsTokenOf script) (length tokens) (tokens ++ h.more) all)

-- UTF-8 without one byte of ASCII
without_one : (xs ys : List ℕ) (byte : ℕ) → byte < 128 → IsUtf8 (xs ++ (byte ∷ ys)) → IsUtf8 (xs ++ ys)
without_one xs ys byte ascii h =
    let all = xs ++ (byte ∷ ys) in
    let here : get_or (xs ++ (byte ∷ ys)) (length xs) 0 ≡ byte = get_or-append_seam xs byte ys 0 in
    let low : get_or (xs ++ (byte ∷ ys)) (length xs) 0 < 128 = rw here ascii in
    let within : length xs < length (xs ++ (byte ∷ ys)) = omega (arith, length-append xs (byte ∷ ys)) in
    let front : IsUtf8 (take (length xs) (xs ++ (byte ∷ ys))) = IsUtf8-take all (length xs) h (IsCharBoundary-before_ascii all (length xs) within low) in
    let back : IsUtf8 (drop (length xs + 1) (xs ++ (byte ∷ ys))) = IsUtf8-drop all (length xs + 1) h (IsCharBoundary-after_ascii all (length xs) h within low) in
    IsUtf8-append xs ys (rw take-append_seam at front) (rw drop-append-add at back)

-- UTF-8 stays so where doubled marks are made one, whatever stands before
undoubled_behind : (mark : ℕ) (xs bytes : List ℕ) → mark < 128 → IsUtf8 (xs ++ bytes) → IsUtf8 (xs ++ undoubled mark bytes)
undoubled_behind mark xs [] ascii h = h
undoubled_behind mark xs (byte ∷ []) ascii h = h
undoubled_behind mark xs (byte ∷ next ∷ rest) ascii h =
    go ((byte == mark) && (next == mark)) refl (undoubled_behind mark (xs ++ (byte ∷ [])) rest ascii) (undoubled_behind mark (xs ++ (byte ∷ [])) (next ∷ rest) ascii)
  where
    after : IsUtf8 ((xs ++ (byte ∷ [])) ++ (next ∷ rest))
    after = rw append_assoc h

    go : (b : Bool) → ((byte == mark) && (next == mark)) ≡ b
        → (IsUtf8 ((xs ++ (byte ∷ [])) ++ rest) → IsUtf8 ((xs ++ (byte ∷ [])) ++ undoubled mark rest))
        → (IsUtf8 ((xs ++ (byte ∷ [])) ++ (next ∷ rest)) → IsUtf8 ((xs ++ (byte ∷ [])) ++ undoubled mark (next ∷ rest)))
        → IsUtf8 (xs ++ (if b then byte ∷ undoubled mark rest else byte ∷ undoubled mark (next ∷ rest)))
    go true e both one =
        let same : next ≡ mark = eqb-true next mark ((and_parts (byte == mark) (next == mark) e).1) in
        let left : IsUtf8 ((xs ++ (byte ∷ [])) ++ undoubled mark rest) = both (without_one (xs ++ (byte ∷ [])) rest next (rw same ascii) after) in
        rw append_assoc at left
    go false e both one =
        let left : IsUtf8 ((xs ++ (byte ∷ [])) ++ undoubled mark (next ∷ rest)) = one after in
        rw append_assoc at left

-- a mark closes a text within its bytes, behind at least one of them
abbrev Closes : ℕ → List ℕ → Option ℕ → Type 0
Closes mark bytes end = IfSome end (λ n. (1 ≤ n) × (n ≤ length bytes) × (get_or bytes (n - 1) 0 ≡ mark))

Closes-one : (mark byte : ℕ) (rest : List ℕ) (end : Option ℕ) → Closes mark rest end → Closes mark (byte ∷ rest) (option_map (λ n. n + 1) end)
Closes-one mark byte rest None h = tt
Closes-one mark byte rest (Some n) h =
    let last : n + 1 - 1 ≡ suc (n - 1) = omega (arith, h.0) in
    (omega arith, omega (arith, h.1), rw last h.2)

Closes-two : (mark byte next : ℕ) (rest : List ℕ) (end : Option ℕ) → Closes mark rest end → Closes mark (byte ∷ next ∷ rest) (option_map (λ n. n + 2) end)
Closes-two mark byte next rest None h = tt
Closes-two mark byte next rest (Some n) h =
    let last : n + 2 - 1 ≡ suc (suc (n - 1)) = omega (arith, h.0) in
    (omega arith, omega (arith, h.1), rw last h.2)

closed_length-mark : (mark : ℕ) (bytes : List ℕ) → Closes mark bytes (closed_length mark bytes)
closed_length-mark mark [] = tt
closed_length-mark mark (byte ∷ []) =
    cond_both (byte == mark) (Some 1) None (Closes mark (byte ∷ [])) (λ e. (omega arith, omega arith, eqb-true byte mark e)) (λ _. tt)
closed_length-mark mark (byte ∷ next ∷ rest) =
    cond_both (byte == mark) (if next == mark then option_map (λ n. n + 2) (closed_length mark rest) else Some 1) (option_map (λ n. n + 1) (closed_length mark (next ∷ rest))) (Closes mark (byte ∷ next ∷ rest))
    (λ e. cond_both (next == mark) (option_map (λ n. n + 2) (closed_length mark rest)) (Some 1) (Closes mark (byte ∷ next ∷ rest))
    (λ _. Closes-two mark byte next rest (closed_length mark rest) (closed_length-mark mark rest))
    (λ _. (omega arith, omega arith, eqb-true byte mark e)))
    (λ _. Closes-one mark byte (next ∷ rest) (closed_length mark (next ∷ rest)) (closed_length-mark mark (next ∷ rest)))

-- this many bytes begin and end with a mark of ASCII
record IsMarked (n : ℕ) (bytes : List ℕ) : Type 0 where
  some : 2 ≤ n
  within : n ≤ length bytes
  first : get_or bytes 0 0 < 128
  last : get_or bytes (n - 1) 0 < 128

-- what the bytes of a token are, by its sort
abbrev Holds : Sort → ℕ → List ℕ → Type 0
Holds Word n bytes = IsAscii (take n bytes)
Holds Quoted n bytes = IsMarked n bytes
Holds Number n bytes = decimal_value greatest_int (take n bytes) ≡ Some (number_of (take n bytes))
Holds Literal n bytes = IsMarked n bytes
Holds Symbol n bytes = Unit {0}

-- what a front says of the bytes
abbrev Says : List ℕ → Front → Type 0
Says bytes End = Unit {0}
Says bytes (Gap n) = Unit {0}
Says bytes (Found sort n) = Holds sort n bytes
Says bytes (Bad n) = Unit {0}
Says bytes Open = Unit {0}
Says bytes Wide = Unit {0}

-- a byte between two others is at most the higher one
is_from-high : (low high byte : ℕ) → is_from low high byte ≡ true → byte ≤ high
is_from-high low high byte e = leb-true byte high ((and_parts (nat_le low byte) (nat_le byte high) e).1)

-- letters, digits and `_` are ASCII
is_letter-ascii : (byte : ℕ) → is_letter byte ≡ true → byte < 128
is_letter-ascii byte e =
    elim (or_cases (is_from 65 90 byte || is_from 97 122 byte) (byte == 95) e) [
      | inl small_or_capital ↦ elim (or_cases (is_from 65 90 byte) (is_from 97 122 byte) small_or_capital) [
        | inl f ↦ omega (arith, is_from-high 65 90 byte f)
        | inr f ↦ omega (arith, is_from-high 97 122 byte f)
      ]
      | inr f ↦ omega (arith, eqb-true byte 95 f)
    ]

is_word_byte-ascii : (byte : ℕ) → is_word_byte byte ≡ true → byte < 128
is_word_byte-ascii byte e = elim (or_cases (is_letter byte) (is_digit byte) e) [ inl f ↦ is_letter-ascii byte f | inr f ↦ omega (arith, is_from-high 48 57 byte f) ]

-- so are the bytes of a word
word_bytes : (bytes : List ℕ) → All (λ b. b < 128) (take (run_length is_word_byte bytes) bytes)
word_bytes [] = All-nil (λ b. b < 128)
word_bytes (byte ∷ rest) = rw take_while-cons (go (is_word_byte byte) refl (word_bytes rest))
  where
    go : (b : Bool) → is_word_byte byte ≡ b → All (λ b. b < 128) (take (run_length is_word_byte rest) rest)
        → All (λ b. b < 128) (take (length (cond b (byte ∷ take_while is_word_byte rest) [])) (byte ∷ rest))
    go true e h = All-cons (λ b. b < 128) byte (take (run_length is_word_byte rest) rest) (is_word_byte-ascii byte e) h
    go false e h = All-nil (λ b. b < 128)

-- a text between marks begins and ends with one
literal_front-says : (byte : ℕ) (rest : List ℕ) (end : Option ℕ) → byte < 128 → Closes apostrophe rest end → Says (byte ∷ rest) (literal_front end)
literal_front-says byte rest None ascii h = tt
literal_front-says byte rest (Some n) ascii h =
    let last : n + 1 - 1 ≡ suc (n - 1) = omega (arith, h.0) in
    let mark : get_or rest (n - 1) 0 < 128 = rw h.2 (omega arith) in
    record { some = omega (arith, h.0); within = omega (arith, h.1); first = ascii; last = rw last mark }

-- so does a name between marks
quoted_front-says : (byte : ℕ) (rest : List ℕ) (end : Option ℕ) → byte < 128 → Closes quote rest end → Says (byte ∷ rest) (quoted_front end)
quoted_front-says byte rest None ascii h = tt
quoted_front-says byte rest (Some n) ascii h =
    let last : n + 1 - 1 ≡ suc (n - 1) = omega (arith, h.0) in
    let mark : get_or rest (n - 1) 0 < 128 = rw h.2 (omega arith) in
    cond_both (n == 1) (Bad 0) (Found Quoted (n + 1)) (Says (byte ∷ rest)) (λ _. tt)
    (λ _. record { some = omega (arith, h.0); within = omega (arith, h.1); first = ascii; last = rw last mark })

-- nothing is said of a symbol
symbol_front-says : (byte : ℕ) (rest : List ℕ) → Says (byte ∷ rest) (symbol_front byte rest)
symbol_front-says byte rest =
    cond_both (begins (is_pair byte) rest) (Found Symbol 2) (if is_symbol byte then Found Symbol 1 else Bad 0) (Says (byte ∷ rest)) (λ _. tt)
    (λ _. cond_both (is_symbol byte) (Found Symbol 1) (Bad 0) (Says (byte ∷ rest)) (λ _. tt) (λ _. tt))

-- a number that isn't too great is not too wide
not_wide : (fits spoiled : Bool) (n : ℕ) → fits ≡ true → Wide ≡ (if fits then (if spoiled then Bad n else Found Number n) else Wide) → ⊥
not_wide true true n e h = cc
not_wide true false n e h = cc
not_wide false spoiled n e h = cc

-- digits that aren't too great have a value
value_of_digits : (bytes : List ℕ) → begins is_digit bytes ≡ true → nat_le (number_of (take (run_length is_digit bytes) bytes)) greatest_int ≡ true
    → Holds Number (run_length is_digit bytes) bytes
value_of_digits bytes first fits = go (are_digits (take (run_length is_digit bytes) bytes)) refl
  where
    go : (b : Bool) → are_digits (take (run_length is_digit bytes) bytes) ≡ b → Holds Number (run_length is_digit bytes) bytes
    go true e = rw (e, fits) refl
    go false e =
        let none : decimal_value greatest_int (take (run_length is_digit bytes) bytes) ≡ None = rw e refl in
        absurd (not_wide (nat_le (number_of (take (run_length is_digit bytes) bytes)) greatest_int) (begins is_letter (drop (run_length is_digit bytes) bytes)) (run_length is_digit bytes)
        fits (number_front-wide bytes first none))

-- so have those of a number at the front
number_front-says : (bytes : List ℕ) → begins is_digit bytes ≡ true → Says bytes (number_front bytes)
number_front-says bytes first =
    let digits = run_length is_digit bytes in
    cond_both (nat_le (number_of (take digits bytes)) greatest_int) (if begins is_letter (drop digits bytes) then Bad digits else Found Number digits) Wide (Says bytes)
    (λ fits. cond_both (begins is_letter (drop digits bytes)) (Bad digits) (Found Number digits) (Says bytes) (λ _. tt) (λ _. value_of_digits bytes first fits))
    (λ _. tt)

-- what stands at the front says so of the bytes
front_of-says : (bytes : List ℕ) → Says bytes (front_of bytes)
unfolding front_of
front_of-says [] = tt
front_of-says (byte ∷ rest) =
    let says = Says (byte ∷ rest) in
    let symbol = symbol_front byte rest in
    let literal = if byte == apostrophe then literal_front (closed_length apostrophe rest) else symbol in
    let quoted = if byte == quote then quoted_front (closed_length quote rest) else literal in
    let number = if is_digit byte then number_front (byte ∷ rest) else quoted in
    let word = if is_letter byte then Found Word (run_length is_word_byte (byte ∷ rest)) else number in
    let comment = if begins_comment byte rest then Gap (run_length (λ c. not (c == 10)) (byte ∷ rest)) else word in
    cond_both (is_blank byte) (Gap (run_length is_blank (byte ∷ rest))) comment says (λ _. tt)
    (λ _. cond_both (begins_comment byte rest) (Gap (run_length (λ c. not (c == 10)) (byte ∷ rest))) word says (λ _. tt)
    (λ _. cond_both (is_letter byte) (Found Word (run_length is_word_byte (byte ∷ rest))) number says
    (λ _. IsAscii-from_all (take (run_length is_word_byte (byte ∷ rest)) (byte ∷ rest)) (word_bytes (byte ∷ rest)))
    (λ _. cond_both (is_digit byte) (number_front (byte ∷ rest)) quoted says (number_front-says (byte ∷ rest))
    (λ _. cond_both (byte == quote) (quoted_front (closed_length quote rest)) literal says
    (λ e. quoted_front-says byte rest (closed_length quote rest) (rw (eqb-true byte quote e) (omega arith)) (closed_length-mark quote rest))
    (λ _. cond_both (byte == apostrophe) (literal_front (closed_length apostrophe rest)) symbol says
    (λ e. literal_front-says byte rest (closed_length apostrophe rest) (rw (eqb-true byte apostrophe e) (omega arith)) (closed_length-mark apostrophe rest))
    (λ _. symbol_front-says byte rest))))))

-- the bytes of a token are as its sort says
token_holds : (script : List ℕ) (token : Token) → IsTokenOf script token → Holds token.sort (token.at.end - token.at.start) (drop token.at.start script)
token_holds script token h = rw h.found at (front_of-says (drop token.at.start script))

-- the bytes between the ends of the first ones
between-take : (n : ℕ) (bytes : List ℕ) → 2 ≤ n → n ≤ length bytes → between (take n bytes) ≡ take (n - 2) (drop 1 bytes)
between-take zero bytes some within = absurd (omega arith)
between-take (suc zero) bytes some within = absurd (omega arith)
between-take (suc (suc n)) [] some within = absurd (omega arith)
between-take (suc (suc n)) (byte ∷ rest) some within =
    let size : length (byte ∷ take (suc n) rest) - 2 ≡ n = omega (arith, length-take-le (suc n) rest (omega arith)) in
    let count : suc (suc n) - 2 ≡ n = omega arith in
    rw (size, count) (take-take n (suc n) rest (omega arith))

-- the bytes of a script between two marks are UTF-8 where the script is
between_utf8 : (script : List ℕ) (at n : ℕ) → IsUtf8 script → at ≤ length script → IsMarked n (drop at script) → IsUtf8 (between (take n (drop at script)))
between_utf8 script at n utf8 within h =
    let left : length (drop at script) ≡ length script - at = length-drop at script in
    let none : at + 0 ≡ at = omega arith in
    let first : get_or (drop at script) 0 0 ≡ get_or script at 0 = rw none at (get_or-drop at script 0 0) in
    let last : get_or (drop at script) (n - 1) 0 ≡ get_or script (at + (n - 1)) 0 = get_or-drop at script (n - 1) 0 in
    let behind = IsCharBoundary-after_ascii script at utf8 (omega (arith, h.some, h.within)) (omega (arith, h.first)) in
    let before = IsCharBoundary-before_ascii script (at + (n - 1)) (omega (arith, h.some, h.within)) (omega (arith, h.last)) in
    let inner : IsUtf8 (take (at + (n - 1) - (at + 1)) (drop (at + 1) script)) = IsUtf8-between script (at + 1) (at + (n - 1)) utf8 (omega (arith, h.some)) behind before in
    let count : at + (n - 1) - (at + 1) ≡ n - 2 = omega (arith, h.some) in
    rw (between-take n (drop at script) h.some h.within, drop-drop 1 at script, ← count) inner

-- so is the text of such bytes
text_utf8 : (sort : Sort) (script : List ℕ) (at n : ℕ) → IsUtf8 script → at ≤ length script → Holds sort n (drop at script) → IsUtf8 (token_text sort (take n (drop at script)))
text_utf8 Word script at n utf8 within h =
    cond_both (accepts names (token_kind Word (take n (drop at script)))) (take n (drop at script)) [] IsUtf8 (λ _. IsUtf8-from_ascii (take n (drop at script)) h) (λ _. IsUtf8-nil)
text_utf8 Quoted script at n utf8 within h = undoubled_behind quote [] (between (take n (drop at script))) (omega arith) (between_utf8 script at n utf8 within h)
text_utf8 Number script at n utf8 within h = IsUtf8-nil
text_utf8 Literal script at n utf8 within h = undoubled_behind apostrophe [] (between (take n (drop at script))) (omega arith) (between_utf8 script at n utf8 within h)
text_utf8 Symbol script at n utf8 within h = IsUtf8-nil

-- the text of a token is UTF-8 where the script is
pub IsTokenOf-text : (script : List ℕ) (token : Token) → IsUtf8 script → IsTokenOf script token → IsUtf8 (token_text token.sort (piece script token.at))
IsTokenOf-text script token utf8 h =
    text_utf8 token.sort script token.at.start (token.at.end - token.at.start) utf8 (omega (arith, h.ordered, h.within)) (token_holds script token h)

-- the digits of a number have a value
pub IsTokenOf-number : (script : List ℕ) (token : Token) → IsTokenOf script token → token.sort ≡ Number
    → decimal_value greatest_int (piece script token.at) ≡ Some (number_of (piece script token.at))
IsTokenOf-number script token h is =
    let holds = token_holds script token h in
    rw is at holds
