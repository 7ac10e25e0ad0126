-- What stands at the front, read one byte at a time.
use Rattle.std.specs.Prelude.{option_map, IsTrue, is_some, not}
use Rattle.std.specs.List.{prefix_len, list_all}
use Rattle.std.specs.Char.{is_ascii_digit}
use Rattle.std.proofs.Common.{ℕ, zero, ◌≡◌, ◌+◌, ◌-◌, ◌<◌, ◌≤◌, ◌&&◌, Bool, true, false, cond, eqb, nat_le, List, [], ◌∷◌, Option, Some, None, length, get_or, take, drop, suc, drop-cons, refl, sym, ap, ◌∙◌, arith, add-one, if◌then◌else◌}
use Rattle.std.proofs.lemmas.List.{take_all}
use Rattle.std.proofs.lemmas.List.Folds.{length-prefix_len}
use Rattle.rs_value.specs.Number.{number_of, decimal_value, are_digits, greatest_int}
use Rattle.rs_lex.specs.Bytes.{is_blank, is_digit, is_letter, is_word_byte, begins, quote, apostrophe}
use Rattle.rs_lex.specs.Front.{front_of, run_length, closed_length, begins_comment, number_front, quoted_front, literal_front, symbol_front}
use Rattle.rs_lex.specs.declared.token.Sort.TheVariants.{Word, Number}
use Rattle.rs_lex.specs.declared.front.Front.{Front}
use Rattle.rs_lex.specs.declared.front.Front.TheVariants.{End, Gap, Found, Bad, Wide}

-- how many bytes close a text, of which `at` were read
abbrev pub closed_from : ℕ → ℕ → List ℕ → Option ℕ
closed_from mark at bytes = option_map (λ n. n + at) (closed_length mark (drop at bytes))

-- counts add up
map_adds : (a b : ℕ) (o : Option ℕ) → option_map (λ n. n + b) (option_map (λ n. n + a) o) ≡ option_map (λ n. n + (b + a)) o
map_adds a b None = refl
map_adds a b (Some n) = ap Some (omega arith)

-- a byte that is no mark is counted
pub closed_length-other : (mark byte : ℕ) (rest : List ℕ) → eqb byte mark ≡ false → closed_length mark (byte ∷ rest) ≡ option_map (λ n. n + 1) (closed_length mark rest)
closed_length-other mark byte [] e = rw e refl
closed_length-other mark byte (next ∷ rest) e = rw e refl

-- two marks are counted
pub closed_length-doubled : (mark byte next : ℕ) (rest : List ℕ) → eqb byte mark ≡ true → eqb next mark ≡ true → closed_length mark (byte ∷ next ∷ rest) ≡ option_map (λ n. n + 2) (closed_length mark rest)
closed_length-doubled mark byte next rest e f = rw (e, f) refl

-- the rest of a list, by its first items
drop-two_suc : (bytes : List ℕ) (at : ℕ) → suc at < length bytes → drop at bytes ≡ get_or bytes at 0 ∷ get_or bytes (suc at) 0 ∷ drop (suc (suc at)) bytes
drop-two_suc (a ∷ b ∷ rest) zero h = refl
drop-two_suc (a ∷ []) zero h = absurd (omega arith)
drop-two_suc [] zero h = absurd (omega arith)
drop-two_suc [] (suc at) h = absurd (omega arith)
drop-two_suc (a ∷ rest) (suc at) h = drop-two_suc rest at (omega arith)

-- the same, with the places as the code has them
drop-two : (bytes : List ℕ) (at : ℕ) → at + 1 < length bytes → drop at bytes ≡ get_or bytes at 0 ∷ get_or bytes (at + 1) 0 ∷ drop (at + 2) bytes
drop-two bytes at h =
    let one : at + 1 ≡ suc at = omega arith in
    let two : at + 2 ≡ suc (suc at) = omega arith in
    rw (one, two) (drop-two_suc bytes at (omega arith))

-- each turn of the loop
pub closed_from-other : (mark at : ℕ) (bytes : List ℕ) → at < length bytes → eqb (get_or bytes at 0) mark ≡ false → closed_from mark (at + 1) bytes ≡ closed_from mark at bytes
closed_from-other mark at bytes h e =
    let split : drop at bytes ≡ get_or bytes at 0 ∷ drop (suc at) bytes = drop-cons bytes at 0 h in
    let one = closed_length-other mark (get_or bytes at 0) (drop (suc at) bytes) e in
    rw (split, one, map_adds 1 at (closed_length mark (drop (suc at) bytes)), add-one) refl

-- a turn that passes a doubled mark
pub closed_from-doubled : (mark at : ℕ) (bytes : List ℕ) → at + 1 < length bytes → eqb (get_or bytes at 0) mark ≡ true → eqb (get_or bytes (at + 1) 0) mark ≡ true
    → closed_from mark (at + 2) bytes ≡ closed_from mark at bytes
closed_from-doubled mark at bytes h e f =
    let split = drop-two bytes at h in
    let two = closed_length-doubled mark (get_or bytes at 0) (get_or bytes (at + 1) 0) (drop (at + 2) bytes) e f in
    sym (ap (λ o. option_map (λ n. n + at) o) (ap (λ b. closed_length mark b) split ∙ two) ∙ map_adds 2 at (closed_length mark (drop (at + 2) bytes)))

-- two tests that pass
both_true : (a b : Bool) → a ≡ true → b ≡ true → (a && b) ≡ true
both_true a b e f = rw (e, f) refl

-- the digits at the front are digits
digits_of_step : (byte : ℕ) (rest : List ℕ) (b : Bool) → is_digit byte ≡ b → list_all is_ascii_digit (take (prefix_len is_digit rest) rest) ≡ true
    → list_all is_ascii_digit (take (cond b (1 + prefix_len is_digit rest) 0) (byte ∷ rest)) ≡ true
digits_of_step byte rest false e h = refl
digits_of_step byte rest true e h =
    let one : 1 + prefix_len is_digit rest ≡ suc (prefix_len is_digit rest) = omega arith in
    rw one (both_true (is_ascii_digit byte) (list_all is_ascii_digit (take (prefix_len is_digit rest) rest)) e h)

digits_of_run : (bytes : List ℕ) → list_all is_ascii_digit (take (prefix_len is_digit bytes) bytes) ≡ true
digits_of_run [] = refl
digits_of_run (byte ∷ rest) = digits_of_step byte rest (is_digit byte) refl (digits_of_run rest)

-- so are as many as were counted
counted_digits : (bytes : List ℕ) → list_all is_ascii_digit (take (run_length is_digit bytes) bytes) ≡ true
counted_digits bytes = rw length-prefix_len (digits_of_run bytes)

-- digits that begin with a first one
are_digits-all : (digits : List ℕ) → 0 < length digits → list_all is_ascii_digit digits ≡ true → are_digits digits ≡ true
are_digits-all [] h e = absurd (omega arith)
are_digits-all (digit ∷ rest) h e = e

-- an item that passes is counted
counts_one : (b : Bool) (n : ℕ) → IsTrue b → 0 < cond b (1 + n) 0
counts_one true n h = omega arith
counts_one false n h = absurd (cc)

-- at least one digit is counted where the first byte is one
run_of_digits : (bytes : List ℕ) → IsTrue (begins is_digit bytes) → 0 < length (take (run_length is_digit bytes) bytes)
run_of_digits [] h = absurd (cc)
run_of_digits (byte ∷ rest) h = rw (length-prefix_len is_digit (byte ∷ rest), length-prefix_len is_digit (byte ∷ rest)) (counts_one (is_digit byte) (prefix_len is_digit rest) h)

-- the value of the digits at the front
value_of_run : (most : ℕ) (bytes : List ℕ) → IsTrue (begins is_digit bytes)
    → decimal_value most (take (run_length is_digit bytes) bytes) ≡ (if nat_le (number_of (take (run_length is_digit bytes) bytes)) most then Some (number_of (take (run_length is_digit bytes) bytes)) else None)
value_of_run most bytes h = rw (are_digits-all (take (run_length is_digit bytes) bytes) (run_of_digits bytes h) (counted_digits bytes)) refl

-- a number that has no value is too wide, and another one isn't
too_wide : (fits : Bool) (n : ℕ) (front : Front) → (if fits then Some n else None) ≡ None → Wide ≡ (if fits then front else Wide)
too_wide true n front e = cc
too_wide false n front e = refl

-- digits without a value are a number that is too great
pub number_front-wide : (bytes : List ℕ) → IsTrue (begins is_digit bytes) → decimal_value greatest_int (take (run_length is_digit bytes) bytes) ≡ None → Wide ≡ number_front bytes
number_front-wide bytes h e =
    too_wide (nat_le (number_of (take (run_length is_digit bytes) bytes)) greatest_int) (number_of (take (run_length is_digit bytes) bytes))
    (if begins is_letter (drop (run_length is_digit bytes) bytes) then Bad (run_length is_digit bytes) else Found Number (run_length is_digit bytes))
    (sym (value_of_run greatest_int bytes h) ∙ e)

-- one branch of a choice
pub taken : (b : Bool) (x y : Front) → b ≡ true → (if b then x else y) ≡ x
taken b x y e = rw e refl

-- a branch that isn't taken
pub passed : (b : Bool) (x y z : Front) → b ≡ false → y ≡ z → (if b then x else y) ≡ z
passed b x y z e h = rw (e, h) refl

-- what is behind the first byte
abbrev pub behind : List ℕ → List ℕ
behind bytes = take (length bytes - 1) (drop 1 bytes)

-- it is the tail, wherever it stands
behind_is : {X : Type 0} (of : List ℕ → X) (byte : ℕ) (rest : List ℕ) → of rest ≡ of (behind (byte ∷ rest))
behind_is of byte rest = ap of (sym (take_all (length (byte ∷ rest) - 1) rest (omega arith)))

-- what is no blank, comment, word or number
abbrev pub marked : ℕ → List ℕ → Front
marked byte rest = if eqb byte quote then quoted_front (closed_length quote rest) else if eqb byte apostrophe then literal_front (closed_length apostrophe rest) else symbol_front byte rest

-- each front, by the first byte and what is behind it
pub front_of-end : (bytes : List ℕ) → length bytes < 1 → front_of bytes ≡ End
unfolding front_of
front_of-end [] h = refl
front_of-end (byte ∷ rest) h = absurd (omega arith)

-- blanks
pub front_of-blank : (bytes : List ℕ) → 1 ≤ length bytes → is_blank (get_or bytes 0 0) ≡ true → front_of bytes ≡ Gap (run_length is_blank bytes)
unfolding front_of
front_of-blank [] h e = absurd (omega arith)
front_of-blank (byte ∷ rest) h e = taken (is_blank byte) _ _ e

-- a comment
pub front_of-comment : (bytes : List ℕ) → 1 ≤ length bytes → is_blank (get_or bytes 0 0) ≡ false → begins_comment (get_or bytes 0 0) (behind bytes) ≡ true
    → front_of bytes ≡ Gap (run_length (λ c. not (eqb c 10)) bytes)
unfolding front_of
front_of-comment [] h e f = absurd (omega arith)
front_of-comment (byte ∷ rest) h e f = passed (is_blank byte) _ _ _ e (taken (begins_comment byte rest) _ _ (behind_is (λ after. begins_comment byte after) byte rest ∙ f))

-- a word
pub front_of-word : (bytes : List ℕ) → 1 ≤ length bytes → is_blank (get_or bytes 0 0) ≡ false → begins_comment (get_or bytes 0 0) (behind bytes) ≡ false
    → is_letter (get_or bytes 0 0) ≡ true → front_of bytes ≡ Found Word (run_length is_word_byte bytes)
unfolding front_of
front_of-word [] h e f g = absurd (omega arith)
front_of-word (byte ∷ rest) h e f g = passed (is_blank byte) _ _ _ e (passed (begins_comment byte rest) _ _ _ (behind_is (λ after. begins_comment byte after) byte rest ∙ f) (taken (is_letter byte) _ _ g))

-- a number
pub front_of-number : (bytes : List ℕ) → 1 ≤ length bytes → is_blank (get_or bytes 0 0) ≡ false → begins_comment (get_or bytes 0 0) (behind bytes) ≡ false
    → is_letter (get_or bytes 0 0) ≡ false → is_digit (get_or bytes 0 0) ≡ true → front_of bytes ≡ number_front bytes
unfolding front_of
front_of-number [] h e f g i = absurd (omega arith)
front_of-number (byte ∷ rest) h e f g i = passed (is_blank byte) _ _ _ e (passed (begins_comment byte rest) _ _ _ (behind_is (λ after. begins_comment byte after) byte rest ∙ f) (passed (is_letter byte) _ _ _ g (taken (is_digit byte) _ _ i)))

-- a text, a name between marks or a symbol
pub front_of-marked : (bytes : List ℕ) → 1 ≤ length bytes → is_blank (get_or bytes 0 0) ≡ false → begins_comment (get_or bytes 0 0) (behind bytes) ≡ false
    → is_letter (get_or bytes 0 0) ≡ false → is_digit (get_or bytes 0 0) ≡ false → front_of bytes ≡ marked (get_or bytes 0 0) (behind bytes)
unfolding front_of
front_of-marked [] h e f g i = absurd (omega arith)
front_of-marked (byte ∷ rest) h e f g i = passed (is_blank byte) _ _ _ e (passed (begins_comment byte rest) _ _ _ (behind_is (λ after. begins_comment byte after) byte rest ∙ f) (passed (is_letter byte) _ _ _ g (passed (is_digit byte) _ _ _ i (behind_is (λ after. marked byte after) byte rest))))

-- a name between marks
pub marked-quoted : (byte : ℕ) (rest : List ℕ) → byte ≡ 34 → marked byte rest ≡ quoted_front (closed_length quote rest)
marked-quoted byte rest e = rw e refl

-- a text
pub marked-literal : (byte : ℕ) (rest : List ℕ) → byte ≡ 39 → marked byte rest ≡ literal_front (closed_length apostrophe rest)
marked-literal byte rest e = rw e refl

-- a symbol
pub marked-symbol : (byte : ℕ) (rest : List ℕ) → eqb byte 34 ≡ false → eqb byte 39 ≡ false → marked byte rest ≡ symbol_front byte rest
marked-symbol byte rest e f = passed (eqb byte quote) _ _ _ e (passed (eqb byte apostrophe) _ _ _ f refl)

-- an answer that isn't there
pub none_is : (o : Option ℕ) → is_some o ≡ false → o ≡ None
none_is None e = refl
none_is (Some n) e = absurd (cc)
