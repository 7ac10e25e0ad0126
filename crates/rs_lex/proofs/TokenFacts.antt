-- What stands at the front of a script is a token, and the longest one there.
use Rattle.std.proofs.Common.{ℕ, zero, suc, ◌≡◌, ◌+◌, ◌-◌, ◌<◌, ◌≤◌, ◌==◌, nat_le, inl, inr, Bool, true, false, not, ◌&&◌, ◌||◌, List, [], ◌∷◌, ◌++◌, length, take, drop, get_or, Option, Some, None, refl, sym, ap, ◌∙◌, arith, cond, if◌then◌else◌, lit<, All}
use Rattle.std.specs.Prelude.{IfSome, option_map, take_while, Contains}
use Rattle.std.specs.List.{list_all}
use Rattle.std.proofs.lemmas.List.{drop-drop, take-append-drop, length-take-le, append_assoc, length-append}
use Rattle.std.proofs.lemmas.List.Elements.{All-contains}
use Rattle.std.proofs.lemmas.List.Sums.{take_while-cons, AllPass-from_list_all}
use Rattle.std.proofs.lemmas.Bool.{eqb-true, eqb-false, leb-true, lt-leb, ne_eqb, and_parts, or_left}
use Rattle.rs_value.specs.Number.{number_of, greatest_int}
use Rattle.rs_lex.specs.Bytes.{is_letter, is_digit, is_word_byte, is_blank, begins, quote, apostrophe}
use Rattle.rs_lex.specs.Front.{front_of, run_length, closed_length, number_front, literal_front, quoted_front, symbol_front, begins_comment, is_pair, is_symbol}
use Rattle.rs_lex.specs.Spelling.{Spells, nothing, token_at, TokensInOrder}
use Rattle.rs_lex.specs.Spelling as spelling
use Rattle.rs_lex.specs.Tokens.{IsToken, is_word, symbols, doubled, between, from_token, token_length}
use Rattle.rs_lex.specs.declared.token.Sort.{Sort}
use Rattle.rs_lex.specs.declared.token.Sort.TheVariants.{Word, Quoted, Number, Literal, Symbol}
use Rattle.rs_lex.specs.declared.token.Token.{Token}
use Rattle.rs_lex.specs.declared.front.Front.TheVariants.{Gap, Found, Bad, Wide}
use Rattle.rs_lex.proofs.SpellingFacts.{chosen, closed_length-within, TokensInOrder-spelled}
use Rattle.rs_lex.proofs.FrontFacts.{closed_length-other, closed_length-doubled}

-- tokens in order from a place on begin there or behind it
TokensInOrder-starts : (from : ℕ) (tokens : List Token) (to : ℕ) → TokensInOrder from tokens to → All (λ token. from ≤ token.at.start) tokens
TokensInOrder-starts from [] to h k d lt = absurd (omega (arith, lt))
TokensInOrder-starts from (token ∷ rest) to h zero d lt = h.0
TokensInOrder-starts from (token ∷ rest) to h (suc k) d lt =
    let later = TokensInOrder-starts token.at.end rest to h.2 k d (omega (arith, lt)) in
    omega (arith, later, h.0, h.1)

-- what remains from a token on, told from a place further on
from_token-further : (at n : ℕ) (bytes : List ℕ) (token : Token) → at + n ≤ token.at.start → from_token (at + n) (drop n bytes) token ≡ from_token at bytes token
from_token-further at n bytes token le =
    let same : n + (token.at.start - (at + n)) ≡ token.at.start - at = omega (arith, le) in
    drop-drop (token.at.start - (at + n)) n bytes ∙ ap (λ i. drop i bytes) same

-- what holds of each token that is found at the front of some bytes holds of each token that bytes spell
pub each_token : (P : Sort → ℕ → List ℕ → Type 0) → ((rest : List ℕ) (sort : Sort) (n : ℕ) → front_of rest ≡ Found sort n → P sort n rest)
    → (at : ℕ) (bytes : List ℕ) (tokens : List Token) → Spells at bytes tokens → All (λ token. P token.sort (token_length token) (from_token at bytes token)) tokens
each_token P found at bytes tokens (nothing _ _ e) = λ k d lt. absurd (omega (arith, lt))
each_token P found at bytes tokens (spelling.Spells.passes _ n _ _ e h) =
    go (TokensInOrder-starts (at + n) tokens (at + n + length (drop n bytes)) (TokensInOrder-spelled (at + n) (drop n bytes) tokens h)) (each_token P found (at + n) (drop n bytes) tokens h)
  where
    go : All (λ token. at + n ≤ token.at.start) tokens → All (λ token. P token.sort (token_length token) (from_token (at + n) (drop n bytes) token)) tokens
        → All (λ token. P token.sort (token_length token) (from_token at bytes token)) tokens
    go before behind = λ k d lt. rw (from_token-further at n bytes (get_or tokens k d) (before k d lt)) at (behind k d lt)
each_token P found at bytes tokens (spelling.Spells.takes _ n sort _ rest e h) =
    go (TokensInOrder-starts (at + n) rest (at + n + length (drop n bytes)) (TokensInOrder-spelled (at + n) (drop n bytes) rest h)) (each_token P found (at + n) (drop n bytes) rest h)
  where
    go : All (λ token. at + n ≤ token.at.start) rest → All (λ token. P token.sort (token_length token) (from_token (at + n) (drop n bytes) token)) rest
        → All (λ token. P token.sort (token_length token) (from_token at bytes token)) (token_at at sort n ∷ rest)
    go before behind zero d lt =
        let size : at + n - at ≡ n = omega arith in
        let here : at - at ≡ 0 = omega arith in
        rw (size, here) (found bytes sort n e)
    go before behind (suc k) d lt =
        let less : k < length rest = omega (arith, lt) in
        rw (from_token-further at n bytes (get_or rest k d) (before k d less)) at (behind k d less)

-- two fronts that are one have one sort and one length
found_same : (P : Sort → ℕ → Type 0) (s sort : Sort) (k n : ℕ) → Found s k ≡ Found sort n → P s k → P sort n
found_same P s sort k n e h =
    let one : s ≡ sort = cc in
    let two : k ≡ n = cc in
    rw (← one, ← two) h

-- the sort of what begins with a byte
abbrev pub sort_of : ℕ → Sort
sort_of byte = if is_letter byte then Word else if is_digit byte then Number else if byte == quote then Quoted else if byte == apostrophe then Literal else Symbol

-- the ways in which a token is found, by its first byte and what follows it
pub record Ways (P : Sort → ℕ → Type 0) (byte : ℕ) (rest : List ℕ) : Type 0 where
  pub word : is_letter byte ≡ true → sort_of byte ≡ Word → P Word (run_length is_word_byte (byte ∷ rest))
  pub number : is_digit byte ≡ true → sort_of byte ≡ Number → nat_le (number_of (take (run_length is_digit (byte ∷ rest)) (byte ∷ rest))) greatest_int ≡ true
      → begins is_letter (drop (run_length is_digit (byte ∷ rest)) (byte ∷ rest)) ≡ false → P Number (run_length is_digit (byte ∷ rest))
  pub quoted : byte ≡ quote → sort_of byte ≡ Quoted → (k : ℕ) → closed_length quote rest ≡ Some k → (k == 1) ≡ false → P Quoted (k + 1)
  pub literal : byte ≡ apostrophe → sort_of byte ≡ Literal → (k : ℕ) → closed_length apostrophe rest ≡ Some k → P Literal (k + 1)
  pub pair : begins (is_pair byte) rest ≡ true → sort_of byte ≡ Symbol → P Symbol 2
  pub single : begins (is_pair byte) rest ≡ false → is_symbol byte ≡ true → sort_of byte ≡ Symbol → begins_comment byte rest ≡ false → P Symbol 1

-- a number that is found
number_front-found : (P : Sort → ℕ → Type 0) (bytes : List ℕ) (sort : Sort) (n : ℕ)
    → (nat_le (number_of (take (run_length is_digit bytes) bytes)) greatest_int ≡ true → begins is_letter (drop (run_length is_digit bytes) bytes) ≡ false
    → P Number (run_length is_digit bytes))
    → number_front bytes ≡ Found sort n → P sort n
number_front-found P bytes sort n found e =
    let digits = run_length is_digit bytes in
    elim (chosen (nat_le (number_of (take digits bytes)) greatest_int) (if begins is_letter (drop digits bytes) then Bad digits else Found Number digits) Wide (Found sort n) e) [
      | inl fits ↦ elim (chosen (begins is_letter (drop digits bytes)) (Bad digits) (Found Number digits) (Found sort n) fits.1) [
        | inl letter ↦ let f = letter.1 in cc
        | inr no_letter ↦ found_same P Number sort digits n no_letter.1 (found fits.0 no_letter.0)
      ]
      | inr wide ↦ let f = wide.1 in cc
    ]

-- a text that is found
literal_front-found : (P : Sort → ℕ → Type 0) (end : Option ℕ) (sort : Sort) (n : ℕ) → ((k : ℕ) → end ≡ Some k → P Literal (k + 1)) → literal_front end ≡ Found sort n → P sort n
literal_front-found P None sort n found e = cc
literal_front-found P (Some k) sort n found e = found_same P Literal sort (k + 1) n e (found k refl)

-- a name between marks that is found
quoted_front-found : (P : Sort → ℕ → Type 0) (end : Option ℕ) (sort : Sort) (n : ℕ) → ((k : ℕ) → end ≡ Some k → (k == 1) ≡ false → P Quoted (k + 1))
    → quoted_front end ≡ Found sort n → P sort n
quoted_front-found P None sort n found e = cc
quoted_front-found P (Some k) sort n found e =
    elim (chosen (k == 1) (Bad 0) (Found Quoted (k + 1)) (Found sort n) e) [
      | inl empty ↦ let f = empty.1 in cc
      | inr some ↦ found_same P Quoted sort (k + 1) n some.1 (found k refl some.0)
    ]

-- a symbol that is found
symbol_front-found : (P : Sort → ℕ → Type 0) (byte : ℕ) (rest : List ℕ) (sort : Sort) (n : ℕ) → (begins (is_pair byte) rest ≡ true → P Symbol 2)
    → (begins (is_pair byte) rest ≡ false → is_symbol byte ≡ true → P Symbol 1) → symbol_front byte rest ≡ Found sort n → P sort n
symbol_front-found P byte rest sort n pair single e =
    elim (chosen (begins (is_pair byte) rest) (Found Symbol 2) (if is_symbol byte then Found Symbol 1 else Bad 0) (Found sort n) e) [
      | inl two ↦ found_same P Symbol sort 2 n two.1 (pair two.0)
      | inr other ↦ elim (chosen (is_symbol byte) (Found Symbol 1) (Bad 0) (Found sort n) other.1) [
        | inl one ↦ found_same P Symbol sort 1 n one.1 (single other.0 one.0)
        | inr none ↦ let f = none.1 in cc
      ]
    ]

-- what is found, is found in one of these ways
pub front_of-ways : (P : Sort → ℕ → Type 0) (byte : ℕ) (rest : List ℕ) (sort : Sort) (n : ℕ) → Ways P byte rest → front_of (byte ∷ rest) ≡ Found sort n → P sort n
unfolding front_of
front_of-ways P byte rest sort n ways e =
    let symbol = symbol_front byte rest in
    let literal = if byte == apostrophe then literal_front (closed_length apostrophe rest) else symbol in
    let quoted = if byte == quote then quoted_front (closed_length quote rest) else literal in
    let number = if is_digit byte then number_front (byte ∷ rest) else quoted in
    let word = if is_letter byte then Found Word (run_length is_word_byte (byte ∷ rest)) else number in
    let comment = if begins_comment byte rest then Gap (run_length (λ c. not (c == 10)) (byte ∷ rest)) else word in
    elim (chosen (is_blank byte) (Gap (run_length is_blank (byte ∷ rest))) comment (Found sort n) e) [
      | inl x ↦ let f = x.1 in cc
      | inr a ↦ elim (chosen (begins_comment byte rest) (Gap (run_length (λ c. not (c == 10)) (byte ∷ rest))) word (Found sort n) a.1) [
        | inl x ↦ let f = x.1 in cc
        | inr b ↦ elim (chosen (is_letter byte) (Found Word (run_length is_word_byte (byte ∷ rest))) number (Found sort n) b.1) [
          | inl x ↦ found_same P Word sort (run_length is_word_byte (byte ∷ rest)) n x.1 (ways.word x.0 (rw x.0 refl))
          | inr c ↦ elim (chosen (is_digit byte) (number_front (byte ∷ rest)) quoted (Found sort n) c.1) [
            | inl x ↦ number_front-found P (byte ∷ rest) sort n (ways.number x.0 (rw (c.0, x.0) refl)) x.1
            | inr d ↦ elim (chosen (byte == quote) (quoted_front (closed_length quote rest)) literal (Found sort n) d.1) [
              | inl x ↦ quoted_front-found P (closed_length quote rest) sort n (ways.quoted (eqb-true byte quote x.0) (rw (c.0, d.0, x.0) refl)) x.1
              | inr f ↦ elim (chosen (byte == apostrophe) (literal_front (closed_length apostrophe rest)) symbol (Found sort n) f.1) [
                | inl x ↦ literal_front-found P (closed_length apostrophe rest) sort n (ways.literal (eqb-true byte apostrophe x.0) (rw (c.0, d.0, f.0, x.0) refl)) x.1
                | inr g ↦ symbol_front-found P byte rest sort n (λ p. ways.pair p (rw (c.0, d.0, f.0, g.0) refl)) (λ p s. ways.single p s (rw (c.0, d.0, f.0, g.0) refl) b.0) g.1
              ]
            ]
          ]
        ]
      ]
    ]

-- the bytes of a run pass the test
pub run-passes : (test : ℕ → Bool) (bytes : List ℕ) → list_all test (take (run_length test bytes) bytes) ≡ true
run-passes test [] = refl
run-passes test (byte ∷ rest) = rw take_while-cons (go (test byte) refl (run-passes test rest))
  where
    go : (b : Bool) → test byte ≡ b → list_all test (take (run_length test rest) rest) ≡ true
        → list_all test (take (length (cond b (byte ∷ take_while test rest) [])) (byte ∷ rest)) ≡ true
    go true e h = rw (e, h) refl
    go false e h = refl

-- this many bytes that pass the test are no more than the run
pub run-longest : (test : ℕ → Bool) (bytes : List ℕ) (m : ℕ) → m ≤ length bytes → list_all test (take m bytes) ≡ true → m ≤ run_length test bytes
run-longest test bytes zero le e = omega arith
run-longest test [] (suc m) le e = absurd (omega (arith, le))
run-longest test (byte ∷ rest) (suc m) le e =
    let both = and_parts (test byte) (list_all test (take m rest)) e in
    let more = run-longest test rest m (omega (arith, le)) both.1 in
    rw (take_while-cons, both.0) (omega (arith, more))

-- a run whose first byte passes
pub run-first : (test : ℕ → Bool) (byte : ℕ) (rest : List ℕ) → test byte ≡ true → run_length test (byte ∷ rest) ≡ suc (run_length test rest)
run-first test byte rest e = rw (take_while-cons, e) refl

-- a symbol of one byte, as one of the list
symbol_at : (byte c k : ℕ) → (byte == c) ≡ true → k < 16 → get_or symbols k (c ∷ []) ≡ c ∷ [] → Contains symbols (byte ∷ [])
symbol_at byte c k e lt is = let same : byte ≡ c = eqb-true byte c e in rw same (k, lt, is)

-- one of two
pub or_parts : {P : Type 0} (a b : Bool) → (a || b) ≡ true → (a ≡ true → P) → (b ≡ true → P) → P
or_parts true b e first second = first refl
or_parts false b e first second = second e

Contains-single : (byte : ℕ) → is_symbol byte ≡ true → Contains symbols (byte ∷ [])
Contains-single byte e =
    let to4 = (byte == 40) || (byte == 41) || (byte == 44) || (byte == 59) in
    let to8 = to4 || (byte == 46) || (byte == 43) || (byte == 45) || (byte == 42) in
    let to11 = to8 || (byte == 47) || (byte == 61) || (byte == 60) in
    or_parts to11 (byte == 62) e
    (λ a. or_parts (to8 || (byte == 47) || (byte == 61)) (byte == 60) a
    (λ b. or_parts (to8 || (byte == 47)) (byte == 61) b
    (λ c. or_parts to8 (byte == 47) c
    (λ d. or_parts (to4 || (byte == 46) || (byte == 43) || (byte == 45)) (byte == 42) d
    (λ f. or_parts (to4 || (byte == 46) || (byte == 43)) (byte == 45) f
    (λ g. or_parts (to4 || (byte == 46)) (byte == 43) g
    (λ h. or_parts to4 (byte == 46) h
    (λ i. or_parts ((byte == 40) || (byte == 41) || (byte == 44)) (byte == 59) i
    (λ j. or_parts ((byte == 40) || (byte == 41)) (byte == 44) j
    (λ k. or_parts (byte == 40) (byte == 41) k
    (λ x. symbol_at byte 40 0 x (lit< tt) refl)
    (λ x. symbol_at byte 41 1 x (lit< tt) refl))
    (λ x. symbol_at byte 44 2 x (lit< tt) refl))
    (λ x. symbol_at byte 59 3 x (lit< tt) refl))
    (λ x. symbol_at byte 46 4 x (lit< tt) refl))
    (λ x. symbol_at byte 43 5 x (lit< tt) refl))
    (λ x. symbol_at byte 45 6 x (lit< tt) refl))
    (λ x. symbol_at byte 42 7 x (lit< tt) refl))
    (λ x. symbol_at byte 47 8 x (lit< tt) refl))
    (λ x. symbol_at byte 61 9 x (lit< tt) refl))
    (λ x. symbol_at byte 60 12 x (lit< tt) refl))
    (λ x. symbol_at byte 62 14 x (lit< tt) refl)

-- a symbol of two bytes, as one of the list
pair_at : (byte next c d k : ℕ) → (byte == c) ≡ true → (next == d) ≡ true → k < 16 → get_or symbols k (c ∷ d ∷ []) ≡ c ∷ d ∷ [] → Contains symbols (byte ∷ next ∷ [])
pair_at byte next c d k e f lt is =
    let same : byte ≡ c = eqb-true byte c e in
    let same2 : next ≡ d = eqb-true next d f in
    rw (same, same2) (k, lt, is)

pub Contains-pair : (byte next : ℕ) → is_pair byte next ≡ true → Contains symbols (byte ∷ next ∷ [])
Contains-pair byte next e =
    let below = (byte == 60) && ((next == 62) || (next == 61)) in
    let not_equal = (byte == 33) && (next == 61) in
    or_parts (below || not_equal) ((byte == 62) && (next == 61)) e
    (λ a. or_parts below not_equal a
    (λ b. let both = and_parts (byte == 60) ((next == 62) || (next == 61)) b in
    or_parts (next == 62) (next == 61) both.1
    (λ x. pair_at byte next 60 62 10 both.0 x (lit< tt) refl)
    (λ x. pair_at byte next 60 61 13 both.0 x (lit< tt) refl))
    (λ b. let both = and_parts (byte == 33) (next == 61) b in pair_at byte next 33 61 11 both.0 both.1 (lit< tt) refl))
    (λ a. let both = and_parts (byte == 62) (next == 61) a in pair_at byte next 62 61 15 both.0 both.1 (lit< tt) refl)

-- what each symbol has in common
pub symbol-passes : (test : List ℕ → Bool) (bytes : List ℕ) → list_all test symbols ≡ true → Contains symbols bytes → test bytes ≡ true
symbol-passes test bytes e h = All-contains (λ symbol. test symbol ≡ true) symbols bytes (AllPass-from_list_all test symbols e) h

-- an end that lies this many bytes further
pub option_map-some : (k n : ℕ) (end : Option ℕ) → option_map (λ i. i + k) end ≡ Some n → (m : ℕ) × (end ≡ Some m) × (n ≡ m + k)
option_map-some k n None e = cc
option_map-some k n (Some m) e = (m, refl, cc)

-- a doubled text whose first byte is a mark, or isn't
pub doubled-mark : (mark byte : ℕ) (text : List ℕ) → (byte == mark) ≡ true → doubled mark (byte ∷ text) ≡ byte ∷ byte ∷ doubled mark text
doubled-mark mark byte text e = rw e refl

pub doubled-other : (mark byte : ℕ) (text : List ℕ) → (byte == mark) ≡ false → doubled mark (byte ∷ text) ≡ byte ∷ doubled mark text
doubled-other mark byte text e = rw e refl

-- what closes a text, with a doubled mark in front, and with another byte
closes-mark : (mark byte next m k : ℕ) (text rest : List ℕ) → (byte == mark) ≡ true → (next == mark) ≡ true → k ≡ m + 2 → take m rest ≡ doubled mark text ++ (mark ∷ [])
    → take k (byte ∷ next ∷ rest) ≡ doubled mark (byte ∷ text) ++ (mark ∷ [])
closes-mark mark byte next m k text rest e f size h =
    let two : k ≡ suc (suc m) = omega (arith, size) in
    let same : next ≡ byte = eqb-true next mark f ∙ sym (eqb-true byte mark e) in
    rw (doubled-mark mark byte text e, two, same, ← h) refl

closes-other : (mark byte m k : ℕ) (text rest : List ℕ) → (byte == mark) ≡ false → k ≡ m + 1 → take m rest ≡ doubled mark text ++ (mark ∷ [])
    → take k (byte ∷ rest) ≡ doubled mark (byte ∷ text) ++ (mark ∷ [])
closes-other mark byte m k text rest e size h =
    let one : k ≡ suc m = omega (arith, size) in
    rw (doubled-other mark byte text e, one, ← h) refl

-- what closes a text is a text in which each mark is doubled, and the mark
pub closed-is_doubled : (mark : ℕ) (bytes : List ℕ) (k : ℕ) → closed_length mark bytes ≡ Some k → (text : List ℕ) × (take k bytes ≡ doubled mark text ++ (mark ∷ []))
closed-is_doubled mark [] k e = cc
closed-is_doubled mark (byte ∷ []) k e =
    elim (chosen (byte == mark) (Some 1) None (Some k) e) [
      | inl closes ↦
          let f = closes.1 in
          let one : 1 ≡ k = cc in
          let same : byte ≡ mark = eqb-true byte mark closes.0 in
          ([], rw (← one, same) refl)
      | inr other ↦ let f = other.1 in cc
    ]
closed-is_doubled mark (byte ∷ next ∷ rest) k e =
    elim (chosen (byte == mark) (if next == mark then option_map (λ n. n + 2) (closed_length mark rest) else Some 1) (option_map (λ n. n + 1) (closed_length mark (next ∷ rest))) (Some k) e) [
      | inl first ↦
          let is : byte ≡ mark = eqb-true byte mark first.0 in
          elim (chosen (next == mark) (option_map (λ n. n + 2) (closed_length mark rest)) (Some 1) (Some k) first.1) [
            | inl second ↦
                let (m, f, size) = option_map-some 2 k (closed_length mark rest) second.1 in
                let (text, h) = closed-is_doubled mark rest m f in
                (byte ∷ text, closes-mark mark byte next m k text rest first.0 second.0 size h)
            | inr other ↦
                let f = other.1 in
                let one : 1 ≡ k = cc in
                ([], rw (← one, is) refl)
          ]
      | inr other ↦
          let (m, f, size) = option_map-some 1 k (closed_length mark (next ∷ rest)) other.1 in
          let (text, h) = closed-is_doubled mark (next ∷ rest) m f in
          (byte ∷ text, closes-other mark byte m k text (next ∷ rest) other.0 size h)
    ]

-- a text in which each mark is doubled isn't closed in front of the mark behind it
pub doubled-is_closed : (mark : ℕ) (text after : List ℕ) (k : ℕ) → closed_length mark (doubled mark text ++ (mark ∷ after)) ≡ Some k → length (doubled mark text) < k
doubled-is_closed mark [] after k e =
    let within : IfSome (Some k) (λ n. (1 ≤ n) × (n ≤ length (mark ∷ after))) = rw e at (closed_length-within mark (mark ∷ after)) in
    omega (arith, within.0)
doubled-is_closed mark (byte ∷ rest) after k e =
    go (byte == mark) refl (doubled-is_closed mark rest after)
  where
    go : (b : Bool) → (byte == mark) ≡ b → ((m : ℕ) → closed_length mark (doubled mark rest ++ (mark ∷ after)) ≡ Some m → length (doubled mark rest) < m)
        → length (doubled mark (byte ∷ rest)) < k
    go true is h =
        let step : closed_length mark (doubled mark (byte ∷ rest) ++ (mark ∷ after)) ≡ option_map (λ n. n + 2) (closed_length mark (doubled mark rest ++ (mark ∷ after)))
        = rw (doubled-mark mark byte rest is) (closed_length-doubled mark byte byte (doubled mark rest ++ (mark ∷ after)) is is) in
        let (m, f, size) = option_map-some 2 k (closed_length mark (doubled mark rest ++ (mark ∷ after))) (sym step ∙ e) in
        let less = h m f in
        rw (doubled-mark mark byte rest is) (omega (arith, size, less))
    go false is h =
        let step : closed_length mark (doubled mark (byte ∷ rest) ++ (mark ∷ after)) ≡ option_map (λ n. n + 1) (closed_length mark (doubled mark rest ++ (mark ∷ after)))
        = rw (doubled-other mark byte rest is) (closed_length-other mark byte (doubled mark rest ++ (mark ∷ after)) is) in
        let (m, f, size) = option_map-some 1 k (closed_length mark (doubled mark rest ++ (mark ∷ after))) (sym step ∙ e) in
        let less = h m f in
        rw (doubled-other mark byte rest is) (omega (arith, size, less))

-- a text that was found, and its marks
between-found : (mark : ℕ) (rest : List ℕ) (k : ℕ) → closed_length mark rest ≡ Some k → (text : List ℕ) × (take (k + 1) (mark ∷ rest) ≡ between mark text)
between-found mark rest k e =
    let (text, h) = closed-is_doubled mark rest k e in
    let one : k + 1 ≡ suc k = omega arith in
    (text, rw (one, ← h) refl)

-- where a text that was found is empty, it was closed by the first byte
between-empty : (mark : ℕ) (rest : List ℕ) (k : ℕ) → closed_length mark rest ≡ Some k → take (k + 1) (mark ∷ rest) ≡ between mark [] → k ≡ 1
between-empty mark rest k e is =
    let within : IfSome (Some k) (λ n. (1 ≤ n) × (n ≤ length rest)) = rw e at (closed_length-within mark rest) in
    let size : length (take (k + 1) (mark ∷ rest)) ≡ k + 1 = length-take-le (k + 1) (mark ∷ rest) (omega (arith, within.1)) in
    let two : length (take (k + 1) (mark ∷ rest)) ≡ 2 = ap length is in
    omega (arith, size, two)

-- what was found at the front of some bytes is a token
pub front-is_token : (rest : List ℕ) (sort : Sort) (n : ℕ) → front_of rest ≡ Found sort n → IsToken sort (take n rest)
unfolding front_of
front-is_token [] sort n e = cc
front-is_token (byte ∷ rest) sort n e =
    front_of-ways (λ s k. IsToken s (take k (byte ∷ rest))) byte rest sort n (record {
      word = λ is _. word is;
      number = λ is _ fits _. number is fits;
      quoted = λ is _ k f some. rw is (quoted k f some);
      literal = λ is _ k f. rw is (between-found apostrophe rest k f);
      pair = λ is _. pair rest is;
      single = λ _ is _ _. Contains-single byte is;
    }) e
  where
    word : is_letter byte ≡ true → is_word (take (run_length is_word_byte (byte ∷ rest)) (byte ∷ rest)) ≡ true
    word is =
        let all = run-passes is_word_byte (byte ∷ rest) in
        let size = run-first is_word_byte byte rest (or_left (is_letter byte) (is_digit byte) is) in
        rw (size, is) (and_parts (is_word_byte byte) (list_all is_word_byte (take (run_length is_word_byte rest) rest)) (rw size at all)).1

    number : is_digit byte ≡ true → nat_le (number_of (take (run_length is_digit (byte ∷ rest)) (byte ∷ rest))) greatest_int ≡ true → IsToken Number (take (run_length is_digit (byte ∷ rest)) (byte ∷ rest))
    number is fits =
        let all = run-passes is_digit (byte ∷ rest) in
        let size = run-first is_digit byte rest is in
        (rw size (rw size at all), leb-true (number_of (take (run_length is_digit (byte ∷ rest)) (byte ∷ rest))) greatest_int fits)

    quoted : (k : ℕ) → closed_length quote rest ≡ Some k → (k == 1) ≡ false → IsToken Quoted (take (k + 1) (quote ∷ rest))
    quoted k f some = go (between-found quote rest k f)
      where
        go : (text : List ℕ) × (take (k + 1) (quote ∷ rest) ≡ between quote text) → IsToken Quoted (take (k + 1) (quote ∷ rest))
        go ([], h) = absurd (eqb-false k 1 some (between-empty quote rest k f h))
        go (first ∷ more, h) = (first ∷ more, omega arith, h)

    pair : (after : List ℕ) → begins (is_pair byte) after ≡ true → Contains symbols (take 2 (byte ∷ after))
    pair [] is = cc
    pair (next ∷ after) is = Contains-pair byte next is

-- a symbol begins with no letter, digit or mark
unfoldable pub no_other : ℕ → Bool
no_other byte = not (is_letter byte) && not (is_digit byte) && not (byte == quote) && not (byte == apostrophe)

sort_of-no_other : (byte : ℕ) → no_other byte ≡ true → sort_of byte ≡ Symbol
unfolding no_other
sort_of-no_other byte e = go (is_letter byte) (is_digit byte) (byte == quote) (byte == apostrophe) e
  where
    go : (a b c d : Bool) → (not a && not b && not c && not d) ≡ true → (if a then Word else if b then Number else if c then Quoted else if d then Literal else Symbol) ≡ Symbol
    go true b c d e = cc
    go false true c d e = cc
    go false false true d e = cc
    go false false false true e = cc
    go false false false false e = refl

-- the bytes of a symbol: one that may be alone, or a pair
unfoldable pub is_spelling : List ℕ → Bool
is_spelling [] = false
is_spelling (byte ∷ []) = is_symbol byte
is_spelling (byte ∷ next ∷ []) = is_pair byte next
is_spelling (byte ∷ next ∷ third ∷ rest) = false

pub symbol-is_spelling : (bytes : List ℕ) → Contains symbols bytes → is_spelling bytes ≡ true
unfolding is_spelling
symbol-is_spelling bytes h = symbol-passes is_spelling bytes refl h

-- a digit is no letter
pub letter-digit : (byte : ℕ) → is_digit byte ≡ true → is_letter byte ≡ false
letter-digit byte e =
    let parts = and_parts (nat_le 48 byte) (nat_le byte 57) e in
    let le = leb-true byte 57 parts.1 in
    rw (lt-leb 65 byte (omega (arith, le)), lt-leb 97 byte (omega (arith, le)), ne_eqb byte 95 (λ e. omega (arith, le, e))) refl

-- a token's first byte tells its sort
pub IsToken-first : (sort : Sort) (byte : ℕ) (rest : List ℕ) → IsToken sort (byte ∷ rest) → sort_of byte ≡ sort
unfolding no_other
IsToken-first Word byte rest h = rw (and_parts (is_letter byte) (list_all is_word_byte rest) h).0 refl
IsToken-first Quoted byte rest (name, some, e) = let same : byte ≡ quote = cc in rw same refl
IsToken-first Number byte rest h =
    let first = (and_parts (is_digit byte) (list_all is_digit rest) h.0).0 in
    rw (letter-digit byte first, first) refl
IsToken-first Literal byte rest (text, e) = let same : byte ≡ apostrophe = cc in rw same refl
IsToken-first Symbol byte rest h = sort_of-no_other byte (symbol-passes (λ symbol. begins no_other symbol) (byte ∷ rest) refl h)

-- what stands behind the first byte of one list
pub tail_of : {a b : ℕ} {xs ys : List ℕ} → a ∷ xs ≡ b ∷ ys → xs ≡ ys
tail_of e = cc

-- no more than this many bytes of these are a token
abbrev IsLongest : List ℕ → Sort → ℕ → Type 0
IsLongest bytes sort n = (other : Sort) (m : ℕ) → n < m → m ≤ length bytes → IsToken other (take m bytes) → ⊥

-- it is enough that they are none of the one sort that the first byte tells
IsLongest-sort : (byte : ℕ) (rest : List ℕ) (sort : Sort) (n : ℕ) → sort_of byte ≡ sort → ((m : ℕ) → n ≤ m → m ≤ length rest → IsToken sort (byte ∷ take m rest) → ⊥) → IsLongest (byte ∷ rest) sort n
IsLongest-sort byte rest sort n first none other zero lt le h = omega (arith, lt)
IsLongest-sort byte rest sort n first none other (suc m) lt le h =
    let same : other ≡ sort = sym (IsToken-first other byte (take m rest) h) ∙ first in
    none m (omega (arith, lt)) (omega (arith, le)) (rw same at h)

-- a longer text between marks would have been closed before
pub closed-is_longest : (mark : ℕ) (rest : List ℕ) (k : ℕ) → closed_length mark rest ≡ Some k → (m : ℕ) → k < m → m ≤ length rest → (text : List ℕ) → take m rest ≡ doubled mark text ++ (mark ∷ []) → ⊥
closed-is_longest mark rest k e m lt le text h =
    let split : rest ≡ doubled mark text ++ (mark ∷ drop m rest) = sym (take-append-drop m rest) ∙ ap (λ front. front ++ drop m rest) h ∙ append_assoc (doubled mark text) (mark ∷ []) (drop m rest) in
    let closed : closed_length mark (doubled mark text ++ (mark ∷ drop m rest)) ≡ Some k = ap (closed_length mark) (sym split) ∙ e in
    let before = doubled-is_closed mark text (drop m rest) k closed in
    let size : m ≡ length (doubled mark text) + 1 = sym (length-take-le m rest le) ∙ ap length h ∙ length-append (doubled mark text) (mark ∷ []) in
    omega (arith, lt, before, size)

-- a run is the longest one
run-is_longest : (test : ℕ → Bool) (byte : ℕ) (rest : List ℕ) → test byte ≡ true → (m : ℕ) → run_length test (byte ∷ rest) ≤ m → m ≤ length rest → list_all test (take m rest) ≡ true → ⊥
run-is_longest test byte rest first m lt le all =
    let size = run-first test byte rest first in
    let most = run-longest test rest m le all in
    omega (arith, lt, size, most)

-- three bytes are no symbol, and two only where they are a pair
three-are_no_symbol : (byte : ℕ) (rest : List ℕ) (m : ℕ) → 2 ≤ m → m ≤ length rest → is_spelling (byte ∷ take m rest) ≡ true → ⊥
unfolding is_spelling
three-are_no_symbol byte [] m lt le e = omega (arith, lt, le)
three-are_no_symbol byte (next ∷ []) m lt le e = omega (arith, lt, le)
three-are_no_symbol byte (next ∷ third ∷ rest) zero lt le e = omega (arith, lt)
three-are_no_symbol byte (next ∷ third ∷ rest) (suc zero) lt le e = omega (arith, lt)
three-are_no_symbol byte (next ∷ third ∷ rest) (suc (suc m)) lt le e = cc

pub two-are_no_symbol : (byte : ℕ) (rest : List ℕ) (m : ℕ) → begins (is_pair byte) rest ≡ false → 1 ≤ m → m ≤ length rest → is_spelling (byte ∷ take m rest) ≡ true → ⊥
unfolding is_spelling
two-are_no_symbol byte rest zero none lt le e = omega (arith, lt)
two-are_no_symbol byte [] (suc m) none lt le e = omega (arith, le)
two-are_no_symbol byte (next ∷ rest) (suc zero) none lt le e = cc
two-are_no_symbol byte (next ∷ rest) (suc (suc m)) none lt le e = three-are_no_symbol byte (next ∷ rest) (suc (suc m)) (omega arith) le e

-- what was found at the front of some bytes is the longest token there
pub front-is_longest : (rest : List ℕ) (sort : Sort) (n : ℕ) → front_of rest ≡ Found sort n → (other : Sort) (m : ℕ) → n < m → m ≤ length rest → IsToken other (take m rest) → ⊥
unfolding front_of
front-is_longest [] sort n e = cc
front-is_longest (byte ∷ rest) sort n e =
    front_of-ways (IsLongest (byte ∷ rest)) byte rest sort n (record {
      word = λ is first. IsLongest-sort byte rest Word (run_length is_word_byte (byte ∷ rest)) first (λ m lt le h.
          run-is_longest is_word_byte byte rest (or_left (is_letter byte) (is_digit byte) is) m lt le (and_parts (is_letter byte) (list_all is_word_byte (take m rest)) h).1);
      number = λ is first _ _. IsLongest-sort byte rest Number (run_length is_digit (byte ∷ rest)) first (λ m lt le h.
          run-is_longest is_digit byte rest is m lt le (and_parts (is_digit byte) (list_all is_digit (take m rest)) h.0).1);
      quoted = λ is first k f _. IsLongest-sort byte rest Quoted (k + 1) first (λ m lt le h.
          let (name, some, g) = h in
          closed-is_longest quote rest k f m (omega (arith, lt)) le name (tail_of g));
      literal = λ is first k f. IsLongest-sort byte rest Literal (k + 1) first (λ m lt le h.
          let (text, g) = h in
          closed-is_longest apostrophe rest k f m (omega (arith, lt)) le text (tail_of g));
      pair = λ is first. IsLongest-sort byte rest Symbol 2 first (λ m lt le h. three-are_no_symbol byte rest m lt le (symbol-is_spelling (byte ∷ take m rest) h));
      single = λ none is first _. IsLongest-sort byte rest Symbol 1 first (λ m lt le h. two-are_no_symbol byte rest m none lt le (symbol-is_spelling (byte ∷ take m rest) h));
    }) e
