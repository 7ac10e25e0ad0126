-- A token ends where the next byte doesn't go on with it, and what ends there is taken.
use Rattle.std.proofs.Common.{ℕ, zero, suc, ◌≡◌, ◌+◌, ◌≤◌, ◌==◌, nat_le, inl, inr, Bool, true, false, ◌&&◌, ◌||◌, List, [], ◌∷◌, ◌++◌, length, take, drop, Some, None, refl, sym, ap, add-one, ◌∙◌, arith, cond, if◌then◌else◌}
use Rattle.std.specs.Prelude.{option_map, take_while, not}
use Rattle.std.specs.List.{list_all}
use Rattle.std.proofs.lemmas.List.{take-append-drop, length-take-le, append_assoc, length-append}
use Rattle.std.proofs.lemmas.List.Sums.{take_while-cons}
use Rattle.std.proofs.lemmas.Bool.{eqb-true, eqb-false, le-leb, leb-true, eq-eqb, and_from, ne_eqb, and_parts, or_left, or_right}
use Rattle.rs_value.specs.Number.{number_of, greatest_int}
use Rattle.rs_lex.specs.Bytes.{is_letter, is_digit, is_word_byte, is_blank, begins, quote, apostrophe}
use Rattle.rs_lex.specs.Front.{front_of, run_length, closed_length, number_front, symbol_front, begins_comment, is_pair, is_symbol}
use Rattle.rs_lex.specs.Tokens.{IsToken, doubled, GoesOn, EndsAt}
use Rattle.rs_lex.specs.declared.token.Sort.{Sort}
use Rattle.rs_lex.specs.declared.token.Sort.TheVariants.{Word, Quoted, Number, Literal, Symbol}
use Rattle.rs_lex.specs.declared.front.Front.TheVariants.{Found}
use Rattle.rs_lex.proofs.SpellingFacts.{chosen}
use Rattle.rs_lex.proofs.FrontFacts.{closed_length-other, closed_length-doubled, taken, passed}
use Rattle.rs_lex.proofs.TokenFacts.{front_of-ways, run-longest, doubled-mark, doubled-other, option_map-some, no_other, is_spelling, symbol-is_spelling, letter-digit, tail_of, symbol-passes, or_parts, Contains-pair}

-- the byte behind a run doesn't pass the test
pub run-next : (test : ℕ → Bool) (bytes : List ℕ) (next : ℕ) (after : List ℕ) → drop (run_length test bytes) bytes ≡ next ∷ after → test next ≡ true → ⊥
run-next test [] next after e passes = cc
run-next test (byte ∷ rest) next after e passes = go (test byte) refl (rw take_while-cons at e) (run-next test rest next after)
  where
    go : (b : Bool) → test byte ≡ b → drop (length (cond b (byte ∷ take_while test rest) [])) (byte ∷ rest) ≡ next ∷ after
        → (drop (run_length test rest) rest ≡ next ∷ after → test next ≡ true → ⊥) → ⊥
    go true is f h = h f passes
    go false is f h = let same : byte ≡ next = cc in let no : test next ≡ false = rw same at is in cc

-- the byte behind what closes a text is no mark
closed-next : (mark : ℕ) (bytes : List ℕ) (k : ℕ) → closed_length mark bytes ≡ Some k → (after : List ℕ) → drop k bytes ≡ mark ∷ after → ⊥
closed-next mark [] k e after is = cc
closed-next mark (byte ∷ []) k e after is =
    elim (chosen (byte == mark) (Some 1) None (Some k) e) [
      | inl closes ↦
          let f = closes.1 in
          let one : k ≡ 1 = cc in
          let none : [] ≡ mark ∷ after = rw one at is in
          cc
      | inr other ↦ let f = other.1 in cc
    ]
closed-next mark (byte ∷ next ∷ rest) k e after is =
    elim (chosen (byte == mark) (if next == mark then option_map (λ n. n + 2) (closed_length mark rest) else Some 1) (option_map (λ n. n + 1) (closed_length mark (next ∷ rest))) (Some k) e) [
      | inl first ↦ elim (chosen (next == mark) (option_map (λ n. n + 2) (closed_length mark rest)) (Some 1) (Some k) first.1) [
        | inl second ↦
            let (m, f, size) = option_map-some 2 k (closed_length mark rest) second.1 in
            let two : k ≡ suc (suc m) = omega (arith, size) in
            closed-next mark rest m f after (rw two at is)
        | inr other ↦
            let f = other.1 in
            let one : k ≡ 1 = cc in
            let here : next ∷ rest ≡ mark ∷ after = rw one at is in
            let same : next ≡ mark = cc in
            eqb-false next mark other.0 same
      ]
      | inr other ↦
          let (m, f, size) = option_map-some 1 k (closed_length mark (next ∷ rest)) other.1 in
          let one : k ≡ suc m = omega (arith, size) in
          closed-next mark (next ∷ rest) m f after (rw one at is)
    ]

-- two lists with one more byte each
drop-next : (byte : ℕ) (rest : List ℕ) (k next : ℕ) (after : List ℕ) → drop (k + 1) (byte ∷ rest) ≡ next ∷ after → drop k rest ≡ next ∷ after
drop-next byte rest k next after e = let one : k + 1 ≡ suc k = omega arith in rw one at e

-- a pair and a third byte are no symbol and no comment
pair-ends : (byte : ℕ) (rest : List ℕ) (next : ℕ) (after : List ℕ) → drop 2 (byte ∷ rest) ≡ next ∷ after → GoesOn Symbol (take 2 (byte ∷ rest)) next → ⊥
unfolding is_spelling
pair-ends byte [] next after f goes = cc
pair-ends byte (second ∷ more) next after f (inl symbol) = let three = symbol-is_spelling (byte ∷ second ∷ next ∷ []) symbol in cc
pair-ends byte (second ∷ more) next after f (inr comment) = cc

-- a symbol of one byte and the next one are neither, where they are no pair and begin no comment
single-ends : (byte : ℕ) (rest : List ℕ) (next : ℕ) (after : List ℕ) → begins (is_pair byte) rest ≡ false → begins_comment byte rest ≡ false → drop 1 (byte ∷ rest) ≡ next ∷ after
    → GoesOn Symbol (take 1 (byte ∷ rest)) next → ⊥
unfolding is_spelling
single-ends byte [] next after none no_comment f goes = cc
single-ends byte (second ∷ more) next after none no_comment f (inl symbol) =
    let same : second ≡ next = cc in
    let no : is_pair byte next ≡ false = rw same at none in
    let two : is_pair byte next ≡ true = symbol-is_spelling (byte ∷ next ∷ []) symbol in
    cc
single-ends byte (second ∷ more) next after none no_comment f (inr comment) =
    let one : byte ≡ 45 = cc in
    let two : second ≡ 45 = cc in
    let no : true ≡ false = rw (one, two) at no_comment in
    cc

-- no byte goes on behind what was found
pub front-ends : (rest : List ℕ) (sort : Sort) (n : ℕ) → front_of rest ≡ Found sort n → EndsAt sort n rest
unfolding front_of
front-ends [] sort n e = cc
front-ends (byte ∷ rest) sort n e =
    front_of-ways (λ s k. EndsAt s k (byte ∷ rest)) byte rest sort n (record {
      word = λ is _ next after f goes. run-next is_word_byte (byte ∷ rest) next after f goes;
      number = λ is _ _ no_letter next after f goes. or_parts (is_letter next) (is_digit next) goes
          (λ letter. let none = rw f at no_letter in cc)
          (λ digit. run-next is_digit (byte ∷ rest) next after f digit);
      quoted = λ is _ k f _ next after g goes. closed-next quote rest k f after (rw goes at (drop-next byte rest k next after g));
      literal = λ is _ k f next after g goes. closed-next apostrophe rest k f after (rw goes at (drop-next byte rest k next after g));
      pair = λ is _ next after f goes. pair-ends byte rest next after f goes;
      single = λ none is _ no_comment next after f goes. single-ends byte rest next after none no_comment f goes;
    }) e

-- a run stops where the next byte doesn't pass
run-stops : (test : ℕ → Bool) (bytes : List ℕ) (n : ℕ) → ((next : ℕ) (after : List ℕ) → drop n bytes ≡ next ∷ after → test next ≡ true → ⊥) → run_length test bytes ≤ n
run-stops test [] n stops = omega arith
run-stops test (byte ∷ rest) zero stops = rw take_while-cons (go (test byte) refl)
  where
    go : (b : Bool) → test byte ≡ b → length (cond b (byte ∷ take_while test rest) []) ≤ 0
    go true is = absurd (stops byte rest refl is)
    go false is = omega arith
run-stops test (byte ∷ rest) (suc n) stops = rw take_while-cons (go (test byte) (run-stops test rest n stops))
  where
    go : (b : Bool) → run_length test rest ≤ n → length (cond b (byte ∷ take_while test rest) []) ≤ suc n
    go true h = omega (arith, h)
    go false h = omega arith

-- this many bytes that pass are the run, where the next one doesn't
pub run-is : (test : ℕ → Bool) (bytes : List ℕ) (n : ℕ) → n ≤ length bytes → list_all test (take n bytes) ≡ true
    → ((next : ℕ) (after : List ℕ) → drop n bytes ≡ next ∷ after → test next ≡ true → ⊥) → run_length test bytes ≡ n
run-is test bytes n le all stops =
    let least = run-longest test bytes n le all in
    let most = run-stops test bytes n stops in
    omega (arith, least, most)

-- a text in which each mark is doubled is closed by a mark that no second one follows
doubled-closes : (mark : ℕ) (text after : List ℕ) → ((next : ℕ) (rest : List ℕ) → after ≡ next ∷ rest → next ≡ mark → ⊥)
    → closed_length mark (doubled mark text ++ (mark ∷ after)) ≡ Some (length (doubled mark text) + 1)
doubled-closes mark [] [] ends = rw (eq-eqb mark mark refl) refl
doubled-closes mark [] (next ∷ rest) ends = rw (eq-eqb mark mark refl, ne_eqb next mark (λ same. ends next rest refl same)) refl
doubled-closes mark (byte ∷ text) after ends = go (byte == mark) refl (doubled-closes mark text after ends)
  where
    go : (b : Bool) → (byte == mark) ≡ b → closed_length mark (doubled mark text ++ (mark ∷ after)) ≡ Some (length (doubled mark text) + 1)
        → closed_length mark (doubled mark (byte ∷ text) ++ (mark ∷ after)) ≡ Some (length (doubled mark (byte ∷ text)) + 1)
    go true is h =
        let size : length (doubled mark text) + 1 + 2 ≡ suc (suc (length (doubled mark text))) + 1 = omega arith in
        rw (doubled-mark mark byte text is) (closed_length-doubled mark byte byte (doubled mark text ++ (mark ∷ after)) is is ∙ ap (option_map (λ n. n + 2)) h ∙ ap Some size)
    go false is h =
        let size : length (doubled mark text) + 1 + 1 ≡ suc (length (doubled mark text)) + 1 = omega arith in
        rw (doubled-other mark byte text is) (closed_length-other mark byte (doubled mark text ++ (mark ∷ after)) is ∙ ap (option_map (λ n. n + 1)) h ∙ ap Some size)

-- a byte that is greater than a space is no blank
pub above-blank : (byte : ℕ) → 33 ≤ byte → is_blank byte ≡ false
above-blank byte h =
    rw (ne_eqb byte 32 (λ e. omega (arith, h, e)), ne_eqb byte 9 (λ e. omega (arith, h, e)), ne_eqb byte 10 (λ e. omega (arith, h, e)), ne_eqb byte 13 (λ e. omega (arith, h, e))) refl

-- no comment begins with another byte than `-`
pub no_comment : (byte : ℕ) (rest : List ℕ) → (byte ≡ 45 → ⊥) → begins_comment byte rest ≡ false
no_comment byte rest other = rw (ne_eqb byte 45 other) refl

-- letters and digits are greater than `-`
letter-least : (byte : ℕ) → is_letter byte ≡ true → 65 ≤ byte
letter-least byte e =
    or_parts ((nat_le 65 byte && nat_le byte 90) || (nat_le 97 byte && nat_le byte 122)) (byte == 95) e
    (λ a. or_parts (nat_le 65 byte && nat_le byte 90) (nat_le 97 byte && nat_le byte 122) a
    (λ b. leb-true 65 byte (and_parts (nat_le 65 byte) (nat_le byte 90) b).0)
    (λ b. let least = leb-true 97 byte (and_parts (nat_le 97 byte) (nat_le byte 122) b).0 in omega (arith, least)))
    (λ a. let same = eqb-true byte 95 a in omega (arith, same))

pub digit-least : (byte : ℕ) → is_digit byte ≡ true → 48 ≤ byte
digit-least byte e = leb-true 48 byte (and_parts (nat_le 48 byte) (nat_le byte 57) e).0

-- a text with its marks doubled is no shorter
pub doubled-longer : (mark : ℕ) (text : List ℕ) → length text ≤ length (doubled mark text)
doubled-longer mark [] = omega arith
doubled-longer mark (byte ∷ text) = go (byte == mark) (doubled-longer mark text)
  where
    go : (b : Bool) → length text ≤ length (doubled mark text)
        → suc (length text) ≤ length (if b then byte ∷ byte ∷ doubled mark text else byte ∷ doubled mark text)
    go true h = omega (arith, h)
    go false h = omega (arith, h)

-- how long a text with its marks doubled is, and the mark behind it
pub doubled-length : (mark : ℕ) (rest : List ℕ) (m : ℕ) (text : List ℕ) → m ≤ length rest → take m rest ≡ doubled mark text ++ (mark ∷ []) → m ≡ length (doubled mark text) + 1
doubled-length mark rest m text le h = sym (length-take-le m rest le) ∙ ap length h ∙ length-append (doubled mark text) (mark ∷ [])

-- a text between marks closes at its last mark, where no second one follows
text-closes : (mark : ℕ) (rest : List ℕ) (m : ℕ) (text : List ℕ) → m ≤ length rest → take m rest ≡ doubled mark text ++ (mark ∷ [])
    → ((next : ℕ) (after : List ℕ) → drop m rest ≡ next ∷ after → next ≡ mark → ⊥) → closed_length mark rest ≡ Some m
text-closes mark rest m text le h ends =
    let split : rest ≡ doubled mark text ++ (mark ∷ drop m rest) = sym (take-append-drop m rest) ∙ ap (λ front. front ++ drop m rest) h ∙ append_assoc (doubled mark text) (mark ∷ []) (drop m rest) in
    ap (closed_length mark) split ∙ doubled-closes mark text (drop m rest) ends ∙ ap Some (sym (doubled-length mark rest m text le h))

-- what a byte that begins a symbol isn't
no_other-parts : (byte : ℕ) → no_other byte ≡ true → (is_letter byte ≡ false) × (is_digit byte ≡ false) × ((byte == quote) ≡ false) × ((byte == apostrophe) ≡ false)
unfolding no_other
no_other-parts byte e = go (is_letter byte) (is_digit byte) (byte == quote) (byte == apostrophe) e
  where
    go : (a b c d : Bool) → (not a && not b && not c && not d) ≡ true → (a ≡ false) × (b ≡ false) × (c ≡ false) × (d ≡ false)
    go true b c d e = cc
    go false true c d e = cc
    go false false true d e = cc
    go false false false true e = cc
    go false false false false e = (refl, refl, refl, refl)

-- a symbol at the front
front_of-symbol : (byte : ℕ) (rest : List ℕ) → 33 ≤ byte → no_other byte ≡ true → begins_comment byte rest ≡ false → front_of (byte ∷ rest) ≡ symbol_front byte rest
unfolding front_of
front_of-symbol byte rest least other none =
    let parts = no_other-parts byte other in
    rw (above-blank byte least, none, parts.0, parts.1, parts.2, parts.3) refl

-- no bytes are no token
pub IsToken-some : (sort : Sort) → IsToken sort [] → ⊥
unfolding is_spelling
IsToken-some Word h = cc
IsToken-some Quoted (name, some, e) = cc
IsToken-some Number h = let e = h.0 in cc
IsToken-some Literal (text, e) = cc
IsToken-some Symbol h = let e = symbol-is_spelling [] h in cc

word-is_found : (byte : ℕ) (rest : List ℕ) (m : ℕ) → m ≤ length rest → IsToken Word (byte ∷ take m rest) → EndsAt Word (suc m) (byte ∷ rest) → front_of (byte ∷ rest) ≡ Found Word (suc m)
unfolding front_of
word-is_found byte rest m le h ends =
    let both = and_parts (is_letter byte) (list_all is_word_byte (take m rest)) h in
    let least = letter-least byte both.0 in
    let all = and_from (is_word_byte byte) (list_all is_word_byte (take m rest)) (or_left (is_letter byte) (is_digit byte) both.0) both.1 in
    let size : run_length is_word_byte (byte ∷ rest) ≡ suc m = run-is is_word_byte (byte ∷ rest) (suc m) (omega (arith, le)) all ends in
    passed (is_blank byte) _ _ _ (above-blank byte (omega (arith, least))) (passed (begins_comment byte rest) _ _ _ (no_comment byte rest (λ e. omega (arith, least, e))) (taken (is_letter byte) _ _ both.0))
    ∙ ap (λ n. Found Word n) size

-- what begins with no letter
begins-not : (test : ℕ → Bool) (bytes : List ℕ) → ((next : ℕ) (after : List ℕ) → bytes ≡ next ∷ after → test next ≡ true → ⊥) → begins test bytes ≡ false
begins-not test [] none = refl
begins-not test (next ∷ after) none = go (test next) refl
  where
    go : (b : Bool) → test next ≡ b → b ≡ false
    go true e = absurd (none next after refl e)
    go false e = refl

-- a number with this many digits
number_front-is : (bytes : List ℕ) (n : ℕ) → run_length is_digit bytes ≡ n → nat_le (number_of (take n bytes)) greatest_int ≡ true → begins is_letter (drop n bytes) ≡ false
    → number_front bytes ≡ Found Number n
number_front-is bytes n size fits none = rw (size, fits, none) refl

number-is_found : (byte : ℕ) (rest : List ℕ) (m : ℕ) → m ≤ length rest → IsToken Number (byte ∷ take m rest) → EndsAt Number (suc m) (byte ∷ rest) → front_of (byte ∷ rest) ≡ Found Number (suc m)
unfolding front_of
number-is_found byte rest m le h ends =
    let first = (and_parts (is_digit byte) (list_all is_digit (take m rest)) h.0).0 in
    let least = digit-least byte first in
    let size : run_length is_digit (byte ∷ rest) ≡ suc m
    = run-is is_digit (byte ∷ rest) (suc m) (omega (arith, le)) h.0 (λ next after f digit. ends next after f (or_right (is_letter next) (is_digit next) digit)) in
    let none = begins-not is_letter (drop m rest) (λ next after f letter. ends next after f (or_left (is_letter next) (is_digit next) letter)) in
    let fits = le-leb (number_of (byte ∷ take m rest)) greatest_int h.1 in
    passed (is_blank byte) _ _ _ (above-blank byte (omega (arith, least))) (passed (begins_comment byte rest) _ _ _ (no_comment byte rest (λ e. omega (arith, least, e)))
    (passed (is_letter byte) _ _ _ (letter-digit byte first) (taken (is_digit byte) _ _ first)))
    ∙ number_front-is (byte ∷ rest) (suc m) size fits none

quoted-is_found : (byte : ℕ) (rest : List ℕ) (m : ℕ) → m ≤ length rest → IsToken Quoted (byte ∷ take m rest) → EndsAt Quoted (suc m) (byte ∷ rest) → front_of (byte ∷ rest) ≡ Found Quoted (suc m)
unfolding front_of
quoted-is_found byte rest m le (name, some, e) ends =
    let same : byte ≡ quote = cc in
    let h = tail_of e in
    let closes : closed_length quote rest ≡ Some m = text-closes quote rest m name le h ends in
    let size = doubled-length quote rest m name le h in
    let longer = doubled-longer quote name in
    rw (same, closes, ne_eqb m 1 (λ one. omega (arith, size, longer, some, one)), add-one) refl

literal-is_found : (byte : ℕ) (rest : List ℕ) (m : ℕ) → m ≤ length rest → IsToken Literal (byte ∷ take m rest) → EndsAt Literal (suc m) (byte ∷ rest) → front_of (byte ∷ rest) ≡ Found Literal (suc m)
unfolding front_of
literal-is_found byte rest m le (text, e) ends =
    let same : byte ≡ apostrophe = cc in
    let closes : closed_length apostrophe rest ≡ Some m = text-closes apostrophe rest m text le (tail_of e) ends in
    rw (same, closes, add-one) refl

-- a symbol of one byte begins no comment
no_comment-single : (byte : ℕ) (rest : List ℕ) → EndsAt Symbol 1 (byte ∷ rest) → begins_comment byte rest ≡ false
no_comment-single byte rest ends = go (byte == 45) refl
  where
    go : (b : Bool) → (byte == 45) ≡ b → (b && begins (λ next. next == 45) rest) ≡ false
    go true e = begins-not (λ next. next == 45) rest (λ next after f same.
        let one : byte ≡ 45 = eqb-true byte 45 e in
        let two : next ≡ 45 = eqb-true next 45 same in
        ends next after f (inr (rw (one, two) refl)))
    go false e = refl

-- no pair begins with `-`
no_comment-pair : (byte next : ℕ) (rest : List ℕ) → is_pair byte next ≡ true → begins_comment byte rest ≡ false
no_comment-pair byte next rest pair = no_comment byte rest (λ e. let no : false ≡ true = rw e at pair in cc)

symbol-is_found : (byte : ℕ) (rest : List ℕ) (m : ℕ) → m ≤ length rest → IsToken Symbol (byte ∷ take m rest) → EndsAt Symbol (suc m) (byte ∷ rest) → front_of (byte ∷ rest) ≡ Found Symbol (suc m)
unfolding no_other is_spelling
symbol-is_found byte rest zero le h ends =
    let least = leb-true 33 byte (symbol-passes (λ symbol. begins (λ first. nat_le 33 first) symbol) (byte ∷ []) refl h) in
    let other = symbol-passes (λ symbol. begins no_other symbol) (byte ∷ []) refl h in
    let alone : is_symbol byte ≡ true = symbol-is_spelling (byte ∷ []) h in
    let none = begins-not (is_pair byte) rest (λ next after f pair. ends next after f (inl (Contains-pair byte next pair))) in
    front_of-symbol byte rest least other (no_comment-single byte rest ends) ∙ rw (none, alone) refl
symbol-is_found byte [] (suc m) le h ends = absurd (omega (arith, le))
symbol-is_found byte (next ∷ rest) (suc zero) le h ends =
    let least = leb-true 33 byte (symbol-passes (λ symbol. begins (λ first. nat_le 33 first) symbol) (byte ∷ next ∷ []) refl h) in
    let other = symbol-passes (λ symbol. begins no_other symbol) (byte ∷ next ∷ []) refl h in
    let pair : is_pair byte next ≡ true = symbol-is_spelling (byte ∷ next ∷ []) h in
    front_of-symbol byte (next ∷ rest) least other (no_comment-pair byte next (next ∷ rest) pair) ∙ rw pair refl
symbol-is_found byte (next ∷ []) (suc (suc m)) le h ends = absurd (omega (arith, le))
symbol-is_found byte (next ∷ third ∷ rest) (suc (suc m)) le h ends = let none = symbol-is_spelling (byte ∷ next ∷ third ∷ take m rest) h in cc

-- a token at the front that ends there is found
pub token-is_found : (bytes : List ℕ) (sort : Sort) (n : ℕ) → n ≤ length bytes → IsToken sort (take n bytes) → EndsAt sort n bytes → front_of bytes ≡ Found sort n
token-is_found bytes sort zero le h ends = absurd (IsToken-some sort h)
token-is_found [] sort (suc m) le h ends = absurd (omega (arith, le))
token-is_found (byte ∷ rest) Word (suc m) le h ends = word-is_found byte rest m (omega (arith, le)) h ends
token-is_found (byte ∷ rest) Quoted (suc m) le h ends = quoted-is_found byte rest m (omega (arith, le)) h ends
token-is_found (byte ∷ rest) Number (suc m) le h ends = number-is_found byte rest m (omega (arith, le)) h ends
token-is_found (byte ∷ rest) Literal (suc m) le h ends = literal-is_found byte rest m (omega (arith, le)) h ends
token-is_found (byte ∷ rest) Symbol (suc m) le h ends = symbol-is_found byte rest m (omega (arith, le)) h ends
