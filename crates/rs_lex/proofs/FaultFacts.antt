-- What stands at the front of a script where it is refused, and that a script is refused where that stands.
use Rattle.std.proofs.Common.{ℕ, zero, suc, ◌≡◌, ◌+◌, ◌-◌, ◌<◌, ◌≤◌, ◌==◌, nat_le, ◌⊎◌, inl, inr, Bool, true, false, not, List, [], ◌∷◌, ◌++◌, length, take, drop, Option, Some, None, refl, sym, ap, subst, ◌∙◌, arith, if◌then◌else◌, length-drop}
use Rattle.std.specs.Prelude.{codes, option_map}
use Rattle.std.specs.List.{list_all}
use Rattle.std.proofs.lemmas.Bool.{eqb-true, leb-true, le-leb, leb-false, lt-leb, and_parts}
use Rattle.rs_value.specs.Number.{number_of, are_digits, greatest_int}
use Rattle.rs_lex.specs.Bytes.{is_letter, is_digit, is_word_byte, is_blank, begins, quote, apostrophe}
use Rattle.rs_lex.specs.Faults.{IsOpen, IsWide, HasLetterBehind, BeginsOther, BeginsNoToken, IsFault}
use Rattle.rs_lex.specs.Front.{front_of, run_length, closed_length, number_front, literal_front, quoted_front, symbol_front, begins_comment, is_pair, is_symbol}
use Rattle.rs_lex.specs.Spelling.{RefusesBytes, too_many, bad, open_text, too_wide, IsMore}
use Rattle.rs_lex.specs.Spelling as spelling
use Rattle.rs_lex.specs.Tokens.{IsComment, IsGap, IsToken, doubled}
use Rattle.rs_lex.specs.declared.token.Sort.{Sort}
use Rattle.rs_lex.specs.declared.token.Sort.TheVariants.{Word, Quoted, Number, Literal, Symbol}
use Rattle.rs_lex.specs.declared.front.Front.{Front}
use Rattle.rs_lex.specs.declared.front.Front.TheVariants.{End, Gap, Found, Bad, Open, Wide}
use Rattle.rs_lex.specs.declared.fault.LexFault.{LexFault}
use Rattle.rs_lex.proofs.SpellingFacts.{chosen, behind, begins-length, IsMore-other, front_of-bad, front_of-fits, front_of-found, IsMore-gap, run_length-le}
use Rattle.rs_lex.proofs.FrontFacts.{closed_length-other, closed_length-doubled, taken, passed}
use Rattle.rs_lex.proofs.TokenFacts.{IsToken-first, closed-is_longest, doubled-mark, doubled-other, front-is_token, is_spelling, letter-digit, run-first, run-passes, sort_of, symbol-is_spelling, tail_of, two-are_no_symbol}
use Rattle.rs_lex.proofs.TakenFacts.{IsToken-some, above-blank, digit-least, doubled-length, doubled-longer, no_comment, run-is, run-next}

-- a choice, by which of the two it is
if-cases : (P : Front → Type 0) (b : Bool) (x y : Front) → (b ≡ true → P x) → (b ≡ false → P y) → P (if b then x else y)
if-cases P true x y first second = first refl
if-cases P false x y first second = second refl

-- a fact of each front that may stand at these bytes
record Fronts (P : Front → Type 0) (byte : ℕ) (rest : List ℕ) : Type 0 where
  gap : (n : ℕ) → (is_blank byte ≡ true) ⊎ (begins_comment byte rest ≡ true) → P (Gap n)
  found : (sort : Sort) (n : ℕ) → P (Found sort n)
  wide : is_digit byte ≡ true → nat_le (number_of (take (run_length is_digit (byte ∷ rest)) (byte ∷ rest))) greatest_int ≡ false → P Wide
  letter : is_digit byte ≡ true → nat_le (number_of (take (run_length is_digit (byte ∷ rest)) (byte ∷ rest))) greatest_int ≡ true
      → begins is_letter (drop (run_length is_digit (byte ∷ rest)) (byte ∷ rest)) ≡ true → P (Bad (run_length is_digit (byte ∷ rest)))
  opens : (mark : ℕ) → (mark ≡ quote) ⊎ (mark ≡ apostrophe) → byte ≡ mark → closed_length mark rest ≡ None → P Open
  empty : byte ≡ quote → closed_length quote rest ≡ Some 1 → P (Bad 0)
  other : is_blank byte ≡ false → begins_comment byte rest ≡ false → sort_of byte ≡ Symbol → begins (is_pair byte) rest ≡ false → is_symbol byte ≡ false → P (Bad 0)

quoted_front-each : (P : Front → Type 0) (byte : ℕ) (rest : List ℕ) → Fronts P byte rest → byte ≡ quote → (end : Option ℕ) → closed_length quote rest ≡ end → P (quoted_front end)
quoted_front-each P byte rest fronts is None e = fronts.opens quote (inl refl) is e
quoted_front-each P byte rest fronts is (Some n) e =
    if-cases P (n == 1) (Bad 0) (Found Quoted (n + 1)) (λ one. fronts.empty is (e ∙ ap Some (eqb-true n 1 one))) (λ _. fronts.found Quoted (n + 1))

literal_front-each : (P : Front → Type 0) (byte : ℕ) (rest : List ℕ) → Fronts P byte rest → byte ≡ apostrophe → (end : Option ℕ) → closed_length apostrophe rest ≡ end → P (literal_front end)
literal_front-each P byte rest fronts is None e = fronts.opens apostrophe (inr refl) is e
literal_front-each P byte rest fronts is (Some n) e = fronts.found Literal (n + 1)

number_front-each : (P : Front → Type 0) (byte : ℕ) (rest : List ℕ) → Fronts P byte rest → is_digit byte ≡ true → P (number_front (byte ∷ rest))
number_front-each P byte rest fronts is =
    let digits = run_length is_digit (byte ∷ rest) in
    if-cases P (nat_le (number_of (take digits (byte ∷ rest))) greatest_int) (if begins is_letter (drop digits (byte ∷ rest)) then Bad digits else Found Number digits) Wide
    (λ fits. if-cases P (begins is_letter (drop digits (byte ∷ rest))) (Bad digits) (Found Number digits) (λ letter. fronts.letter is fits letter) (λ _. fronts.found Number digits))
    (λ great. fronts.wide is great)

symbol_front-each : (P : Front → Type 0) (byte : ℕ) (rest : List ℕ) → Fronts P byte rest → is_blank byte ≡ false → begins_comment byte rest ≡ false → sort_of byte ≡ Symbol → P (symbol_front byte rest)
symbol_front-each P byte rest fronts no_blank none is =
    if-cases P (begins (is_pair byte) rest) (Found Symbol 2) (if is_symbol byte then Found Symbol 1 else Bad 0) (λ _. fronts.found Symbol 2)
    (λ no_pair. if-cases P (is_symbol byte) (Found Symbol 1) (Bad 0) (λ _. fronts.found Symbol 1) (λ alone. fronts.other no_blank none is no_pair alone))

-- what holds of each of them holds of what stands at the front
front_of-each : (P : Front → Type 0) (byte : ℕ) (rest : List ℕ) → Fronts P byte rest → P (front_of (byte ∷ rest))
unfolding front_of
front_of-each P byte rest fronts =
    let symbol = symbol_front byte rest in
    let literal = if byte == apostrophe then literal_front (closed_length apostrophe rest) else symbol in
    let quoted = if byte == quote then quoted_front (closed_length quote rest) else literal in
    let number = if is_digit byte then number_front (byte ∷ rest) else quoted in
    let word = if is_letter byte then Found Word (run_length is_word_byte (byte ∷ rest)) else number in
    let comment = if begins_comment byte rest then Gap (run_length (λ c. not (c == 10)) (byte ∷ rest)) else word in
    if-cases P (is_blank byte) (Gap (run_length is_blank (byte ∷ rest))) comment (λ x. fronts.gap (run_length is_blank (byte ∷ rest)) (inl x))
    (λ a. if-cases P (begins_comment byte rest) (Gap (run_length (λ c. not (c == 10)) (byte ∷ rest))) word (λ x. fronts.gap (run_length (λ c. not (c == 10)) (byte ∷ rest)) (inr x))
    (λ b. if-cases P (is_letter byte) (Found Word (run_length is_word_byte (byte ∷ rest))) number (λ _. fronts.found Word (run_length is_word_byte (byte ∷ rest)))
    (λ c. if-cases P (is_digit byte) (number_front (byte ∷ rest)) quoted (λ x. number_front-each P byte rest fronts x)
    (λ d. if-cases P (byte == quote) (quoted_front (closed_length quote rest)) literal (λ x. quoted_front-each P byte rest fronts (eqb-true byte quote x) (closed_length quote rest) refl)
    (λ f. if-cases P (byte == apostrophe) (literal_front (closed_length apostrophe rest)) symbol (λ x. literal_front-each P byte rest fronts (eqb-true byte apostrophe x) (closed_length apostrophe rest) refl)
    (λ g. symbol_front-each P byte rest fronts a b (rw (c, d, f, g) refl)))))))

-- the first of two lists that are one
head_of : {a b : ℕ} {xs ys : List ℕ} → a ∷ xs ≡ b ∷ ys → a ≡ b
head_of e = cc

-- what closes nothing, this many bytes further
option_map-none : (k : ℕ) (end : Option ℕ) → option_map (λ i. i + k) end ≡ None → end ≡ None
option_map-none k None e = refl
option_map-none k (Some m) e = cc

-- bytes that close no text are a text in which each mark is doubled
never_closed-is_doubled : (mark : ℕ) (bytes : List ℕ) → closed_length mark bytes ≡ None → (text : List ℕ) × (bytes ≡ doubled mark text)
never_closed-is_doubled mark [] e = ([], refl)
never_closed-is_doubled mark (byte ∷ []) e =
    elim (chosen (byte == mark) (Some 1) None None e) [
      | inl closes ↦ let f = closes.1 in cc
      | inr other ↦ (byte ∷ [], sym (doubled-other mark byte [] other.0))
    ]
never_closed-is_doubled mark (byte ∷ next ∷ rest) e =
    elim (chosen (byte == mark) (if next == mark then option_map (λ n. n + 2) (closed_length mark rest) else Some 1) (option_map (λ n. n + 1) (closed_length mark (next ∷ rest))) None e) [
      | inl first ↦ elim (chosen (next == mark) (option_map (λ n. n + 2) (closed_length mark rest)) (Some 1) None first.1) [
        | inl second ↦
            let (text, h) = never_closed-is_doubled mark rest (option_map-none 2 (closed_length mark rest) second.1) in
            let same : next ≡ byte = eqb-true next mark second.0 ∙ sym (eqb-true byte mark first.0) in
            (byte ∷ text, rw (doubled-mark mark byte text first.0, same, ← h) refl)
        | inr other ↦ let f = other.1 in cc
      ]
      | inr other ↦
          let (text, h) = never_closed-is_doubled mark (next ∷ rest) (option_map-none 1 (closed_length mark (next ∷ rest)) other.1) in
          (byte ∷ text, rw (doubled-other mark byte text other.0, ← h) refl)
    ]

-- a text in which each mark is doubled closes nothing
doubled-never_closes : (mark : ℕ) (text : List ℕ) → closed_length mark (doubled mark text) ≡ None
doubled-never_closes mark [] = refl
doubled-never_closes mark (byte ∷ text) = go (byte == mark) refl (doubled-never_closes mark text)
  where
    go : (b : Bool) → (byte == mark) ≡ b → closed_length mark (doubled mark text) ≡ None → closed_length mark (doubled mark (byte ∷ text)) ≡ None
    go true is h = rw (doubled-mark mark byte text is) (closed_length-doubled mark byte byte (doubled mark text) is is ∙ ap (option_map (λ n. n + 2)) h)
    go false is h = rw (doubled-other mark byte text is) (closed_length-other mark byte (doubled mark text) is ∙ ap (option_map (λ n. n + 1)) h)

-- a text that is closed isn't one that is never closed
pub closed-not_open : (byte : ℕ) (rest : List ℕ) (k : ℕ) → closed_length byte rest ≡ Some k → IsOpen (byte ∷ rest) → ⊥
closed-not_open byte rest k e h =
    let none : closed_length byte rest ≡ None
    = ap (λ mark. closed_length mark rest) (head_of h.opens) ∙ ap (closed_length h.mark) (tail_of h.opens) ∙ doubled-never_closes h.mark h.text in
    cc

-- a byte that is no mark opens no text
other-not_open : (byte : ℕ) (rest : List ℕ) → sort_of byte ≡ Symbol → IsOpen (byte ∷ rest) → ⊥
other-not_open byte rest is h =
    elim h.is_mark [
      | inl name ↦ let no : Quoted ≡ Symbol = subst (λ b. sort_of b ≡ Symbol) (head_of h.opens ∙ name) is in cc
      | inr text ↦ let no : Literal ≡ Symbol = subst (λ b. sort_of b ≡ Symbol) (head_of h.opens ∙ text) is in cc
    ]

-- digits at the front
run-are_digits : (byte : ℕ) (rest : List ℕ) → is_digit byte ≡ true → are_digits (take (run_length is_digit (byte ∷ rest)) (byte ∷ rest)) ≡ true
run-are_digits byte rest is =
    let all = run-passes is_digit (byte ∷ rest) in
    let size = run-first is_digit byte rest is in
    rw size (rw size at all)

-- bytes of which the first passes a test begin with it
begins-first : (test : ℕ → Bool) (bytes : List ℕ) → begins test bytes ≡ true → (first : ℕ) × (more : List ℕ) × (bytes ≡ first ∷ more) × (test first ≡ true)
begins-first test [] e = cc
begins-first test (first ∷ more) e = (first, more, refl, e)

-- no further digit stands behind digits
run-whole : (bytes : List ℕ) → begins is_digit (drop (run_length is_digit bytes) bytes) ≡ true → ⊥
run-whole bytes e =
    let (next, more, f, is) = begins-first is_digit (drop (run_length is_digit bytes) bytes) e in
    run-next is_digit bytes next more f is

-- where a number is too great
pub front-wide : (bytes : List ℕ) → front_of bytes ≡ Wide → IsWide bytes
unfolding front_of
front-wide [] e = cc
front-wide (byte ∷ rest) e =
    front_of-each (λ f. f ≡ Wide → IsWide (byte ∷ rest)) byte rest (record {
      gap = λ n _ f. cc;
      found = λ sort n f. cc;
      wide = λ is great _. record {
        size = run_length is_digit (byte ∷ rest);
        within = run_length-le is_digit (byte ∷ rest);
        digits = run-are_digits byte rest is;
        whole = run-whole (byte ∷ rest);
        wide = leb-false (number_of (take (run_length is_digit (byte ∷ rest)) (byte ∷ rest))) greatest_int great;
      };
      letter = λ _ _ _ f. cc;
      opens = λ mark _ _ _ f. cc;
      empty = λ _ _ f. cc;
      other = λ _ _ _ _ _ f. cc;
    }) e

-- where a text is never closed
pub front-open : (bytes : List ℕ) → front_of bytes ≡ Open → IsOpen bytes
unfolding front_of
front-open [] e = cc
front-open (byte ∷ rest) e =
    front_of-each (λ f. f ≡ Open → IsOpen (byte ∷ rest)) byte rest (record {
      gap = λ n _ f. cc;
      found = λ sort n f. cc;
      wide = λ _ _ f. cc;
      letter = λ _ _ _ f. cc;
      opens = λ mark is_mark is none _. opened mark is_mark is (never_closed-is_doubled mark rest none);
      empty = λ _ _ f. cc;
      other = λ _ _ _ _ _ f. cc;
    }) e
  where
    opened : (mark : ℕ) → (mark ≡ quote) ⊎ (mark ≡ apostrophe) → byte ≡ mark → (text : List ℕ) × (rest ≡ doubled mark text) → IsOpen (byte ∷ rest)
    opened mark is_mark is (text, h) = record { mark = mark; is_mark = is_mark; text = text; opens = ap (λ b. b ∷ rest) is ∙ ap (λ r. mark ∷ r) h }

-- where a gap stands
front-gap : (bytes : List ℕ) (n : ℕ) → front_of bytes ≡ Gap n → BeginsOther bytes → ⊥
unfolding front_of
front-gap [] n e h = cc
front-gap (byte ∷ rest) n e h =
    front_of-each (λ f. f ≡ Gap n → ⊥) byte rest (record {
      gap = λ _ between _. elim between [ inl blank ↦ h.no_blank blank | inr comment ↦ commented rest comment h.no_comment ];
      found = λ sort k f. cc;
      wide = λ _ _ f. cc;
      letter = λ _ _ _ f. cc;
      opens = λ mark _ _ _ f. cc;
      empty = λ _ _ f. cc;
      other = λ _ _ _ _ _ f. cc;
    }) e
  where
    commented : (after : List ℕ) → begins_comment byte after ≡ true → ((more : List ℕ) → byte ∷ after ≡ codes "--" ++ more → ⊥) → ⊥
    commented [] is none = let both = and_parts (byte == 45) false is in let no = both.1 in cc
    commented (next ∷ more) is none =
        let both = and_parts (byte == 45) (next == 45) is in
        let one : byte ≡ 45 = eqb-true byte 45 both.0 in
        let two : next ≡ 45 = eqb-true next 45 both.1 in
        none more (rw (one, two) refl)

-- no token begins with an empty name
empty-no_name : (rest : List ℕ) (m : ℕ) → m ≤ length rest → closed_length quote rest ≡ Some 1 → IsToken Quoted (quote ∷ take m rest) → ⊥
empty-no_name rest m le e (name, some, is) =
    let h : take m rest ≡ doubled quote name ++ (quote ∷ []) = tail_of is in
    let size = doubled-length quote rest m name le h in
    let longer = doubled-longer quote name in
    closed-is_longest quote rest 1 e m (omega (arith, size, longer, some)) le name h

empty-no_token : (rest : List ℕ) → closed_length quote rest ≡ Some 1 → (sort : Sort) (n : ℕ) → n ≤ length (quote ∷ rest) → IsToken sort (take n (quote ∷ rest)) → ⊥
empty-no_token rest e sort zero le h = IsToken-some sort h
empty-no_token rest e sort (suc m) le h =
    let same : Quoted ≡ sort = IsToken-first sort quote (take m rest) h in
    empty-no_name rest m (omega (arith, le)) e (subst (λ s. IsToken s (quote ∷ take m rest)) (sym same) h)

-- no piece from a byte on that begins no symbol is a token
other-no_symbol : (byte : ℕ) (rest : List ℕ) (m : ℕ) → m ≤ length rest → begins (is_pair byte) rest ≡ false → is_symbol byte ≡ false → is_spelling (byte ∷ take m rest) ≡ true → ⊥
unfolding is_spelling
other-no_symbol byte rest zero le none alone h = cc
other-no_symbol byte rest (suc m) le none alone h = two-are_no_symbol byte rest (suc m) none (omega arith) le h

other-no_token : (byte : ℕ) (rest : List ℕ) → sort_of byte ≡ Symbol → begins (is_pair byte) rest ≡ false → is_symbol byte ≡ false
    → (sort : Sort) (n : ℕ) → n ≤ length (byte ∷ rest) → IsToken sort (take n (byte ∷ rest)) → ⊥
other-no_token byte rest first none alone sort zero le h = IsToken-some sort h
other-no_token byte rest first none alone sort (suc m) le h =
    let same : sort ≡ Symbol = sym (IsToken-first sort byte (take m rest) h) ∙ first in
    other-no_symbol byte rest m (omega (arith, le)) none alone (symbol-is_spelling (byte ∷ take m rest) (subst (λ s. IsToken s (byte ∷ take m rest)) same h))

-- no comment begins there
no_comment-at : (byte : ℕ) (rest more : List ℕ) → begins_comment byte rest ≡ false → byte ∷ rest ≡ codes "--" ++ more → ⊥
no_comment-at byte rest more none is =
    let one : byte ≡ 45 = head_of is in
    let two : rest ≡ 45 ∷ more = tail_of is in
    let begun : begins_comment byte rest ≡ true = rw (one, two) refl in
    cc

-- no token begins at the first mark of an empty name
BeginsNoToken-empty : (rest : List ℕ) → closed_length quote rest ≡ Some 1 → BeginsNoToken (quote ∷ rest)
BeginsNoToken-empty rest closed = record {
  other = record { some = omega arith; no_blank = λ no. cc; no_comment = λ more no. let one : quote ≡ 45 = head_of no in omega (arith, one) };
  no_token = empty-no_token rest closed;
  not_open = closed-not_open quote rest 1 closed;
}

-- nor at a byte that begins neither a symbol nor anything else
BeginsNoToken-other : (byte : ℕ) (rest : List ℕ) → is_blank byte ≡ false → begins_comment byte rest ≡ false → sort_of byte ≡ Symbol → begins (is_pair byte) rest ≡ false
    → is_symbol byte ≡ false → BeginsNoToken (byte ∷ rest)
BeginsNoToken-other byte rest no_blank none first no_pair alone = record {
  other = record { some = omega arith; no_blank = λ blank. cc; no_comment = λ more is. no_comment-at byte rest more none is };
  no_token = other-no_token byte rest first no_pair alone;
  not_open = other-not_open byte rest first;
}

-- where a byte is bad
pub front-bad : (bytes : List ℕ) (n : ℕ) → front_of bytes ≡ Bad n → ((n ≡ 0) × BeginsNoToken bytes) ⊎ HasLetterBehind n bytes
unfolding front_of
front-bad [] n e = cc
front-bad (byte ∷ rest) n e =
    front_of-each (λ f. f ≡ Bad n → ((n ≡ 0) × BeginsNoToken (byte ∷ rest)) ⊎ HasLetterBehind n (byte ∷ rest)) byte rest (record {
      gap = λ k _ f. cc;
      found = λ sort k f. cc;
      wide = λ _ _ f. cc;
      letter = λ is fits letter f.
          let same : run_length is_digit (byte ∷ rest) ≡ n = cc in
          inr (subst (λ k. HasLetterBehind k (byte ∷ rest)) same (record {
            number = (run-are_digits byte rest is, leb-true (number_of (take (run_length is_digit (byte ∷ rest)) (byte ∷ rest))) greatest_int fits);
            letter = letter;
          }));
      opens = λ mark _ _ _ f. cc;
      empty = λ is closed f.
          let here : n ≡ 0 = cc in
          inl (here, subst (λ b. BeginsNoToken (b ∷ rest)) (sym is) (BeginsNoToken-empty rest closed));
      other = λ no_blank none first no_pair alone f.
          let here : n ≡ 0 = cc in
          inl (here, BeginsNoToken-other byte rest no_blank none first no_pair alone);
    }) e

-- a digit at the front begins a number
front_of-digit : (byte : ℕ) (rest : List ℕ) → is_digit byte ≡ true → front_of (byte ∷ rest) ≡ number_front (byte ∷ rest)
unfolding front_of
front_of-digit byte rest is =
    let least = digit-least byte is in
    passed (is_blank byte) _ _ _ (above-blank byte (omega (arith, least))) (passed (begins_comment byte rest) _ _ _ (no_comment byte rest (λ e. omega (arith, least, e)))
    (passed (is_letter byte) _ _ _ (letter-digit byte is) (taken (is_digit byte) _ _ is)))

number_front-wide : (bytes : List ℕ) (n : ℕ) → run_length is_digit bytes ≡ n → nat_le (number_of (take n bytes)) greatest_int ≡ false → number_front bytes ≡ Wide
number_front-wide bytes n size great = rw (size, great) refl

number_front-bad : (bytes : List ℕ) (n : ℕ) → run_length is_digit bytes ≡ n → nat_le (number_of (take n bytes)) greatest_int ≡ true → begins is_letter (drop n bytes) ≡ true
    → number_front bytes ≡ Bad n
number_front-bad bytes n size fits letter = rw (size, fits, letter) refl

-- what is no number stands behind this many digits
stops : (test : ℕ → Bool) (bytes : List ℕ) → (begins test bytes ≡ true → ⊥) → (next : ℕ) (after : List ℕ) → bytes ≡ next ∷ after → test next ≡ true → ⊥
stops test bytes none next after f is = none (rw f is)

-- a number that is too great
wide_at : (bytes : List ℕ) (n : ℕ) → n ≤ length bytes → are_digits (take n bytes) ≡ true → (begins is_digit (drop n bytes) ≡ true → ⊥) → greatest_int < number_of (take n bytes)
    → front_of bytes ≡ Wide
wide_at bytes zero le digits whole wide = cc
wide_at [] (suc m) le digits whole wide = absurd (omega (arith, le))
wide_at (byte ∷ rest) (suc m) le digits whole wide =
    let first = (and_parts (is_digit byte) (list_all is_digit (take m rest)) digits).0 in
    let size : run_length is_digit (byte ∷ rest) ≡ suc m = run-is is_digit (byte ∷ rest) (suc m) le digits (stops is_digit (drop (suc m) (byte ∷ rest)) whole) in
    front_of-digit byte rest first ∙ number_front-wide (byte ∷ rest) (suc m) size (lt-leb (number_of (byte ∷ take m rest)) greatest_int wide)

pub IsWide-front : (bytes : List ℕ) → IsWide bytes → front_of bytes ≡ Wide
IsWide-front bytes h = wide_at bytes h.size h.within h.digits h.whole h.wide

-- a letter behind a number
letter_at : (bytes : List ℕ) (n : ℕ) → n ≤ length bytes → are_digits (take n bytes) ≡ true → number_of (take n bytes) ≤ greatest_int → begins is_letter (drop n bytes) ≡ true
    → front_of bytes ≡ Bad n
letter_at bytes zero le digits fits letter = cc
letter_at [] (suc m) le digits fits letter = absurd (omega (arith, le))
letter_at (byte ∷ rest) (suc m) le digits fits letter =
    let first = (and_parts (is_digit byte) (list_all is_digit (take m rest)) digits).0 in
    let size : run_length is_digit (byte ∷ rest) ≡ suc m
    = run-is is_digit (byte ∷ rest) (suc m) le digits (λ next after f digit.
    let is : is_letter next ≡ true = rw f at letter in
    let no = letter-digit next digit in
    cc) in
    front_of-digit byte rest first ∙ number_front-bad (byte ∷ rest) (suc m) size (le-leb (number_of (byte ∷ take m rest)) greatest_int fits) letter

pub HasLetterBehind-front : (n : ℕ) (bytes : List ℕ) → HasLetterBehind n bytes → front_of bytes ≡ Bad n
HasLetterBehind-front n bytes h =
    let more = begins-length is_letter (drop n bytes) h.letter in
    letter_at bytes n (omega (arith, more, length-drop n bytes)) h.number.0 h.number.1 h.letter

-- a text that is never closed
open_at : (mark : ℕ) (rest : List ℕ) → (mark ≡ quote) ⊎ (mark ≡ apostrophe) → closed_length mark rest ≡ None → front_of (mark ∷ rest) ≡ Open
unfolding front_of
open_at mark rest (inl is) none = let closed : closed_length quote rest ≡ None = subst (λ m. closed_length m rest ≡ None) is none in rw (is, closed) refl
open_at mark rest (inr is) none = let closed : closed_length apostrophe rest ≡ None = subst (λ m. closed_length m rest ≡ None) is none in rw (is, closed) refl

pub IsOpen-front : (bytes : List ℕ) → IsOpen bytes → front_of bytes ≡ Open
IsOpen-front bytes h = ap front_of h.opens ∙ open_at h.mark (doubled h.mark h.text) h.is_mark (doubled-never_closes h.mark h.text)

-- the first of some digits is a number by itself
first-is_number : (bytes : List ℕ) (n : ℕ) → n ≤ length bytes → are_digits (take n bytes) ≡ true → (1 ≤ length bytes) × IsToken Number (take 1 bytes)
first-is_number bytes zero le digits = cc
first-is_number [] (suc m) le digits = absurd (omega (arith, le))
first-is_number (byte ∷ rest) (suc m) le digits =
    let first = (and_parts (is_digit byte) (list_all is_digit (take m rest)) digits).0 in
    let most = leb-true byte 57 (and_parts (nat_le 48 byte) (nat_le byte 57) first).1 in
    (omega arith, (rw first refl, omega (arith, most)))

-- a byte at which no token begins
pub BeginsNoToken-front : (bytes : List ℕ) → BeginsNoToken bytes → front_of bytes ≡ Bad 0
BeginsNoToken-front bytes h = go (front_of bytes) refl
  where
    go : (front : Front) → front_of bytes ≡ front → front_of bytes ≡ Bad 0
    go End e = let none : length bytes ≡ 0 = rw e at (front_of-fits bytes) in absurd (omega (arith, none, h.other.some))
    go (Gap n) e = absurd (front-gap bytes n e h.other)
    go (Found sort n) e = absurd (h.no_token sort n (front_of-found bytes sort n e).1 (front-is_token bytes sort n e))
    go (Bad n) e = elim (front-bad bytes n e) [
      | inl here ↦ e ∙ ap (λ k. Bad k) here.0
      | inr letter ↦ let less = front_of-bad bytes n e in absurd (h.no_token Number n (omega (arith, less)) letter.number)
    ]
    go Open e = absurd (h.not_open (front-open bytes e))
    go Wide e =
        let wide = front-wide bytes e in
        let one = first-is_number bytes wide.size wide.within wide.digits in
        absurd (h.no_token Number 1 one.0 one.1)

-- the first mark of an empty name
pub empty_name-front : (after : List ℕ) → ((more : List ℕ) → after ≡ quote ∷ more → ⊥) → front_of (quote ∷ quote ∷ after) ≡ Bad 0
unfolding front_of
empty_name-front [] none = refl
empty_name-front (next ∷ more) none = go (next == quote) refl
  where
    go : (b : Bool) → (next == quote) ≡ b → front_of (quote ∷ quote ∷ next ∷ more) ≡ Bad 0
    go true is = absurd (none more (ap (λ b. b ∷ more) (eqb-true next quote is)))
    go false is = rw is refl

-- what is neither a gap nor the end is something else
BeginsOther-more : (bytes : List ℕ) → IsMore (front_of bytes) → BeginsOther bytes
unfolding front_of
BeginsOther-more [] more = absurd more
BeginsOther-more (byte ∷ rest) more = record {
  some = omega arith;
  no_blank = λ blank. IsMore-gap (front_of (byte ∷ rest)) (run_length is_blank (byte ∷ rest)) (taken (is_blank byte) _ _ blank) more;
  no_comment = λ after is. IsMore-gap (front_of (byte ∷ rest)) (run_length (λ c. not (c == 10)) (codes "--" ++ after)) (ap front_of is) more;
}

pub IsMore-BeginsOther : (bytes : List ℕ) → BeginsOther bytes → IsMore (front_of bytes)
IsMore-BeginsOther bytes h =
    IsMore-other (front_of bytes) (λ e. let none : length bytes ≡ 0 = rw e at (front_of-fits bytes) in omega (arith, none, h.some)) (λ n e. front-gap bytes n e h)

-- blanks, and a comment
blanks_at : (bytes : List ℕ) (n : ℕ) → 0 < n → n ≤ length bytes → list_all is_blank (take n bytes) ≡ true → (begins is_blank (drop n bytes) ≡ true → ⊥) → front_of bytes ≡ Gap n
unfolding front_of
blanks_at bytes zero some le blanks whole = absurd (omega (arith, some))
blanks_at [] (suc m) some le blanks whole = absurd (omega (arith, le))
blanks_at (byte ∷ rest) (suc m) some le blanks whole =
    let first = (and_parts (is_blank byte) (list_all is_blank (take m rest)) blanks).0 in
    let size : run_length is_blank (byte ∷ rest) ≡ suc m = run-is is_blank (byte ∷ rest) (suc m) le blanks (stops is_blank (drop (suc m) (byte ∷ rest)) whole) in
    taken (is_blank byte) _ _ first ∙ ap (λ k. Gap k) size

front_of-comment_at : (more : List ℕ) → front_of (codes "--" ++ more) ≡ Gap (run_length (λ c. not (c == 10)) (codes "--" ++ more))
unfolding front_of
front_of-comment_at more = refl

comment_at : (n : ℕ) (bytes : List ℕ) → IsComment n bytes → front_of bytes ≡ Gap n
comment_at n bytes h =
    let size : run_length (λ c. not (c == 10)) bytes ≡ n
    = run-is (λ c. not (c == 10)) bytes n h.within h.line (stops (λ c. not (c == 10)) (drop n bytes) h.whole) in
    ap front_of h.begun ∙ front_of-comment_at h.more ∙ ap (λ rest. Gap (run_length (λ c. not (c == 10)) rest)) (sym h.begun) ∙ ap (λ k. Gap k) size

pub IsGap-front : (n : ℕ) (bytes : List ℕ) → IsGap n bytes → front_of bytes ≡ Gap n
IsGap-front n bytes (inl h) = blanks_at bytes n h.some h.within h.blanks h.whole
IsGap-front n bytes (inr h) = comment_at n bytes h

-- the place and the fault that a script is refused with are what they are said to be
pub IsFault-refused : (script : List ℕ) (count at : ℕ) (bytes : List ℕ) (fault : LexFault) → drop at script ≡ bytes → RefusesBytes count at bytes fault → IsFault script fault
IsFault-refused script count at bytes fault is (spelling.RefusesBytes.passes _ _ n _ _ e h) =
    IsFault-refused script count (at + n) (drop n bytes) fault (behind at n script ∙ ap (drop n) is) h
IsFault-refused script count at bytes fault is (spelling.RefusesBytes.takes _ _ n sort _ _ few e h) =
    IsFault-refused script (count + 1) (at + n) (drop n bytes) fault (behind at n script ∙ ap (drop n) is) h
IsFault-refused script count at bytes fault is (too_many _ _ more) = subst BeginsOther (sym is) (BeginsOther-more bytes more)
IsFault-refused script count at bytes fault is (bad _ _ n _ few e) =
    elim (front-bad bytes n e) [
      | inl here ↦
          let same : at ≡ at + n = omega (arith, here.0) in
          inl (subst BeginsNoToken (sym is ∙ ap (λ i. drop i script) same) here.1)
      | inr letter ↦
          let same : at ≡ at + n - n = omega arith in
          inr (n, omega arith, subst (HasLetterBehind n) (sym is ∙ ap (λ i. drop i script) same) letter)
    ]
IsFault-refused script count at bytes fault is (open_text _ _ _ few e) = subst IsOpen (sym is) (front-open bytes e)
IsFault-refused script count at bytes fault is (too_wide _ _ _ few e) = subst IsWide (sym is) (front-wide bytes e)
