-- What stands at the front of a script lies within it, and its bytes spell one list of tokens at most.
use Rattle.std.proofs.Common.{ℕ, suc, ◌≡◌, ◌+◌, ◌<◌, ◌≤◌, ◌==◌, nat_le, ◌⊎◌, inl, inr, Bool, true, false, not, ◌&&◌, List, [], ◌∷◌, length, take, drop, Option, Some, None, refl, sym, arith, cond, if◌then◌else◌, length-drop, ◌-◌}
use Rattle.std.specs.Prelude.{option_map, take_while, IfSome, Ok, Err}
use Rattle.std.proofs.lemmas.List.Sums.{take_while-cons}
use Rattle.std.proofs.Math.Seq.{take-length, drop-drop}
use Rattle.std.proofs.lemmas.Bool.{eqb-true, leb-true, leb-false}
use Rattle.rs_value.specs.Number.{number_of, greatest_int}
use Rattle.rs_lex.specs.Bytes.{is_letter, is_digit, is_word_byte, is_blank, begins, quote, apostrophe}
use Rattle.rs_lex.specs.Front.{front_of, run_length, closed_length, number_front, literal_front, quoted_front, symbol_front, begins_comment, is_pair, is_symbol}
use Rattle.rs_lex.specs.Spelling.{Spells, nothing, RefusesBytes, too_many, bad, open_text, too_wide, most_tokens, token_at, IsMore, TokensInOrder, IsNext, reach, token_or_fault}
use Rattle.rs_lex.specs.Spelling as spelling
use Rattle.rs_lex.specs.declared.token.Sort.{Sort}
use Rattle.rs_lex.specs.declared.token.Sort.TheVariants.{Word, Quoted, Number, Symbol}
use Rattle.rs_lex.specs.declared.token.Token.{Token}
use Rattle.rs_lex.specs.declared.front.Front.{Front}
use Rattle.rs_lex.specs.declared.front.Front.TheVariants.{End, Gap, Found, Bad, Open, Wide}
use Rattle.rs_lex.specs.declared.fault.LexFault.{LexFault}
use Rattle.rs_lex.specs.declared.fault.LexFault.TheVariants.{BadByte, OpenText, NumberTooWide, TooManyTokens}

-- a front lies within this many bytes, and it is the end only where there is none
abbrev pub FrontFits : Front → ℕ → Type 0
FrontFits End size = size ≡ 0
FrontFits (Gap n) size = (0 < n) × (n ≤ size)
FrontFits (Found sort n) size = (0 < n) × (n ≤ size)
FrontFits (Bad n) size = n < size
FrontFits Open size = 0 < size
FrontFits Wide size = 0 < size

-- a choice of two fronts fits where each of them fits in its case
FrontFits-if : (b : Bool) (x y : Front) (size : ℕ) → (b ≡ true → FrontFits x size) → (b ≡ false → FrontFits y size) → FrontFits (if b then x else y) size
FrontFits-if true x y size first second = first refl
FrontFits-if false x y size first second = second refl

-- a run is no longer than the bytes
pub run_length-le : (test : ℕ → Bool) (bytes : List ℕ) → run_length test bytes ≤ length bytes
run_length-le test [] = omega arith
run_length-le test (byte ∷ rest) =
    rw take_while-cons (go (test byte) (run_length-le test rest))
  where
    go : (b : Bool) → run_length test rest ≤ length rest → length (cond b (byte ∷ take_while test rest) []) ≤ length (byte ∷ rest)
    go true h = omega (arith, h)
    go false h = omega arith

-- a run whose first byte passes isn't empty
run_length-positive : (test : ℕ → Bool) (byte : ℕ) (rest : List ℕ) → test byte ≡ true → 0 < run_length test (byte ∷ rest)
run_length-positive test byte rest passes = rw (take_while-cons, passes) (omega arith)

-- the mark that closes a text lies within the bytes, and isn't empty
abbrev pub ClosesWithin : ℕ → Option ℕ → Type 0
ClosesWithin size end = IfSome end (λ n. (1 ≤ n) × (n ≤ size))

ClosesWithin-more : (size more k : ℕ) (end : Option ℕ) → size + k ≤ more → ClosesWithin size end → ClosesWithin more (option_map (λ n. n + k) end)
ClosesWithin-more size more k None le h = tt
ClosesWithin-more size more k (Some n) le h = (omega arith, omega arith)

-- a choice of two ends
ClosesWithin-if : (b : Bool) (size : ℕ) (x y : Option ℕ) → ClosesWithin size x → ClosesWithin size y → ClosesWithin size (if b then x else y)
ClosesWithin-if true size x y first second = first
ClosesWithin-if false size x y first second = second

-- a text that is closed ends within the bytes, behind at least one of them
pub closed_length-within : (mark : ℕ) (bytes : List ℕ) → ClosesWithin (length bytes) (closed_length mark bytes)
closed_length-within mark [] = tt
closed_length-within mark (byte ∷ []) = ClosesWithin-if (byte == mark) 1 (Some 1) None (omega arith, omega arith) tt
closed_length-within mark (byte ∷ next ∷ rest) =
    ClosesWithin-if (byte == mark) (length (byte ∷ next ∷ rest)) (if next == mark then option_map (λ n. n + 2) (closed_length mark rest) else Some 1) (option_map (λ n. n + 1) (closed_length mark (next ∷ rest)))
    (ClosesWithin-if (next == mark) (length (byte ∷ next ∷ rest)) (option_map (λ n. n + 2) (closed_length mark rest)) (Some 1)
    (ClosesWithin-more (length rest) (length (byte ∷ next ∷ rest)) 2 (closed_length mark rest) (omega arith) (closed_length-within mark rest))
    (omega arith, omega arith))
    (ClosesWithin-more (length (next ∷ rest)) (length (byte ∷ next ∷ rest)) 1 (closed_length mark (next ∷ rest)) (omega arith) (closed_length-within mark (next ∷ rest)))

-- a literal lies within the bytes
literal_front-fits : (size : ℕ) (end : Option ℕ) → ClosesWithin size end → FrontFits (literal_front end) (suc size)
literal_front-fits size None h = omega arith
literal_front-fits size (Some n) h = (omega arith, omega arith)

-- a name between marks lies within the bytes
quoted_front-fits : (size : ℕ) (end : Option ℕ) → ClosesWithin size end → FrontFits (quoted_front end) (suc size)
quoted_front-fits size None h = omega arith
quoted_front-fits size (Some n) h = FrontFits-if (n == 1) (Bad 0) (Found Quoted (n + 1)) (suc size) (λ _. omega arith) (λ _. (omega arith, omega arith))

-- bytes of which the first passes a test aren't empty
pub begins-length : (test : ℕ → Bool) (bytes : List ℕ) → begins test bytes ≡ true → 0 < length bytes
begins-length test [] e = cc
begins-length test (byte ∷ rest) e = omega arith

-- a symbol lies within the bytes
symbol_front-fits : (byte : ℕ) (rest : List ℕ) → FrontFits (symbol_front byte rest) (length (byte ∷ rest))
symbol_front-fits byte rest =
    FrontFits-if (begins (is_pair byte) rest) (Found Symbol 2) (if is_symbol byte then Found Symbol 1 else Bad 0) (length (byte ∷ rest))
    (λ e. let more : 0 < length rest = begins-length (is_pair byte) rest e in (omega arith, omega arith))
    (λ _. FrontFits-if (is_symbol byte) (Found Symbol 1) (Bad 0) (length (byte ∷ rest)) (λ _. (omega arith, omega arith)) (λ _. omega arith))

-- a number lies within the bytes, and so does the letter that may not follow it
number_front-fits : (byte : ℕ) (rest : List ℕ) → is_digit byte ≡ true → FrontFits (number_front (byte ∷ rest)) (length (byte ∷ rest))
number_front-fits byte rest first =
    let digits = run_length is_digit (byte ∷ rest) in
    let some : 0 < run_length is_digit (byte ∷ rest) = run_length-positive is_digit byte rest first in
    let within : run_length is_digit (byte ∷ rest) ≤ length (byte ∷ rest) = run_length-le is_digit (byte ∷ rest) in
    FrontFits-if (nat_le (number_of (take digits (byte ∷ rest))) greatest_int) (if begins is_letter (drop digits (byte ∷ rest)) then Bad digits else Found Number digits) Wide (length (byte ∷ rest))
    (λ _. FrontFits-if (begins is_letter (drop digits (byte ∷ rest))) (Bad digits) (Found Number digits) (length (byte ∷ rest))
    (λ e. omega (arith, begins-length is_letter (drop digits (byte ∷ rest)) e, length-drop digits (byte ∷ rest)))
    (λ _. (some, within)))
    (λ _. omega arith)

-- a comment doesn't begin with a line feed
begins_comment-first : (byte : ℕ) (rest : List ℕ) → begins_comment byte rest ≡ true → not (byte == 10) ≡ true
begins_comment-first byte rest e = go (byte == 45) refl e
  where
    go : (b : Bool) → (byte == 45) ≡ b → (b && begins (λ next. next == 45) rest) ≡ true → not (byte == 10) ≡ true
    go true is e2 = let same : byte ≡ 45 = eqb-true byte 45 is in rw same refl
    go false is e2 = cc

-- what stands at the front lies within the bytes
pub front_of-fits : (bytes : List ℕ) → FrontFits (front_of bytes) (length bytes)
unfolding front_of
front_of-fits [] = refl
front_of-fits (byte ∷ rest) =
    let size = length (byte ∷ rest) in
    let symbol = symbol_front byte rest in
    let literal = if byte == apostrophe then literal_front (closed_length apostrophe rest) else symbol in
    let quoted = if byte == quote then quoted_front (closed_length quote rest) else literal in
    let number = if is_digit byte then number_front (byte ∷ rest) else quoted in
    let word = if is_letter byte then Found Word (run_length is_word_byte (byte ∷ rest)) else number in
    let comment = if begins_comment byte rest then Gap (run_length (λ c. not (c == 10)) (byte ∷ rest)) else word in
    FrontFits-if (is_blank byte) (Gap (run_length is_blank (byte ∷ rest))) comment size
    (λ e. (run_length-positive is_blank byte rest e, run_length-le is_blank (byte ∷ rest)))
    (λ _. FrontFits-if (begins_comment byte rest) (Gap (run_length (λ c. not (c == 10)) (byte ∷ rest))) word size
    (λ e. (run_length-positive (λ c. not (c == 10)) byte rest (begins_comment-first byte rest e), run_length-le (λ c. not (c == 10)) (byte ∷ rest)))
    (λ _. FrontFits-if (is_letter byte) (Found Word (run_length is_word_byte (byte ∷ rest))) number size
    (λ e. (run_length-positive is_word_byte byte rest (rw e refl), run_length-le is_word_byte (byte ∷ rest)))
    (λ _. FrontFits-if (is_digit byte) (number_front (byte ∷ rest)) quoted size (number_front-fits byte rest)
    (λ _. FrontFits-if (byte == quote) (quoted_front (closed_length quote rest)) literal size
    (λ _. quoted_front-fits (length rest) (closed_length quote rest) (closed_length-within quote rest))
    (λ _. FrontFits-if (byte == apostrophe) (literal_front (closed_length apostrophe rest)) symbol size
    (λ _. literal_front-fits (length rest) (closed_length apostrophe rest) (closed_length-within apostrophe rest))
    (λ _. symbol_front-fits byte rest))))))

-- a gap lies within the bytes, and isn't empty
pub front_of-gap : (bytes : List ℕ) (n : ℕ) → front_of bytes ≡ Gap n → (0 < n) × (n ≤ length bytes)
front_of-gap bytes n is = rw is at (front_of-fits bytes)

-- a token lies within the bytes, and isn't empty
pub front_of-found : (bytes : List ℕ) (sort : Sort) (n : ℕ) → front_of bytes ≡ Found sort n → (0 < n) × (n ≤ length bytes)
front_of-found bytes sort n is = rw is at (front_of-fits bytes)

-- a byte at which no token may begin is one of the bytes
pub front_of-bad : (bytes : List ℕ) (n : ℕ) → front_of bytes ≡ Bad n → n < length bytes
front_of-bad bytes n is = rw is at (front_of-fits bytes)

-- bytes spell one list of tokens at most
pub Spells-unique : (at : ℕ) (bytes : List ℕ) (xs ys : List Token) → Spells at bytes xs → Spells at bytes ys → xs ≡ ys
Spells-unique at bytes xs ys (nothing _ _ e) (nothing _ _ f) = refl
Spells-unique at bytes xs ys (nothing _ _ e) (spelling.Spells.passes _ m _ _ f k) = cc
Spells-unique at bytes xs ys (nothing _ _ e) (spelling.Spells.takes _ m sort _ _ f k) = cc
Spells-unique at bytes xs ys (spelling.Spells.passes _ n _ _ e h) (nothing _ _ f) = cc
Spells-unique at bytes xs ys (spelling.Spells.passes _ n _ _ e h) (spelling.Spells.passes _ m _ _ f k) =
    let same : n ≡ m = cc in
    Spells-unique (at + n) (drop n bytes) xs ys h (rw same k)
Spells-unique at bytes xs ys (spelling.Spells.passes _ n _ _ e h) (spelling.Spells.takes _ m sort _ _ f k) = cc
Spells-unique at bytes xs ys (spelling.Spells.takes _ n sort _ rest e h) (nothing _ _ f) = cc
Spells-unique at bytes xs ys (spelling.Spells.takes _ n sort _ rest e h) (spelling.Spells.passes _ m _ _ f k) = cc
Spells-unique at bytes xs ys (spelling.Spells.takes _ n sort _ rest e h) (spelling.Spells.takes _ m other _ more f k) =
    let same : n ≡ m = cc in
    let same_sort : sort ≡ other = cc in
    let same_rest : rest ≡ more = Spells-unique (at + n) (drop n bytes) rest more h (rw same k) in
    rw (same, same_sort, same_rest) refl

-- a front that is more is none of the two others
pub IsMore-gap : (front : Front) (n : ℕ) → front ≡ Gap n → IsMore front → ⊥
IsMore-gap front n is more = rw is at more

-- bytes are refused with one fault at most
pub RefusesBytes-unique : (count at : ℕ) (bytes : List ℕ) (x y : LexFault) → RefusesBytes count at bytes x → RefusesBytes count at bytes y → x ≡ y
RefusesBytes-unique count at bytes x y (spelling.RefusesBytes.passes _ _ n _ _ e h) (spelling.RefusesBytes.passes _ _ m _ _ f k) =
    let same : n ≡ m = cc in
    RefusesBytes-unique count (at + n) (drop n bytes) x y h (rw same k)
RefusesBytes-unique count at bytes x y (spelling.RefusesBytes.passes _ _ n _ _ e h) (spelling.RefusesBytes.takes _ _ m sort _ _ lt f k) = cc
RefusesBytes-unique count at bytes x y (spelling.RefusesBytes.passes _ _ n _ _ e h) (too_many _ _ more) = absurd (IsMore-gap (front_of bytes) n e more)
RefusesBytes-unique count at bytes x y (spelling.RefusesBytes.passes _ _ n _ _ e h) (bad _ _ m _ lt f) = cc
RefusesBytes-unique count at bytes x y (spelling.RefusesBytes.passes _ _ n _ _ e h) (open_text _ _ _ lt f) = cc
RefusesBytes-unique count at bytes x y (spelling.RefusesBytes.passes _ _ n _ _ e h) (too_wide _ _ _ lt f) = cc
RefusesBytes-unique count at bytes x y (spelling.RefusesBytes.takes _ _ n sort _ _ lt e h) (spelling.RefusesBytes.passes _ _ m _ _ f k) = cc
RefusesBytes-unique count at bytes x y (spelling.RefusesBytes.takes _ _ n sort _ _ lt e h) (spelling.RefusesBytes.takes _ _ m other _ _ lt2 f k) =
    let same : n ≡ m = cc in
    RefusesBytes-unique (count + 1) (at + n) (drop n bytes) x y h (rw same k)
RefusesBytes-unique count at bytes x y (spelling.RefusesBytes.takes _ _ n sort _ _ lt e h) (too_many _ _ more) = absurd (omega (arith, lt))
RefusesBytes-unique count at bytes x y (spelling.RefusesBytes.takes _ _ n sort _ _ lt e h) (bad _ _ m _ lt2 f) = cc
RefusesBytes-unique count at bytes x y (spelling.RefusesBytes.takes _ _ n sort _ _ lt e h) (open_text _ _ _ lt2 f) = cc
RefusesBytes-unique count at bytes x y (spelling.RefusesBytes.takes _ _ n sort _ _ lt e h) (too_wide _ _ _ lt2 f) = cc
RefusesBytes-unique count at bytes x y (too_many _ _ more) (spelling.RefusesBytes.passes _ _ m _ _ f k) = absurd (IsMore-gap (front_of bytes) m f more)
RefusesBytes-unique count at bytes x y (too_many _ _ more) (spelling.RefusesBytes.takes _ _ m other _ _ lt2 f k) = absurd (omega (arith, lt2))
RefusesBytes-unique count at bytes x y (too_many _ _ more) (too_many _ _ more2) = refl
RefusesBytes-unique count at bytes x y (too_many _ _ more) (bad _ _ m _ lt2 f) = absurd (omega (arith, lt2))
RefusesBytes-unique count at bytes x y (too_many _ _ more) (open_text _ _ _ lt2 f) = absurd (omega (arith, lt2))
RefusesBytes-unique count at bytes x y (too_many _ _ more) (too_wide _ _ _ lt2 f) = absurd (omega (arith, lt2))
RefusesBytes-unique count at bytes x y (bad _ _ n _ lt e) (spelling.RefusesBytes.passes _ _ m _ _ f k) = cc
RefusesBytes-unique count at bytes x y (bad _ _ n _ lt e) (spelling.RefusesBytes.takes _ _ m other _ _ lt2 f k) = cc
RefusesBytes-unique count at bytes x y (bad _ _ n _ lt e) (too_many _ _ more) = absurd (omega (arith, lt))
RefusesBytes-unique count at bytes x y (bad _ _ n _ lt e) (bad _ _ m _ lt2 f) = let same : n ≡ m = cc in rw same refl
RefusesBytes-unique count at bytes x y (bad _ _ n _ lt e) (open_text _ _ _ lt2 f) = cc
RefusesBytes-unique count at bytes x y (bad _ _ n _ lt e) (too_wide _ _ _ lt2 f) = cc
RefusesBytes-unique count at bytes x y (open_text _ _ _ lt e) (spelling.RefusesBytes.passes _ _ m _ _ f k) = cc
RefusesBytes-unique count at bytes x y (open_text _ _ _ lt e) (spelling.RefusesBytes.takes _ _ m other _ _ lt2 f k) = cc
RefusesBytes-unique count at bytes x y (open_text _ _ _ lt e) (too_many _ _ more) = absurd (omega (arith, lt))
RefusesBytes-unique count at bytes x y (open_text _ _ _ lt e) (bad _ _ m _ lt2 f) = cc
RefusesBytes-unique count at bytes x y (open_text _ _ _ lt e) (open_text _ _ _ lt2 f) = refl
RefusesBytes-unique count at bytes x y (open_text _ _ _ lt e) (too_wide _ _ _ lt2 f) = cc
RefusesBytes-unique count at bytes x y (too_wide _ _ _ lt e) (spelling.RefusesBytes.passes _ _ m _ _ f k) = cc
RefusesBytes-unique count at bytes x y (too_wide _ _ _ lt e) (spelling.RefusesBytes.takes _ _ m other _ _ lt2 f k) = cc
RefusesBytes-unique count at bytes x y (too_wide _ _ _ lt e) (too_many _ _ more) = absurd (omega (arith, lt))
RefusesBytes-unique count at bytes x y (too_wide _ _ _ lt e) (bad _ _ m _ lt2 f) = cc
RefusesBytes-unique count at bytes x y (too_wide _ _ _ lt e) (open_text _ _ _ lt2 f) = cc
RefusesBytes-unique count at bytes x y (too_wide _ _ _ lt e) (too_wide _ _ _ lt2 f) = refl

-- the end is not more
IsMore-end : (front : Front) → front ≡ End → IsMore front → ⊥
IsMore-end front is more = rw is at more

-- bytes that spell few enough tokens aren't refused
pub Spells-not_refused : (count at : ℕ) (bytes : List ℕ) (tokens : List Token) (fault : LexFault) → count + length tokens ≤ most_tokens
    → Spells at bytes tokens → RefusesBytes count at bytes fault → ⊥
Spells-not_refused count at bytes tokens fault few (nothing _ _ e) (spelling.RefusesBytes.passes _ _ m _ _ f k) = cc
Spells-not_refused count at bytes tokens fault few (nothing _ _ e) (spelling.RefusesBytes.takes _ _ m other _ _ lt2 f k) = cc
Spells-not_refused count at bytes tokens fault few (nothing _ _ e) (too_many _ _ more) = IsMore-end (front_of bytes) e more
Spells-not_refused count at bytes tokens fault few (nothing _ _ e) (bad _ _ m _ lt2 f) = cc
Spells-not_refused count at bytes tokens fault few (nothing _ _ e) (open_text _ _ _ lt2 f) = cc
Spells-not_refused count at bytes tokens fault few (nothing _ _ e) (too_wide _ _ _ lt2 f) = cc
Spells-not_refused count at bytes tokens fault few (spelling.Spells.passes _ n _ _ e h) (spelling.RefusesBytes.passes _ _ m _ _ f k) =
    let same : n ≡ m = cc in
    Spells-not_refused count (at + n) (drop n bytes) tokens fault few h (rw same k)
Spells-not_refused count at bytes tokens fault few (spelling.Spells.passes _ n _ _ e h) (spelling.RefusesBytes.takes _ _ m other _ _ lt2 f k) = cc
Spells-not_refused count at bytes tokens fault few (spelling.Spells.passes _ n _ _ e h) (too_many _ _ more) = IsMore-gap (front_of bytes) n e more
Spells-not_refused count at bytes tokens fault few (spelling.Spells.passes _ n _ _ e h) (bad _ _ m _ lt2 f) = cc
Spells-not_refused count at bytes tokens fault few (spelling.Spells.passes _ n _ _ e h) (open_text _ _ _ lt2 f) = cc
Spells-not_refused count at bytes tokens fault few (spelling.Spells.passes _ n _ _ e h) (too_wide _ _ _ lt2 f) = cc
Spells-not_refused count at bytes tokens fault few (spelling.Spells.takes _ n sort _ rest e h) (spelling.RefusesBytes.passes _ _ m _ _ f k) = cc
Spells-not_refused count at bytes tokens fault few (spelling.Spells.takes _ n sort _ rest e h) (spelling.RefusesBytes.takes _ _ m other _ _ lt2 f k) =
    let same : n ≡ m = cc in
    Spells-not_refused (count + 1) (at + n) (drop n bytes) rest fault (omega (arith, few)) h (rw same k)
Spells-not_refused count at bytes tokens fault few (spelling.Spells.takes _ n sort _ rest e h) (too_many _ _ more) = omega (arith, few)
Spells-not_refused count at bytes tokens fault few (spelling.Spells.takes _ n sort _ rest e h) (bad _ _ m _ lt2 f) = cc
Spells-not_refused count at bytes tokens fault few (spelling.Spells.takes _ n sort _ rest e h) (open_text _ _ _ lt2 f) = cc
Spells-not_refused count at bytes tokens fault few (spelling.Spells.takes _ n sort _ rest e h) (too_wide _ _ _ lt2 f) = cc

-- a front that is neither a gap nor the end is more
pub IsMore-other : (front : Front) → (front ≡ End → ⊥) → ((n : ℕ) → front ≡ Gap n → ⊥) → IsMore front
IsMore-other End end gap = end refl
IsMore-other (Gap n) end gap = gap n refl
IsMore-other (Found sort n) end gap = tt
IsMore-other (Bad n) end gap = tt
IsMore-other Open end gap = tt
IsMore-other Wide end gap = tt

-- a front reaches no further than the bytes
reach-le : (front : Front) (size : ℕ) → FrontFits front size → reach front ≤ size
reach-le End size fits = omega arith
reach-le (Gap n) size fits = fits.1
reach-le (Found sort n) size fits = fits.1
reach-le (Bad n) size fits = omega (arith, fits)
reach-le Open size fits = omega arith
reach-le Wide size fits = omega arith

-- the bytes from a place on are those that remain of the script
pub rest_of : (at : ℕ) (script : List ℕ) → take (length script - at) (drop at script) ≡ drop at script
rest_of at script = rw (← length-drop at script) (take-length (drop at script))

-- a front reaches no further than the script
pub reach-within : (at : ℕ) (script : List ℕ) (front : Front) → at ≤ length script → front ≡ front_of (drop at script) → at + reach front ≤ length script
reach-within at script front le is =
    let h : reach front ≤ length (drop at script) = reach-le front (length (drop at script)) (rw is (front_of-fits (drop at script))) in
    omega (arith, h, length-drop at script)

-- what holds of a place in a script is what holds of another one in front of it
pub record Reaches (count from at : ℕ) (script : List ℕ) : Type 0 where
  pub spelled : (tokens : List Token) → Spells at (drop at script) tokens → Spells from (drop from script) tokens
  pub refused : (fault : LexFault) → RefusesBytes count at (drop at script) fault → RefusesBytes count from (drop from script) fault

-- the bytes behind a front
pub behind : (at n : ℕ) (script : List ℕ) → drop (at + n) script ≡ drop n (drop at script)
behind at n script = sym (drop-drop n at script)

-- a gap is passed over
pub Reaches-gap : (count from at n : ℕ) (script : List ℕ) → Gap n ≡ front_of (drop at script) → Reaches count from at script → Reaches count from (at + n) script
Reaches-gap count from at n script is h = record {
  spelled = λ tokens k. h.spelled tokens (spelling.Spells.passes at n (drop at script) tokens (sym is) (rw behind at k));
  refused = λ fault k. h.refused fault (spelling.RefusesBytes.passes count at n (drop at script) fault (sym is) (rw behind at k));
}

-- nothing is spelled at the end
pub Spells-end : (count from at : ℕ) (script : List ℕ) → End ≡ front_of (drop at script) → Reaches count from at script → Spells from (drop from script) []
Spells-end count from at script is h = h.spelled [] (nothing at (drop at script) (sym is))

-- a choice that is one of two
pub chosen : {A : Type 0} (b : Bool) (x y z : A) → (if b then x else y) ≡ z → ((b ≡ true) × (x ≡ z)) ⊎ ((b ≡ false) × (y ≡ z))
chosen true x y z e = inl (refl, e)
chosen false x y z e = inr (refl, e)

-- a token that a front gives is the next one
pub IsNext-token : (count from at : ℕ) (script : List ℕ) (front : Front) (token : Token) → from ≤ at → at ≤ length script → front ≡ front_of (drop at script)
    → Some (Ok token) ≡ token_or_fault count at front → Reaches count from at script → IsNext count from script token
IsNext-token count from at script End token before within is gives h = cc
IsNext-token count from at script (Gap n) token before within is gives h = cc
IsNext-token count from at script (Found sort n) token before within is gives h =
    let choice : (if nat_le most_tokens count then Err (TooManyTokens at) else Ok (token_at at sort n)) ≡ Ok token = cc in
    elim (chosen (nat_le most_tokens count) (Err (TooManyTokens at)) (Ok (token_at at sort n)) (Ok token) choice) [
      | inl many ↦ let e = many.1 in cc
      | inr one ↦
          let e = one.1 in
          let same : token_at at sort n ≡ token = cc in
          let room : count < most_tokens = leb-false most_tokens count one.0 in
          let size = front_of-found (drop at script) sort n (sym is) in
          rw (← same) (record {
            some = omega (arith, size.0);
            within = omega (arith, size.1, length-drop at script);
            few = room;
            spelled = λ tokens k. h.spelled (token_at at sort n ∷ tokens) (spelling.Spells.takes at n sort (drop at script) tokens (sym is) (rw behind at k));
            refused = λ fault k. h.refused fault (spelling.RefusesBytes.takes count at n sort (drop at script) fault room (sym is) (rw behind at k));
          })
    ]
IsNext-token count from at script (Bad n) token before within is gives h = cc
IsNext-token count from at script Open token before within is gives h = cc
IsNext-token count from at script Wide token before within is gives h = cc

-- what one fault of two is: the script has too many tokens, or it has room for one more
refused_by : (count at : ℕ) (bytes : List ℕ) (x fault : LexFault) → count ≤ most_tokens → IsMore (front_of bytes) → (count < most_tokens → RefusesBytes count at bytes x)
    → (if nat_le most_tokens count then TooManyTokens at else x) ≡ fault → RefusesBytes count at bytes fault
refused_by count at bytes x fault few more other e =
    elim (chosen (nat_le most_tokens count) (TooManyTokens at) x fault e) [
      | inl many ↦
          let full : count ≡ most_tokens = omega (arith, leb-true most_tokens count many.0) in
          rw (← many.1, full) (too_many at bytes more)
      | inr one ↦ rw (← one.1) (other (leb-false most_tokens count one.0))
    ]

-- a fault that a front gives refuses the bytes
pub RefusesBytes-fault : (count from at : ℕ) (script : List ℕ) (front : Front) (fault : LexFault) → count ≤ most_tokens → front ≡ front_of (drop at script)
    → Some (Err fault) ≡ token_or_fault count at front → Reaches count from at script → RefusesBytes count from (drop from script) fault
RefusesBytes-fault count from at script End fault few is gives h = cc
RefusesBytes-fault count from at script (Gap n) fault few is gives h = cc
RefusesBytes-fault count from at script (Found sort n) fault few is gives h =
    let choice : (if nat_le most_tokens count then Err (TooManyTokens at) else Ok (token_at at sort n)) ≡ Err fault = cc in
    elim (chosen (nat_le most_tokens count) (Err (TooManyTokens at)) (Ok (token_at at sort n)) (Err fault) choice) [
      | inl many ↦
          let e = many.1 in
          let same : TooManyTokens at ≡ fault = cc in
          let full : count ≡ most_tokens = omega (arith, leb-true most_tokens count many.0) in
          h.refused fault (rw (← same, full) (too_many at (drop at script) (rw (← is) tt)))
      | inr one ↦ let e = one.1 in cc
    ]
RefusesBytes-fault count from at script (Bad n) fault few is gives h =
    h.refused fault (refused_by count at (drop at script) (BadByte (at + n)) fault few (rw (← is) tt) (λ room. bad count at n (drop at script) room (sym is)) cc)
RefusesBytes-fault count from at script Open fault few is gives h =
    h.refused fault (refused_by count at (drop at script) (OpenText at) fault few (rw (← is) tt) (λ room. open_text count at (drop at script) room (sym is)) cc)
RefusesBytes-fault count from at script Wide fault few is gives h =
    h.refused fault (refused_by count at (drop at script) (NumberTooWide at) fault few (rw (← is) tt) (λ room. too_wide count at (drop at script) room (sym is)) cc)

-- tokens in order from a place on are in order from any place in front of it
TokensInOrder-earlier : (from at : ℕ) (tokens : List Token) (to : ℕ) → from ≤ at → TokensInOrder at tokens to → TokensInOrder from tokens to
TokensInOrder-earlier from at [] to before h = omega (arith, h)
TokensInOrder-earlier from at (token ∷ rest) to before h = (omega (arith, h.0), h.1, h.2)

-- the tokens that bytes spell are in order, and lie within them
pub TokensInOrder-spelled : (at : ℕ) (bytes : List ℕ) (tokens : List Token) → Spells at bytes tokens → TokensInOrder at tokens (at + length bytes)
TokensInOrder-spelled at bytes tokens (nothing _ _ e) = omega arith
TokensInOrder-spelled at bytes tokens (spelling.Spells.passes _ n _ _ e h) =
    let size = front_of-gap bytes n e in
    let same : at + n + length (drop n bytes) ≡ at + length bytes = omega (arith, length-drop n bytes, size.1) in
    TokensInOrder-earlier at (at + n) tokens (at + length bytes) (omega arith) (rw same at (TokensInOrder-spelled (at + n) (drop n bytes) tokens h))
TokensInOrder-spelled at bytes tokens (spelling.Spells.takes _ n sort _ rest e h) =
    let size = front_of-found bytes sort n e in
    let same : at + n + length (drop n bytes) ≡ at + length bytes = omega (arith, length-drop n bytes, size.1) in
    (omega arith, omega (arith, size.0), rw same at (TokensInOrder-spelled (at + n) (drop n bytes) rest h))
