-- Each script has tokens, or a fault.
use Rattle.std.proofs.Common.{ℕ, zero, suc, ◌≡◌, ◌+◌, ◌≤◌, ◌⊎◌, inl, inr, List, [], ◌∷◌, length, drop, refl, arith, length-drop}
use Rattle.std.proofs.lemmas.Bool.{cases_lt}
use Rattle.rs_lex.specs.Front.{front_of}
use Rattle.rs_lex.specs.Spelling.{Spells, nothing, RefusesBytes, IsMore, too_many, bad, open_text, too_wide, most_tokens, token_at}
use Rattle.rs_lex.specs.Spelling as spelling
use Rattle.rs_lex.specs.declared.token.Token.{Token}
use Rattle.rs_lex.specs.declared.front.Front.{Front}
use Rattle.rs_lex.specs.declared.front.Front.TheVariants.{End, Gap, Found, Bad, Open, Wide}
use Rattle.rs_lex.specs.declared.fault.LexFault.{LexFault}
use Rattle.rs_lex.specs.declared.fault.LexFault.TheVariants.{BadByte, OpenText, NumberTooWide, TooManyTokens}
use Rattle.rs_lex.proofs.FrontFacts.{front_of-end}
use Rattle.rs_lex.proofs.SpellingFacts.{front_of-gap, front_of-found}

-- behind this many tokens, bytes spell so many more as there may be, or they are refused
abbrev IsLexed : ℕ → ℕ → List ℕ → Type 0
IsLexed count at bytes =
    ((tokens : List Token) × (count + length tokens ≤ most_tokens) × Spells at bytes tokens) ⊎ ((fault : LexFault) × RefusesBytes count at bytes fault)

-- the same of all bytes of at most this length
abbrev AreLexed : ℕ → Type 0
AreLexed size = (count at : ℕ) (bytes : List ℕ) → length bytes ≤ size → count ≤ most_tokens → IsLexed count at bytes

-- a fault that stands behind fewer tokens than there may be; behind as many as there may be, there are too many
refused : (count at : ℕ) (bytes : List ℕ) (fault : LexFault) → count ≤ most_tokens → IsMore (front_of bytes) → (suc count ≤ most_tokens → RefusesBytes count at bytes fault)
    → IsLexed count at bytes
refused count at bytes fault few more other =
    elim (cases_lt count most_tokens) [
      | inl room ↦ inr (fault, other (omega (arith, room)))
      | inr full ↦ let same : count ≡ most_tokens = omega (arith, full) in inr (TooManyTokens at, rw same (too_many at bytes more))
    ]

-- by what stands at the front
by_front : (size : ℕ) → AreLexed size → (count at : ℕ) (bytes : List ℕ) → length bytes ≤ suc size → count ≤ most_tokens → (front : Front) → front_of bytes ≡ front
    → IsLexed count at bytes
by_front size next count at bytes le few End is = inl ([], omega arith, nothing at bytes is)
by_front size next count at bytes le few (Gap n) is =
    let fits = front_of-gap bytes n is in
    elim (next count (at + n) (drop n bytes) (omega (arith, length-drop n bytes, fits.0, fits.1)) few) [
      | inl found ↦ inl (found.0, found.1, spelling.Spells.passes at n bytes found.0 is found.2)
      | inr none ↦ inr (none.0, spelling.RefusesBytes.passes count at n bytes none.0 is none.1)
    ]
by_front size next count at bytes le few (Found sort n) is =
    elim (cases_lt count most_tokens) [
      | inl room ↦
          let fits = front_of-found bytes sort n is in
          elim (next (count + 1) (at + n) (drop n bytes) (omega (arith, length-drop n bytes, fits.0, fits.1)) (omega (arith, room))) [
            | inl found ↦ inl (token_at at sort n ∷ found.0, omega (arith, found.1), spelling.Spells.takes at n sort bytes found.0 is found.2)
            | inr none ↦ inr (none.0, spelling.RefusesBytes.takes count at n sort bytes none.0 room is none.1)
          ]
      | inr full ↦ let same : count ≡ most_tokens = omega (arith, full) in inr (TooManyTokens at, rw same (too_many at bytes (rw is tt)))
    ]
by_front size next count at bytes le few (Bad n) is = refused count at bytes (BadByte (at + n)) few (rw is tt) (λ room. bad count at n bytes room is)
by_front size next count at bytes le few Open is = refused count at bytes (OpenText at) few (rw is tt) (λ room. open_text count at bytes room is)
by_front size next count at bytes le few Wide is = refused count at bytes (NumberTooWide at) few (rw is tt) (λ room. too_wide count at bytes room is)

each_is_lexed : (size : ℕ) → AreLexed size
each_is_lexed zero = λ count at bytes le few. inl ([], omega arith, nothing at bytes (front_of-end bytes (omega arith)))
each_is_lexed (suc size) = λ count at bytes le few. by_front size (each_is_lexed size) count at bytes le few (front_of bytes) refl

-- a whole script
pub script-is_lexed : (script : List ℕ) → ((tokens : List Token) × (length tokens ≤ most_tokens) × Spells 0 script tokens) ⊎ ((fault : LexFault) × RefusesBytes 0 0 script fault)
script-is_lexed script =
    elim (each_is_lexed (length script) 0 0 script (omega arith) (omega arith)) [
      | inl found ↦ inl (found.0, omega (arith, found.1), found.2)
      | inr none ↦ inr none
    ]
