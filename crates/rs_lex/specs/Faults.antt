-- What the faults of a script mean, said of its bytes alone.
use Rattle.std.specs.Prelude.{ℕ, ◌≡◌, ◌-◌, ◌<◌, ◌≤◌, ◌++◌, ◌⊎◌, IsTrue, List, ◌∷◌, codes, length, take, drop}
use Rattle.rs_value.specs.Number.{number_of, are_digits, greatest_int}
use Rattle.rs_lex.specs.Bytes.{is_letter, is_digit, is_blank, begins, quote, apostrophe}
use Rattle.rs_lex.specs.Tokens.{IsToken, doubled}
use Rattle.rs_lex.specs.declared.token.Sort.{Sort}
use Rattle.rs_lex.specs.declared.token.Sort.TheVariants.{Number}
use Rattle.rs_lex.specs.declared.fault.LexFault.{LexFault}
use Rattle.rs_lex.specs.declared.fault.LexFault.TheVariants.{BadByte, OpenText, NumberTooWide, TooManyTokens, Memory}

-- a mark opens a text or a name that is never closed: behind it, up to the end of the script, each such mark is one of two
-- that stand together, from left to right
pub record IsOpen (rest : List ℕ) : Type 0 where
  pub mark : ℕ
  pub is_mark : (mark ≡ quote) ⊎ (mark ≡ apostrophe)
  pub text : List ℕ
  pub opens : rest ≡ mark ∷ doubled mark text

-- digits, all that stand there, whose number is too great
pub record IsWide (rest : List ℕ) : Type 0 where
  pub size : ℕ
  pub within : size ≤ length rest
  pub digits : IsTrue (are_digits (take size rest))
  pub whole : IsTrue (begins is_digit (drop size rest)) → ⊥
  pub wide : greatest_int < number_of (take size rest)

-- this many bytes at the front are a number, and a letter stands directly behind them
pub record HasLetterBehind (n : ℕ) (rest : List ℕ) : Type 0 where
  pub number : IsToken Number (take n rest)
  pub letter : IsTrue (begins is_letter (drop n rest))

-- something stands there that is neither a blank nor a comment
pub record BeginsOther (rest : List ℕ) : Type 0 where
  pub some : 0 < length rest
  pub no_blank : IsTrue (begins is_blank rest) → ⊥
  pub no_comment : (more : List ℕ) → rest ≡ codes "--" ++ more → ⊥

-- no token begins there: no piece of the script from that byte on is one of any sort. A text that is never closed is a
-- fault of its own
pub record BeginsNoToken (rest : List ℕ) : Type 0 where
  pub other : BeginsOther rest
  pub no_token : (sort : Sort) (n : ℕ) → n ≤ length rest → IsToken sort (take n rest) → ⊥
  pub not_open : IsOpen rest → ⊥

-- what stands at the place that a fault tells. A bad byte is one at which no token begins, which the first mark of an empty
-- name is too, or it is a letter directly behind a number
abbrev pub IsFault : List ℕ → LexFault → Type 0
IsFault script (BadByte at) = BeginsNoToken (drop at script) ⊎ ((n : ℕ) × (n ≤ at) × HasLetterBehind n (drop (at - n) script))
IsFault script (OpenText at) = IsOpen (drop at script)
IsFault script (NumberTooWide at) = IsWide (drop at script)
IsFault script (TooManyTokens at) = BeginsOther (drop at script)
IsFault script Memory = ⊥
