-- The tokens that a script spells, and the place at which it spells none.
use Rattle.std.specs.Prelude.{ℕ, ◌≡◌, ◌+◌, ◌<◌, ◌≤◌, nat_le, List, [], ◌∷◌, length, drop, Option, Some, None, Result, Ok, Err, if◌then◌else◌}
use Rattle.rs_lex.specs.Front.{front_of}
use Rattle.rs_lex.specs.declared.token.Sort.{Sort}
use Rattle.rs_lex.specs.declared.token.Token.{Token}
use Rattle.rs_lex.specs.declared.front.Front.{Front}
use Rattle.rs_lex.specs.declared.front.Front.TheVariants.{End, Gap, Found, Bad, Open, Wide}
use Rattle.rs_lex.specs.declared.fault.LexFault.{LexFault}
use Rattle.rs_lex.specs.declared.fault.LexFault.TheVariants.{BadByte, OpenText, NumberTooWide, TooManyTokens}

-- the most tokens of a script
abbrev pub most_tokens : ℕ
most_tokens = 100000

-- a token of this sort, of this many bytes from a place on
abbrev pub token_at : ℕ → Sort → ℕ → Token
token_at at sort n = record { sort = sort; at = record { start = at; end = at + n } }

-- the bytes of a script from a place on spell these tokens: what stands between tokens is passed over, and at each place
-- the longest token is taken
pub data Spells : ℕ → List ℕ → List Token → Type 0 where
  nothing : (at : ℕ) (bytes : List ℕ) → front_of bytes ≡ End → Spells at bytes []
  passes : (at n : ℕ) (bytes : List ℕ) (tokens : List Token) → front_of bytes ≡ Gap n → Spells (at + n) (drop n bytes) tokens → Spells at bytes tokens
  takes : (at n : ℕ) (sort : Sort) (bytes : List ℕ) (tokens : List Token) → front_of bytes ≡ Found sort n → Spells (at + n) (drop n bytes) tokens
      → Spells at bytes (token_at at sort n ∷ tokens)

-- a front that is no gap and not the end
abbrev pub IsMore : Front → Type 0
IsMore End = ⊥
IsMore (Gap n) = ⊥
IsMore (Found sort n) = Unit {0}
IsMore (Bad n) = Unit {0}
IsMore Open = Unit {0}
IsMore Wide = Unit {0}

-- behind this many tokens, the bytes of a script from a place on are refused with this fault: that of the first place
-- at which there is one, and there too many tokens come before all others
pub data RefusesBytes : ℕ → ℕ → List ℕ → LexFault → Type 0 where
  passes : (count at n : ℕ) (bytes : List ℕ) (fault : LexFault) → front_of bytes ≡ Gap n → RefusesBytes count (at + n) (drop n bytes) fault → RefusesBytes count at bytes fault
  takes : (count at n : ℕ) (sort : Sort) (bytes : List ℕ) (fault : LexFault) → count < most_tokens → front_of bytes ≡ Found sort n
      → RefusesBytes (count + 1) (at + n) (drop n bytes) fault → RefusesBytes count at bytes fault
  too_many : (at : ℕ) (bytes : List ℕ) → IsMore (front_of bytes) → RefusesBytes most_tokens at bytes (TooManyTokens at)
  bad : (count at n : ℕ) (bytes : List ℕ) → count < most_tokens → front_of bytes ≡ Bad n → RefusesBytes count at bytes (BadByte (at + n))
  open_text : (count at : ℕ) (bytes : List ℕ) → count < most_tokens → front_of bytes ≡ Open → RefusesBytes count at bytes (OpenText at)
  too_wide : (count at : ℕ) (bytes : List ℕ) → count < most_tokens → front_of bytes ≡ Wide → RefusesBytes count at bytes (NumberTooWide at)

-- from one place up to another, tokens stand one behind the other: none is empty, no two share a byte, and all lie in
-- between
abbrev pub TokensInOrder : ℕ → List Token → ℕ → Type 0
TokensInOrder from [] to = from ≤ to
TokensInOrder from (token ∷ rest) to = (from ≤ token.at.start) × (token.at.start < token.at.end) × TokensInOrder token.at.end rest to

-- how far a front reaches
abbrev pub reach : Front → ℕ
reach End = 0
reach (Gap n) = n
reach (Found sort n) = n
reach (Bad n) = n
reach Open = 0
reach Wide = 0

-- the token at a place where a front stands, behind this many tokens, or why there is none; nothing at a gap and at the end
abbrev pub token_or_fault : ℕ → ℕ → Front → Option (Result Token LexFault)
token_or_fault count at End = None
token_or_fault count at (Gap n) = None
token_or_fault count at (Found sort n) = Some (if nat_le most_tokens count then Err (TooManyTokens at) else Ok (token_at at sort n))
token_or_fault count at (Bad n) = Some (Err (if nat_le most_tokens count then TooManyTokens at else BadByte (at + n)))
token_or_fault count at Open = Some (Err (if nat_le most_tokens count then TooManyTokens at else OpenText at))
token_or_fault count at Wide = Some (Err (if nat_le most_tokens count then TooManyTokens at else NumberTooWide at))

-- a token is the next one from a place on, behind this many tokens: what the bytes behind it spell, or are refused with, is
-- what follows it
pub record IsNext (count at : ℕ) (script : List ℕ) (token : Token) : Type 0 where
  pub some : at < token.at.end
  pub within : token.at.end ≤ length script
  pub few : count < most_tokens
  pub spelled : (tokens : List Token) → Spells token.at.end (drop token.at.end script) tokens → Spells at (drop at script) (token ∷ tokens)
  pub refused : (fault : LexFault) → RefusesBytes (count + 1) token.at.end (drop token.at.end script) fault → RefusesBytes count at (drop at script) fault
