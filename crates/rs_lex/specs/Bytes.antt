-- Bytes of a script, by what they may be part of.
use Rattle.std.specs.Prelude.{ℕ, ◌==◌, ◌&&◌, ◌||◌, nat_le, Bool, false, List, [], ◌∷◌}

-- whether a byte lies between two others
abbrev pub is_from : ℕ → ℕ → ℕ → Bool
is_from low high byte = nat_le low byte && nat_le byte high

-- A to Z, a to z or `_`
abbrev pub is_letter : ℕ → Bool
is_letter byte = is_from 65 90 byte || is_from 97 122 byte || (byte == 95)

-- 0 to 9
abbrev pub is_digit : ℕ → Bool
is_digit byte = is_from 48 57 byte

-- a letter, a digit or `_`
abbrev pub is_word_byte : ℕ → Bool
is_word_byte byte = is_letter byte || is_digit byte

-- a space, a tab, a line feed or a carriage return
abbrev pub is_blank : ℕ → Bool
is_blank byte = (byte == 32) || (byte == 9) || (byte == 10) || (byte == 13)

-- whether the first byte, if there is one, passes a test
abbrev pub begins : (ℕ → Bool) → List ℕ → Bool
begins test [] = false
begins test (byte ∷ rest) = test byte

-- the marks of a name and of a text
abbrev pub quote : ℕ
quote = 34

abbrev pub apostrophe : ℕ
apostrophe = 39
