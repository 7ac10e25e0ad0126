-- The lines that have a case, the words of a line, and the bytes that escapes stand for.
use Rattle.std.specs.Prelude.{ℕ, ◌+◌, ◌-◌, ◌==◌, nat_le, Bool, false, not, List, [], ◌∷◌, take, drop, position, Option, Some, None, option_map, unwrap_or, ◌&&◌, if◌then◌else◌}

-- a line has a case unless it is empty or begins with '#'
abbrev pub has_case : List ℕ → Bool
has_case [] = false
has_case (byte ∷ rest) = not (byte == 35)

-- the place of the first space
abbrev pub first_space : List ℕ → Option ℕ
first_space line = position (λ byte. byte == 32) line

-- what stands in front of the first space: the whole line where there is none
abbrev pub word_of : List ℕ → List ℕ
word_of line = unwrap_or (option_map (λ at. take at line) (first_space line)) line

-- what stands behind it
abbrev pub behind_word : List ℕ → List ℕ
behind_word line = unwrap_or (option_map (λ at. drop (at + 1) line) (first_space line)) []

-- the byte that a backslash and a letter stand for: a line feed by `n`, a carriage return by `r`, a tab by `t`, a space by
-- `s` and a backslash by a second one
abbrev pub letter_meaning : ℕ → Option ℕ
letter_meaning letter =
    if letter == 110 then Some 10
    else if letter == 114 then Some 13
    else if letter == 116 then Some 9
    else if letter == 115 then Some 32
    else if letter == 92 then Some 92
    else None

-- the number of a hexadecimal digit: `0` to `9`, and `A` to `F`
abbrev pub digit_meaning : ℕ → Option ℕ
digit_meaning digit =
    if nat_le 48 digit && nat_le digit 57 then Some (digit - 48)
    else if nat_le 65 digit && nat_le digit 70 then Some (digit - 55)
    else None
