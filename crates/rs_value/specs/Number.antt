-- Numbers in decimal digits.
use Rattle.std.specs.Prelude.{ℕ, ℤ, pos, ◌+◌, ◌-◌, ◌*◌, ◌==◌, ◌&&◌, Bool, false, nat_le, List, [], ◌∷◌, fold, Option, Some, None, option_map, if◌then◌else◌}
use Rattle.std.specs.List.{list_all}
use Rattle.std.specs.Char.{is_ascii_digit}
use Rattle.std.specs.Prelude.{neg_ℤ}

-- the number that decimal digits write, the first one the greatest
abbrev pub number_of : List ℕ → ℕ
number_of digits = fold (λ n digit. 10 * n + (digit - 48)) 0 digits

-- one or more decimal digits
abbrev pub are_digits : List ℕ → Bool
are_digits [] = false
are_digits (digit ∷ rest) = list_all is_ascii_digit (digit ∷ rest)

-- the number that digits write, where there is at least one digit and nothing else, and it is at most `most`
abbrev pub decimal_value : ℕ → List ℕ → Option ℕ
decimal_value most digits = if are_digits digits && nat_le (number_of digits) most then Some (number_of digits) else None

-- the greatest magnitude of a number in a table or a script
abbrev pub greatest_int : ℕ
greatest_int = 4000000000000000000

-- a number with an optional sign, `+` or `-`, of a magnitude of at most 4,000,000,000,000,000,000
abbrev pub int_value : List ℕ → Option ℤ
int_value [] = None
int_value (first ∷ rest) =
    if first == 45 then option_map (λ n. neg_ℤ (pos n)) (decimal_value greatest_int rest)
    else option_map (λ n. pos n) (decimal_value greatest_int (if first == 43 then rest else first ∷ rest))
