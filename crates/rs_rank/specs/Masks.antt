-- Sets of entries or terms, which are numbered from 1, as masks: bit `i - 1` stands for number `i`.
use Rattle.std.specs.Prelude.{ℕ, ◌≡◌, ◌-◌, ◌/◌, ◌%◌, ◌^◌, ◌==◌, Bool, bit_and}

-- the mask of one number alone
abbrev pub mask_of : ℕ → ℕ
mask_of number = 2 ^ (number - 1)

-- whether a number is in a mask
abbrev pub has_number : ℕ → ℕ → Bool
has_number mask number = mask / 2 ^ (number - 1) % 2 == 1

-- no number is in both masks
abbrev pub AreDisjoint : ℕ → ℕ → Type 0
AreDisjoint left right = bit_and left right ≡ 0
