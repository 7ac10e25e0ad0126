-- The numbers of two masks, one at a time.
use Rattle.std.proofs.Common.{◌≡◌, ℕ, suc, ◌/◌, ◌%◌, ◌^◌, bit_and, bit_or, max, min, sym, ◌∙◌, ap, arith}
use Rattle.std.specs.Int.Bits.{or_step, and_step}
use Rattle.std.proofs.Math.Nat.{pow-suc, mul_comm, div-div-eq-div-mul}

-- the first number is in the union if it is in one of both
pub bit_or-first : (a b : ℕ) → bit_or a b % 2 ≡ max (a % 2) (b % 2)
bit_or-first a b = grind (arith, or_step a b)

-- the others are those of both
pub bit_or-others : (a b : ℕ) → bit_or a b / 2 ≡ bit_or (a / 2) (b / 2)
bit_or-others a b = grind (arith, or_step a b)

-- the same of what both have
pub bit_and-first : (a b : ℕ) → bit_and a b % 2 ≡ min (a % 2) (b % 2)
bit_and-first a b = grind (arith, and_step a b)

pub bit_and-others : (a b : ℕ) → bit_and a b / 2 ≡ bit_and (a / 2) (b / 2)
bit_and-others a b = grind (arith, and_step a b)

-- halving once more, before or behind
pub half-before : (a i : ℕ) → a / 2 ^ suc i ≡ a / 2 / 2 ^ i
half-before a i = ap (λ n. a / n) (pow-suc 2 i ∙ mul_comm (2 ^ i) 2) ∙ sym (div-div-eq-div-mul a 2 (2 ^ i))

pub half-behind : (a i : ℕ) → a / 2 ^ suc i ≡ a / 2 ^ i / 2
half-behind a i = ap (λ n. a / n) (pow-suc 2 i) ∙ sym (div-div-eq-div-mul a (2 ^ i) 2)

-- the half of a doubled power
pub half-power : (i : ℕ) → 2 ^ suc i / 2 ≡ 2 ^ i
half-power i = let e = pow-suc 2 i in omega arith

pub even-power : (i : ℕ) → 2 ^ suc i % 2 ≡ 0
even-power i = let e = pow-suc 2 i in omega arith
