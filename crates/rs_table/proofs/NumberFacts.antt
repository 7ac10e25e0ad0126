-- The numbers that cells write are in range.
use Rattle.std.proofs.Common.{ℕ, ℤ, pos, ◌≡◌, ◌&&◌, Bool, true, false, nat_le, List, [], ◌∷◌, zero, suc, sym, refl, ap, ◌∙◌, if◌then◌else◌, ◌==◌}
use Rattle.std.specs.Prelude.{nat_abs, neg_ℤ, Option, Some, None, option_map}
use Rattle.rs_value.specs.Number.{number_of, are_digits, decimal_value, int_value, greatest_int}

-- the magnitude of a number with its sign turned
nat_abs-neg : (n : ℕ) → nat_abs (neg_ℤ (pos n)) ≡ n
nat_abs-neg zero = refl
nat_abs-neg (suc n) = refl

-- a decimal number is at most the greatest
decimal_value-le : (most : ℕ) (digits : List ℕ) (n : ℕ) → decimal_value most digits ≡ Some n → nat_le n most ≡ true
decimal_value-le most digits n = go (are_digits digits) (nat_le (number_of digits) most) refl where
  go : (a b : Bool) → nat_le (number_of digits) most ≡ b → (if a && b then Some (number_of digits) else None) ≡ Some n → nat_le n most ≡ true
  go true true small e = let same : number_of digits ≡ n = cc in rw (← same) small
  go true false small e = cc
  go false b small e = cc

-- with a sign before it or not, the magnitude stays
within_by : (signed : ℕ → ℤ) → ((n : ℕ) → nat_abs (signed n) ≡ n) → (digits : List ℕ) (z : ℤ)
    → option_map signed (decimal_value greatest_int digits) ≡ Some z → nat_le (nat_abs z) greatest_int ≡ true
within_by signed same digits z = go (decimal_value greatest_int digits) refl where
  go : (value : Option ℕ) → decimal_value greatest_int digits ≡ value → option_map signed value ≡ Some z → nat_le (nat_abs z) greatest_int ≡ true
  go None is e = cc
  go (Some n) is e =
      let z_is : signed n ≡ z = cc in
      let size : nat_abs z ≡ n = ap nat_abs (sym z_is) ∙ same n in
      rw size (decimal_value-le greatest_int digits n is)

-- a cell's number is in range
pub int_value-within : (field : List ℕ) (z : ℤ) → int_value field ≡ Some z → nat_le (nat_abs z) greatest_int ≡ true
int_value-within [] z e = cc
int_value-within (first ∷ rest) z e = go (first == 45) e where
  go : (minus : Bool) → (if minus then option_map (λ n. neg_ℤ (pos n)) (decimal_value greatest_int rest) else option_map (λ n. pos n) (decimal_value greatest_int (if first == 43 then rest else first ∷ rest))) ≡ Some z → nat_le (nat_abs z) greatest_int ≡ true
  go true e = within_by (λ n. neg_ℤ (pos n)) nat_abs-neg rest z e
  go false e = within_by (λ n. pos n) (λ n. refl) (if first == 43 then rest else first ∷ rest) z e
