-- Decimal digits, read one at a time.
use Rattle.std.proofs.Common.{ℕ, ◌≡◌, ◌+◌, ◌-◌, ◌*◌, ◌<◌, ◌≤◌, ◌&&◌, Bool, true, false, nat_le, List, [], ◌∷◌, Some, None, length, get_or, drop, suc, drop-cons, fold, refl, arith, if◌then◌else◌}
use Rattle.std.proofs.lemmas.Bool.{lt-leb}
use Rattle.rs_value.specs.Number.{number_of, decimal_value, are_digits}

-- the number so far is at most the number of all
pub number_rises : (n : ℕ) (digits : List ℕ) → n ≤ fold (λ n digit. 10 * n + (digit - 48)) n digits
number_rises n [] = omega arith
number_rises n (d ∷ ds) = omega (arith, number_rises (10 * n + (d - 48)) ds)

no_value : (most : ℕ) (digits : List ℕ) (b : Bool) → nat_le (number_of digits) most ≡ false → (if b && nat_le (number_of digits) most then Some (number_of digits) else None) ≡ None
no_value most digits true e = rw e refl
no_value most digits false e = refl

-- a number that is too great with the digit at i stays so
pub decimal_value-above : (most n i : ℕ) (digits : List ℕ) → i < length digits → most < 10 * n + (get_or digits i 0 - 48)
    → fold (λ n digit. 10 * n + (digit - 48)) n (drop i digits) ≡ number_of digits → decimal_value most digits ≡ None
decimal_value-above most n i digits within above e =
    let step : fold (λ n digit. 10 * n + (digit - 48)) (10 * n + (get_or digits i 0 - 48)) (drop (suc i) digits) ≡ number_of digits = let s = drop-cons digits i 0 within in rw s at e in
    let far : most < number_of digits = omega (arith, number_rises (10 * n + (get_or digits i 0 - 48)) (drop (suc i) digits)) in
    no_value most digits (are_digits digits) (lt-leb _ _ far)
